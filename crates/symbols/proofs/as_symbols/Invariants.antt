use mathlib.Core.Path.{◌≡◌}
use mathlib.Core.List.{◌++◌}
use lib.ListN.{take, drop}
use Rattle.code.specs.Symbols.{as_symbols}
use Rattle.symbols.proofs.as_symbols.Given as goal

abbrev pub invariant-loop-i : goal.invariant-loop-i
invariant-loop-i l = l.out ≡ take l.i (as_symbols l.letters) ++ drop l.i l.initial.out
