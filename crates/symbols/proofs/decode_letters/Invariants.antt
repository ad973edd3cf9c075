use mathlib.Core.Path.{◌≡◌}
use mathlib.Core.Bool.{true}
use mathlib.Core.List.{◌++◌}
use lib.ListN.{take, drop}
use Rattle.code.specs.Symbols.{legible}
use Rattle.symbols.specs.Letters.{all_letters}
use Rattle.symbols.proofs.Loops.{Letters}
use Rattle.symbols.proofs.decode_letters.Given as goal

abbrev pub invariant-loop-i : goal.invariant-loop-i
invariant-loop-i l = (l.out ≡ take l.i (legible l.letters) ++ drop l.i l.initial.out) × Letters l.letters l.i × (all_letters l.unknown (drop l.i l.letters) ≡ true)
