use mathlib.Core.Path.{◌≡◌}
use mathlib.Core.Bool.{◌||◌}
use lib.ListN.{drop}
use Rattle.code.specs.Symbols.{has_unknown}
use Rattle.symbols.proofs.has_unknown.Given as goal

abbrev pub invariant-loop-x : goal.invariant-loop-x
invariant-loop-x l = (l.found || has_unknown (drop l.x-index l.letters)) ≡ has_unknown l.letters
