use mathlib.Core.Path.{◌≡◌}
use Rattle.symbols.proofs.Spelled.{spelled_to}
use Rattle.symbols.proofs.spell.Given as goal

abbrev pub invariant-loop-x : goal.invariant-loop-x
invariant-loop-x l = l.symbols ≡ spelled_to l.x-index l.initial.symbols
