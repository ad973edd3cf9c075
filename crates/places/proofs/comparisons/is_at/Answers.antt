use mathlib.Core.Path.{sym, ◌∙◌}
use borrow.Author.Tests.{le-ltb}
use Rattle.places.proofs.TestsAtPlaces.{one_inside, one_past}
use Rattle.places.proofs.comparisons.is_at.Goals as goal

pub returns-then-at-s : goal.returns-then-at-s
returns-then-at-s c = let a = c.args in sym (one_inside a.s.now a.at a.x c.if-at-s.true)

pub returns-else-at-s : goal.returns-else-at-s
returns-else-at-s c = let a = c.args in le-ltb _ _ c.if-at-s.false ∙ sym (one_past a.s.now a.at a.x c.if-at-s.false)
