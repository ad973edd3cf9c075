use mathlib.Core.Path.{sym, ◌∙◌}
use borrow.Author.Tests.{le-ltb}
use Rattle.places.proofs.TestsAtPlaces.{two_inside, two_past}
use Rattle.places.proofs.comparisons.two_equal.Goals as goal

pub returns-then-at-s : goal.returns-then-at-s
returns-then-at-s c = let a = c.args in sym (two_inside a.s.now a.at c.if-at-s.true)

pub returns-else-at-s : goal.returns-else-at-s
returns-else-at-s c = let a = c.args in le-ltb _ _ c.if-at-s.false ∙ sym (two_past a.s.now a.at c.if-at-s.false)
