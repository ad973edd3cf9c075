use mathlib.Core.Path.{refl, sym, ◌∙◌}
use mathlib.Core.Bool.{true≢false}
use borrow.Author.Tests.{le-ltb}
use Rattle.places.proofs.TestsAtPlaces.{three_inside, three_past}
use Rattle.places.proofs.comparisons.three_equal.Goals.{then-at-s, else-at-s}
use Rattle.places.proofs.comparisons.three_equal.Goals as goal

pub returns-then-s-at : goal.returns-then-s-at
returns-then-s-at c =
    let a = c.args in
    elim c.if-at-s.branch [
      | then-at-s w ↦ sym (three_inside a.s.now a.at w.if-at-s.true ∙ rw (← w.value-is, c.if-s-at.true) refl)
      | else-at-s w ↦ absurd (true≢false (sym c.if-s-at.true ∙ w.value-is ∙ le-ltb _ _ w.if-at-s.false))
    ]

pub returns-else-s-at : goal.returns-else-s-at
returns-else-s-at c =
    let a = c.args in
    elim c.if-at-s.branch [
      | then-at-s w ↦ sym (three_inside a.s.now a.at w.if-at-s.true ∙ rw (← w.value-is, c.if-s-at.false) refl)
      | else-at-s w ↦ w.value-is ∙ le-ltb _ _ w.if-at-s.false ∙ sym (three_past a.s.now a.at w.if-at-s.false)
    ]
