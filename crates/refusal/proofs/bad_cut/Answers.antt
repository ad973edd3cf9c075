use mathlib.Core.Path.{◌≡◌, sym, ◌∙◌}
use mathlib.Core.Bool.{true, false}
use lib.ListN.{length}
use Rattle.code.specs.Limits.{most_segments}
use Rattle.code.specs.Refusals.{outside}
use Rattle.code.proofs.laws.Refusals.{outside_not}
use Rattle.refusal.proofs.bad_cut.Goals.{Else-outside}
use Rattle.refusal.proofs.bad_cut.Goals as goal

-- there are some lengths, and not too many
inside : (c : Else-outside) → outside 1 most_segments (length c.args.lengths.now) ≡ false
inside c = sym c.outside.ensures ∙ c.if-outside.false

pub sum_of-requires : goal.sum_of-requires
sum_of-requires c = (c.requires.0, (outside_not 1 most_segments _ (inside c)).1)

pub returns-then-outside : goal.returns-then-outside
returns-then-outside c =
    let p : outside 1 most_segments (length c.args.lengths.now) ≡ true = sym c.outside.ensures ∙ c.if-outside.true in
    rw p c.if-outside.true

pub returns-else-outside : goal.returns-else-outside
returns-else-outside c = rw (inside (goal.at.returns-else-outside c).Else-outside, c.from.ensures, c.sum_of.ensures)
