use mathlib.Core.Path.{◌≡◌, sym, ◌∙◌}
use mathlib.Core.Bool.{true, false}
use native.Mathlib.Omega.{arith}
use Rattle.code.specs.Refusals.{outside}
use Rattle.code.proofs.laws.Refusals.{outside_not}
use Rattle.code.proofs.laws.Layout.{Lengths-within}
use Rattle.code.specs.Order.{order, bad_length, bad_cut}
use Rattle.code.proofs.laws.Order.{Lengths-not}
use Rattle.refusal.proofs.test_within.Goals.{Else-bad_length, Else-outside}
use Rattle.refusal.proofs.test_within.Goals as goal

-- test 1 is passed
lengths_inside : (c : Else-bad_length) → bad_length c.args.long c.args.lengths.now ≡ false
lengths_inside c = sym c.bad_length.ensures ∙ c.if-bad_length.false

-- B is within its limits
b_inside : (c : Else-outside) → outside 1 c.args.many c.args.b ≡ false
b_inside c = sym c.outside.ensures ∙ c.if-outside.false

pub returns-then-bad_length : goal.returns-then-bad_length
returns-then-bad_length c =
    let p : bad_length c.args.long c.args.lengths.now ≡ true = sym c.bad_length.ensures ∙ c.if-bad_length.true in
    rw p

pub bad_cut-requires : goal.bad_cut-requires
bad_cut-requires c = (Lengths-within (Lengths-not c.args.long c.args.lengths.now (lengths_inside (goal.at.bad_cut-requires c).Else-bad_length)) c.requires.0, omega (arith, (outside_not 1 c.args.many c.args.b (b_inside (goal.at.bad_cut-requires c).Else-outside)).1, c.requires.1))

pub returns-then-bad_cut : goal.returns-then-bad_cut
returns-then-bad_cut c =
    let a = c.args in
    let r : bad_cut (order a.lengths.now a.b) ≡ true = sym c.bad_cut.ensures ∙ c.if-bad_cut.true in
    rw (lengths_inside (goal.at.returns-then-bad_cut c).Else-bad_length, b_inside (goal.at.returns-then-bad_cut c).Else-outside, c.if-other.false, r)

pub returns : goal.returns
returns c =
    let a = c.args in
    let r : bad_cut (order a.lengths.now a.b) ≡ false = sym c.bad_cut.ensures ∙ c.if-bad_cut.false in
    rw (lengths_inside (goal.at.returns c).Else-bad_length, b_inside (goal.at.returns c).Else-outside, c.if-other.false, r)
