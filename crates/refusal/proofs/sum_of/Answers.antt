use Rattle.std.proofs.Common.{arith}
use Rattle.code.proofs.laws.Layout.{sum_most}
use Rattle.refusal.proofs.Lengths.{sum_turn, sum_end}
use Rattle.refusal.proofs.sum_of.Goals as goal

pub overflow_add-total : goal.overflow_add-total
overflow_add-total c =
    let l = c.loop-k in
    let ks = c.args.lengths.now in
    record { fits = omega (arith, l.invariant, sum_turn ks l.k-index c.loop-k-test.true, sum_most ks c.requires.0, c.requires.1) }

pub loop-k-preserved : goal.loop-k-preserved
loop-k-preserved c =
    let l = c.loop-k in
    omega (arith, l.invariant, sum_turn c.args.lengths.now l.k-index c.loop-k-test.true)

pub returns : goal.returns
returns c =
    let l = c.loop-k in
    omega (arith, l.invariant, sum_end c.args.lengths.now l.k-index c.loop-k-test.false)
