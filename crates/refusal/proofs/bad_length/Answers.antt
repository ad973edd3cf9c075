use Rattle.std.proofs.Common.{◌∙◌, sym}
use Rattle.refusal.proofs.Lengths.{bad_turn, bad_end_lem}
use Rattle.refusal.proofs.bad_length.Goals as goal

pub loop-k-preserved : goal.loop-k-preserved
loop-k-preserved c =
    let l = c.loop-k in
    bad_turn c.args.lengths.now l.k-index c.args.most l.bad c.loop-k-test.true ∙ l.invariant

pub returns : goal.returns
returns c =
    let l = c.loop-k in
    sym (sym l.invariant ∙ bad_end_lem c.args.lengths.now l.k-index c.args.most l.bad c.loop-k-test.false)
