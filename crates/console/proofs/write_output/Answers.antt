use Rattle.console.proofs.InParts.{sent_on}
use Rattle.console.proofs.write_output.Goals as goal

pub loop-done-preserved : goal.loop-done-preserved
loop-done-preserved g c =
    let l = c.loop-done in
    sent_on _ _ _ l.done _ c.args.output.now l.invariant.0 c.in_ok-sent.ensures.bound l.invariant.1 c.in_ok-sent.ensures.bytes
