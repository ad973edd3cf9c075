use mathlib.Core.Path.{ap}
use native.Mathlib.Omega.{arith}
use lib.ListN.{length, replicate, length-take}
use Rattle.code.specs.Order.{order}
use Rattle.lines.specs.Report.{most_report}
use Rattle.report_strand.proofs.Shown.{lines_shown, refused_shown}
use Rattle.report_strand.proofs.put_report.Goals as goal

pub put-requires : goal.put-requires
put-requires c = omega (arith, ap length c.front.ensures, length-take c.in-Ok.n c.write.new.out, c.write.auto.out)

pub returns-in-Ok : goal.returns-in-Ok
returns-in-Ok c =
    let a = c.args in
    rw (← lines_shown (order a.lengths.now a.b) a.letters.now (replicate most_report 0) _ _ (omega arith) c.write.ensures _ c.in-Ok.is, ← c.front.ensures) c.put.ensures

pub returns-in-Err : goal.returns-in-Err
returns-in-Err c =
    let a = c.args in
    rw (← refused_shown (order a.lengths.now a.b) a.letters.now (replicate most_report 0) _ _ (omega arith) c.write.ensures _ c.in-Err.is) c.put_refused.ensures
