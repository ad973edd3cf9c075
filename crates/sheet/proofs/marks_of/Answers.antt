use mathlib.Core.Path.{◌∙◌}
use native.Mathlib.Omega.{arith}
use Rattle.sheet.proofs.Loops.{marks_step, marks_all}
use Rattle.sheet.proofs.marks_of.Goals as goal

pub loop-i-preserved : goal.loop-i-preserved
loop-i-preserved c =
    let l = c.loop-i in
    let a = c.args in
    rw (c.mark_of.ensures, l.invariant) (marks_step a.verdicts.now a.marks.now l.i (omega arith) (omega arith))

pub returns : goal.returns
returns c =
    let l = c.loop-i in
    let a = c.args in
    l.invariant ∙ marks_all a.verdicts.now a.marks.now l.i (omega arith) (omega arith)
