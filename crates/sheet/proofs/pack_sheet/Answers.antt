use mathlib.Core.Path.{◌∙◌}
use native.Mathlib.Omega.{arith}
use Rattle.code.proofs.laws.Lists.{write_all}
use Rattle.code.specs.Sheet.{sheet_of}
use Rattle.code.proofs.laws.ReadCall.{length_sheet}
use Rattle.sheet.proofs.Loops.{sheet_step}
use Rattle.sheet.proofs.pack_sheet.Goals as goal

pub loop-i-preserved : goal.loop-i-preserved
loop-i-preserved c =
    let l = c.loop-i in
    let a = c.args in
    rw (c.pack4.ensures, c.mark_at-d.ensures, c.mark_at-c.ensures, c.mark_at-b.ensures, c.mark_at-a.ensures, l.invariant) (sheet_step a.marks.now a.out.now l.i (omega arith) (omega arith))

pub returns : goal.returns
returns c =
    let l = c.loop-i in
    let a = c.args in
    let n = length_sheet a.marks.now in
    l.invariant ∙ write_all (sheet_of a.marks.now) a.out.now l.i (omega arith) ∙ rw n
