use native.Mathlib.Omega.{arith}
use lib.ListN.{length}
use Rattle.code.proofs.laws.Segment.{width_two}
use Rattle.message.specs.MessageAnswers.{shift_as}
use Rattle.message.proofs.RepairedLayers.{is_lost, is_read_message}
use Rattle.message.proofs.Steps3to7.{repaired_short, repaired_by, width_most}
use Rattle.message.proofs.repair_at.Goals as goal

pub overflow_add-end : goal.overflow_add-end
overflow_add-end c = omega (arith, c.width_of-t.ensures, width_most (length c.args.out.now) (omega arith))

pub returns-then-s-end : goal.returns-then-s-end
returns-then-s-end c =
    let a = c.args in
    let k = length a.out.now in
    let j = shift_as a.shift in
    let m = c.after_separator-after.ensures.0 in
    let w = c.width_of-t in
    is_lost _ _ 7 (repaired_short j k a.d w.result a.s.now w.ensures (omega (arith, width_two k (omega arith))) (omega arith))

pub returns : goal.returns
returns c =
    let a = c.args in
    let k = length a.out.now in
    let l = c.link_of in
    let v = c.moved in
    let g = c.after_separator-after in
    let t = c.width_of-t in
    is_read_message _ _ _ c.repair_both.result (repaired_by (shift_as a.shift) k a.d t.result v.result _ a.s.now l.result l.ensures t.ensures v.ensures g.ensures.0 (omega arith)) c.repair_both.ensures
