use mathlib.Core.Path.{sym, ◌∙◌}
use native.Mathlib.Omega.{arith}
use Rattle.places.proofs.Bytes.{bytes_Below}
use Rattle.edits.proofs.SharedFront.{common_turn, common_stop, common_end, common_words}
use Rattle.edits.proofs.first_difference.Goals as goal

pub loop-i-preserved : goal.loop-i-preserved
loop-i-preserved c =
    let a = c.args in
    let l = c.loop-i in
    let s = bytes_Below a.w.now c.shared_slice_known-1.given in
    let t = bytes_Below a.v.now c.shared_slice_known-2-1.given in
    let e = sym c.eight_at.ensures ∙ c.if-eight_at.false ∙ c.eight_at-in-loop-i.ensures in
    (l.invariant.0, omega arith, omega (arith, l.invariant.2, common_words a.w.now a.v.now l.i s t (omega arith) (omega arith) e))

pub returns-then-w-i : goal.returns-then-w-i
returns-then-w-i c =
    let a = c.args in
    let l = c.loop-i-2 in
    omega (arith, l.invariant.2, common_stop a.w.now a.v.now l.i (omega arith) (omega arith) c.if-w-i.true)

pub loop-i-2-preserved : goal.loop-i-2-preserved
loop-i-2-preserved c =
    let a = c.args in
    let l = c.loop-i-2 in
    (l.invariant.0, omega arith, omega (arith, l.invariant.2, common_turn a.w.now a.v.now l.i (omega arith) (omega arith) c.if-w-i.false))

pub returns : goal.returns
returns c =
    let a = c.args in
    let l = c.loop-i-2 in
    omega (arith, l.invariant.2, common_end a.w.now a.v.now l.i (omega arith))
