use mathlib.Core.Path.{◌≡◌, refl, sym, ◌∙◌}
use Prim.Native.Nat.{◌+◌, ◌-◌, ◌*◌, ◌/◌}
use native.Mathlib.Omega.{arith}
use lib.ListN.{length, length-set}
use lib.Seq.{take-length}
use Rattle.code.proofs.laws.Lists.{put_nothing}
use Rattle.copying.proofs.Blocks.{put_next, put_part}
use Rattle.copying.proofs.put.Goals as goal

pub loop-i-init : goal.loop-i-init
loop-i-init c = (refl, sym (put_nothing _ _))

pub loop-i-preserved : goal.loop-i-preserved
loop-i-preserved c =
    let a = c.args in
    let l = c.loop-i in
    let n : 8 * (l.i + 1) ≡ 8 * l.i + 8 = omega arith in
    (omega arith, c.put_eight.ensures ∙ rw (l.invariant.1, n) (put_part a.block.now a.out.now a.at (8 * l.i) 8 (omega arith) (omega arith)))

pub loop-i-2-init : goal.loop-i-2-init
loop-i-2-init c =
    let e = 8 * (length c.args.block.now / 8) in
    let n : e - e ≡ 0 = omega arith in
    (refl, rw n (sym (put_nothing _ _)))

pub loop-i-2-preserved : goal.loop-i-2-preserved
loop-i-2-preserved c =
    let a = c.args in
    let o = c.loop-i in
    let l = c.loop-i-2 in
    let e = 8 * (length a.block.now / 8) in
    let n : l.i + 1 - e ≡ l.i - e + 1 = omega arith in
    (simp length-set l.invariant.0, rw (l.invariant.1, n) (put_next a.block.now o.out e (a.at + e) (l.i - e) l.i (a.at + l.i) (omega arith) (omega arith) (omega arith) (omega arith)))

pub returns : goal.returns
returns c =
    let a = c.args in
    let o = c.loop-i in
    let l = c.loop-i-2 in
    let e = 8 * (length a.block.now / 8) in
    let q : 8 * o.i ≡ e = omega arith in
    let n : e + (l.i - e) ≡ length a.block.now = omega arith in
    l.invariant.1 ∙ rw (o.invariant.1, q, put_part a.block.now a.out.now a.at e (l.i - e) (omega arith) (omega arith), n, take-length)
