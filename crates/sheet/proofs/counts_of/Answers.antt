use Prim.Native.Nat.{◌≤◌, ◌<◌}
use native.Mathlib.Omega.{arith}
use lib.ListN.{length}
use Rattle.sheet.proofs.Loops.{count_next, count_end}
use Rattle.sheet.proofs.counts_of.Goals as goal

pub loop-mark-preserved : goal.loop-mark-preserved
loop-mark-preserved c =
    let l = c.loop-mark in
    let m = c.args.marks.now in
    let i = l.mark-index in
    let h : i < length m = omega arith in
    rw (c.from-clean.ensures, c.from-corrected.ensures, c.from-lost.ensures) (count_next 0 m i l.clean h l.invariant.0, count_next 1 m i l.corrected h l.invariant.1, count_next 2 m i l.lost h l.invariant.2)

pub returns : goal.returns
returns c =
    let l = c.loop-mark in
    let m = c.args.marks.now in
    let i = l.mark-index in
    let h : length m ≤ i = omega arith in
    rw (count_end 0 m i l.clean h l.invariant.0, count_end 1 m i l.corrected h l.invariant.1, count_end 2 m i l.lost h l.invariant.2)
