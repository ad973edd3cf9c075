use mathlib.Core.Path.{◌≡◌}
use native.Mathlib.Omega.{arith}
use Rattle.code.specs.Segment.{total, check}
use Rattle.tail.proofs.SumsAndBits.{total_step, total_end}
use Rattle.tail.proofs.check_of.Goals as goal

pub loop-x-preserved : goal.loop-x-preserved
loop-x-preserved c =
    let l = c.loop-x in
    let e = total_step c.args.message.now l.x-index (omega arith) in
    (omega arith, omega (arith, c.from-sum.ensures))

pub returns : goal.returns
unfolding check
returns c =
    let l = c.loop-x in
    let m = c.args.message.now in
    let s : l.sum ≡ total m = omega (arith, l.invariant.1, total_end m l.x-index (omega arith)) in
    rw s
