use native.Mathlib.Omega.{arith}
use lib.ListN.{length-set}
use Rattle.copying.proofs.Blocks.{put_eight_lem}
use Rattle.copying.proofs.put_eight.Goals as goal

pub bounds-out-j-2 : goal.bounds-out-j-2
bounds-out-j-2 c = simp length-set (omega arith)

pub bounds-out-j-3 : goal.bounds-out-j-3
bounds-out-j-3 c = simp length-set (omega arith)

pub bounds-out-j-4 : goal.bounds-out-j-4
bounds-out-j-4 c = simp length-set (omega arith)

pub bounds-out-j-5 : goal.bounds-out-j-5
bounds-out-j-5 c = simp length-set (omega arith)

pub bounds-out-j-6 : goal.bounds-out-j-6
bounds-out-j-6 c = simp length-set (omega arith)

pub bounds-out-j-7 : goal.bounds-out-j-7
bounds-out-j-7 c = simp length-set (omega arith)

pub bounds-out-j-8 : goal.bounds-out-j-8
bounds-out-j-8 c = simp length-set (omega arith)

pub shape_of-out : goal.shape_of-out
shape_of-out c = simp length-set

pub returns : goal.returns
returns c = let a = c.args in put_eight_lem a.block.now a.out.now a.i a.j (omega arith) (omega arith)
