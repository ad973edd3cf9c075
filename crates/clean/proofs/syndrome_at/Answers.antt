use mathlib.Core.Path.{sym}
use native.Mathlib.Omega.{arith}
use Rattle.clean.proofs.Parts.{syndrome_past, Left-turn, left_stop, left_end}
use Rattle.clean.proofs.syndrome_at.Goals as goal

pub returns-then-s-at : goal.returns-then-s-at
returns-then-s-at c = let a = c.args in sym (syndrome_past a.tail a.s.now a.at (omega arith) (omega arith))

pub returns-then-h-l : goal.returns-then-h-l
returns-then-h-l c = let t = c.args.tail in let s = c.args.s.now in let at = c.args.at in let l = c.loop-i in sym (left_stop s at t.width t.high t.low l.i l.h l.l l.invariant (omega arith) (omega arith) c.if-h-l.true)

pub loop-i-preserved : goal.loop-i-preserved
loop-i-preserved c = let t = c.args.tail in let s = c.args.s.now in let at = c.args.at in let l = c.loop-i in Left-turn s at t.width t.high t.low l.i l.h l.l l.invariant (omega arith) (omega arith) c.if-h-l.false

pub returns : goal.returns
returns c = let t = c.args.tail in let s = c.args.s.now in let at = c.args.at in let l = c.loop-i in sym (left_end s at t.width t.high t.low l.i l.h l.l l.invariant (omega arith))
