use native.Mathlib.Omega.{arith}
use Rattle.segment.proofs.Parts.{Bits-begin, Bits-turn, bits_end}
use Rattle.segment.proofs.put_pairs.Goals as goal

pub loop-i-init : goal.loop-i-init
loop-i-init c = let a = c.args in Bits-begin a.out.now a.at a.high a.low a.t

pub loop-i-preserved : goal.loop-i-preserved
loop-i-preserved c = let a = c.args in let l = c.loop-i in Bits-turn a.out.now a.at a.high a.low a.t l.i l.h l.l l.out (omega arith) (omega arith) l.invariant

pub returns : goal.returns
returns c = let a = c.args in let l = c.loop-i in bits_end a.out.now a.at a.high a.low a.t l.i l.h l.l l.out (omega arith) l.invariant
