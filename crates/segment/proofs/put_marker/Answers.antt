use mathlib.Core.Path.{refl, sym}
use native.Mathlib.Omega.{arith}
use Rattle.code.proofs.laws.Lists.{put_nothing}
use Rattle.segment.proofs.Parts.{mark-true, mark-false, is_marker}
use Rattle.segment.proofs.put_marker.Goals as goal

pub returns-then-marked : goal.returns-then-marked
returns-then-marked c = let a = c.args in let e = c.sep_of-m.ensures in rw (mark-true a.marked a.f a.message.now c.if-marked.true, sym (is_marker a.f a.message.now _ e)) (c.put.ensures, refl)

pub returns : goal.returns
returns c = let a = c.args in rw (mark-false a.marked a.f a.message.now c.if-marked.false) (sym (put_nothing _ _), omega arith)
