use native.Mathlib.Omega.{arith}
use Rattle.clean.proofs.Parts.{marker_seen, two_marks, no_marker}
use Rattle.clean.proofs.marker_stands.Goals as goal

pub returns-then-marked : goal.returns-then-marked
returns-then-marked c =
    let a = c.args in
    let m = c.sep_of-m in
    marker_seen a.marked a.f a.p a.s.now c.if-marked.true m.result m.ensures _ (two_marks a.marked a.f a.p a.s.now (omega (arith, c.requires.1)) m.result)

pub returns : goal.returns
returns c = let a = c.args in no_marker a.marked a.f a.p a.s.now c.if-marked.false
