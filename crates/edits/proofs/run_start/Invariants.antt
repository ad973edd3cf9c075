use mathlib.Core.Path.{◌≡◌}
use Rattle.edits.specs.Judgement.{run_start}
use Rattle.edits.proofs.run_start.Given as goal

-- the letters from p to i are x
abbrev pub invariant-loop-p : goal.invariant-loop-p
invariant-loop-p l = run_start l.w l.x l.p ≡ run_start l.w l.x l.i
