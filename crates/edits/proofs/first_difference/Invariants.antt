use mathlib.Core.Path.{◌≡◌}
use Prim.Native.Nat.{◌+◌, ◌-◌, min, ◌≤◌}
use lib.ListN.{length, drop}
use Rattle.edits.specs.Judgement.{common}
use Rattle.edits.proofs.first_difference.Given as goal

-- the letters before i are shared, and the rest is still to be compared
abbrev pub invariant-loop-i : goal.invariant-loop-i
invariant-loop-i l = (l.n ≡ min (length l.w) (length l.v)) × (l.i ≤ l.n) × (l.i + common (drop l.i l.w) (drop l.i l.v) ≡ common l.w l.v)

abbrev pub decreases-loop-i : goal.decreases-loop-i
decreases-loop-i l = l.n - l.i

abbrev pub invariant-loop-i-2 : goal.invariant-loop-i-2
invariant-loop-i-2 l = (l.n ≡ min (length l.w) (length l.v)) × (l.i ≤ l.n) × (l.i + common (drop l.i l.w) (drop l.i l.v) ≡ common l.w l.v)

abbrev pub decreases-loop-i-2 : goal.decreases-loop-i-2
decreases-loop-i-2 l = l.n - l.i
