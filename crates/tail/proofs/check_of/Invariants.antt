use mathlib.Core.Path.{◌≡◌}
use Prim.Native.Nat.{◌+◌, ◌*◌, ◌≤◌}
use lib.ListN.{drop}
use Rattle.code.specs.Segment.{total}
use Rattle.tail.proofs.check_of.Given as goal

-- what is summed, and what is to come, is the whole sum
abbrev pub invariant-loop-x : goal.invariant-loop-x
invariant-loop-x l = (l.sum ≤ 255 * l.x-index) × (l.sum + total (drop l.x-index l.message) ≡ total l.message)
