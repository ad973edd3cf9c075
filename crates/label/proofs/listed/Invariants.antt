use mathlib.Core.Path.{◌≡◌}
use Prim.Native.Nat.{◌-◌, ◌≤◌}
use lib.ListN.{length, take, drop}
use Rattle.code.specs.Label.{in_bits, from_bits}
use Rattle.label.proofs.listed.Given as goal

abbrev pub invariant-loop-i : goal.invariant-loop-i
invariant-loop-i l = (l.i ≤ l.n) × (length l.a ≡ 127) × (take l.i l.a ≡ take l.i (from_bits l.width l.n (drop l.at (in_bits 8 l.bytes))))

abbrev pub decreases-loop-i : goal.decreases-loop-i
decreases-loop-i l = l.n - l.i
