use mathlib.Core.Path.{◌≡◌}
use mathlib.Core.List.{◌++◌}
use Prim.Native.Nat.{◌+◌, ◌-◌, ◌*◌, ◌≤◌}
use lib.ListN.{length, take, drop}
use Rattle.code.specs.Layers.{bits}
use Rattle.code.specs.Label.{in_bits, in_bytes}
use Rattle.label.proofs.Putting.{Left}
use Rattle.label.proofs.bit_fields.put_bits.Given as goal

abbrev pub invariant-loop-j : goal.invariant-loop-j
invariant-loop-j l = let t = in_bytes (bits l.count l.first ++ in_bits l.width l.lengths) in
    (l.left ≤ 32) × (l.j ≤ l.n) × (length l.out ≡ length l.initial.out) × (l.out ≡ take l.j t ++ drop l.j l.initial.out) × Left (drop l.j t) l.width l.lengths (l.n - l.j) l.left l.held l.i

abbrev pub decreases-loop-j : goal.decreases-loop-j
decreases-loop-j l = 9 * (l.n - l.j) + (8 - l.left)
