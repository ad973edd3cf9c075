-- The starts of a first window that are not above P, by the lengths of a slice; and how many starts are quoted at most.
use mathlib.Core.Path.{◌≡◌, refl}
use mathlib.Core.Bool.{Bool, true, false, cond}
use mathlib.Core.List.{List, [], ◌∷◌}
use Prim.Native.Nat.{ℕ, suc, ◌+◌, ◌-◌, ◌*◌, ◌<◌, ◌≤◌}
use native.Mathlib.Nat.{mul-le-mul}
use native.Mathlib.Omega.{arith}
use mir.Val.{bool_byte}
use lib.Dec.{eqb}
use lib.ListN.{length, get_or}
use Rattle.code.specs.Limits.{most_segments}
use Rattle.code.specs.Starts.{not_above}

-- none on one segment, and at most one
pub above_most : (ks : List ℕ) → not_above ks ≤ length ks - 1
above_most [] = omega arith
above_most (k ∷ []) = omega arith
above_most (k ∷ i ∷ ks) = go (eqb k 2)
  where
    go : (b : Bool) → cond b 1 0 ≤ suc (suc (length ks)) - 1
    go true = omega arith
    go false = omega arith

-- the starts of 63 windows are 32,319
pub starts_fit : (m : ℕ) → m < most_segments → 8 * (m + 1) * m + m ≤ 32319
starts_fit m h = omega (arith, mul-le-mul {n₁ = 8 * (m + 1)} {m₁ = m} {n₂ = 512} {m₂ = 63} (omega arith) (omega arith))
