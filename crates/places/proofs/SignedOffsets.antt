-- Small signed numbers as the code makes them, and a place moved by one.
use mathlib.Core.Path.{◌≡◌, refl, ap, ◌∙◌}
use mathlib.Core.Bool.{Bool, true, false, cond}
use Prim.Native.Nat.{ℕ, zero, suc, ◌+◌, ◌-◌, ◌/◌, ◌%◌, ◌≤◌, ◌<◌}
use native.Mathlib.Omega.{arith}
use borrow.Author.Tests.{eq-eqb, ne_eqb, le-ltb, eqb-false}
use lib.Dec.{eqb}
use lib.IntN.{ℤ, pos, negsuc, ◌+ℤ◌, ◌-ℤ◌, nat_abs}
use mir.Syntax.{w64}
use mir.Val.{SFits, to_z, of_z}
use mir.Facts.{to_z-of_z, to_z_pos}
use Rattle.code.specs.Bounds.{reach}
use Rattle.places.specs.Offsets.{offset_of, tried_at}
use Rattle.places.proofs.laws.Offsets.{tried_small}

below_minus_one : (n : ℕ) → negsuc 0 -ℤ pos n ≡ negsuc n
below_minus_one zero = refl
below_minus_one (suc n) = let e : 0 + n ≡ n = omega arith in rw e

-- the i-th signed number
module _ (i : ℕ) (half_fits : SFits w64 (pos (i / 2))) where
  offset_fits : SFits w64 (offset_of i)
  offset_fits = go (eqb (i % 2) 0)
    where
      go : (b : Bool) → SFits w64 (cond b (pos (i / 2)) (negsuc (i / 2)))
      go true = half_fits
      go false = record { sfits = half_fits.sfits }

  pub even_offset : (i % 2 ≡ 1 → ⊥) → to_z w64 (i / 2) ≡ offset_of i
  even_offset even = rw (to_z_pos w64 {n = i / 2} half_fits.sfits, eq-eqb (i % 2) 0 (omega arith))

  module _ (odd : i % 2 ≡ 1) where
    odd_made : negsuc 0 -ℤ to_z w64 (i / 2) ≡ offset_of i
    odd_made = rw (to_z_pos w64 {n = i / 2} half_fits.sfits, ne_eqb (i % 2) 0 (λ e. omega arith)) (below_minus_one (i / 2))

    pub odd_fits : SFits w64 (negsuc 0 -ℤ to_z w64 (i / 2))
    odd_fits = rw odd_made offset_fits

    pub odd_offset : to_z w64 (of_z w64 (negsuc 0 -ℤ to_z w64 (i / 2))) ≡ offset_of i
    odd_offset = to_z-of_z {w = w64} odd_fits ∙ odd_made

-- a place and the i-th signed number
module _ (n i : ℕ) (given : (i < reach) × ((i + 1) / 2 ≤ n) × (n < reach)) where
  added : pos n +ℤ offset_of i ≡ pos (tried_at n i)
  added = go (eqb (i % 2) 0) refl
    where
      go : (b : Bool) → eqb (i % 2) 0 ≡ b → pos n +ℤ cond b (pos (i / 2)) (negsuc (i / 2)) ≡ pos (cond b (n + i / 2) (n - (i + 1) / 2))
      go true e = refl
      go false e =
          let o = eqb-false (i % 2) 0 e in
          let m : n - suc (i / 2) ≡ n - (i + 1) / 2 = omega arith in
          rw (le-ltb n (suc (i / 2)) (omega arith)) (ap pos m)

  -- as the machine adds them
  module _ (r : ℤ) (is : r ≡ offset_of i) where
    abbrev pub sum : ℤ
    sum = to_z w64 n +ℤ to_z w64 (of_z w64 r)

    sum_is : sum ≡ pos (tried_at n i)
    sum_is =
        rw (is, to_z-of_z {w = w64} {z = offset_of i} (offset_fits i (record { sfits = omega arith })), to_z_pos w64 {n = n} (omega arith))
        added

    pub sum_fits : SFits w64 sum
    sum_fits = rw sum_is (record { sfits = omega (arith, tried_small n i) })

    place : to_z w64 (of_z w64 sum) ≡ pos (tried_at n i)
    place = to_z-of_z {w = w64} sum_fits ∙ sum_is

    pub place_is : nat_abs (to_z w64 (of_z w64 sum)) ≡ tried_at n i
    place_is = rw place
