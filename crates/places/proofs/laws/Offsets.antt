-- Laws of offsets: the three shifts, and the places about another.
use Rattle.std.specs.Prelude.{◌≡◌, refl, Bool, true, false, cond, ◌∷◌, ℕ, zero, suc, ◌+◌, ◌-◌, ◌*◌, ◌/◌, ◌%◌, ◌≤◌, ◌<◌, eqb, length, get_or}
use Rattle.std.proofs.Common.{◌∙◌, arith, eq-eqb, ne_eqb, eqb-true}
use Rattle.std.proofs.lemmas.Bool.{eqb-false}
use Rattle.code.specs.Reading.{moved, level, early, late}
use Rattle.code.specs.Strands.{pairs}
use Rattle.places.specs.Offsets.{tried_at}

pub tried_level : (n : ℕ) → tried_at n 0 ≡ moved level n
tried_level n = omega arith

pub tried_early : (n : ℕ) → tried_at n 1 ≡ moved early n
tried_early n = refl

pub tried_late : (n : ℕ) → tried_at n 2 ≡ moved late n
tried_late n = refl

pub tried_small : (n i : ℕ) → tried_at n i ≤ n + i / 2
tried_small n i = go (eqb (i % 2) 0)
  where
    go : (b : Bool) → cond b (n + i / 2) (n - (i + 1) / 2) ≤ n + i / 2
    go true = omega arith
    go false = omega arith

-- a place behind n
pub tried_even : (n i : ℕ) → i % 2 ≡ 0 → tried_at n i ≡ n + i / 2
tried_even n i e = rw (eq-eqb (i % 2) 0 e)

-- the places before the first that is at most `last` are above it
pub tried_above : (n last i : ℕ) → i < 2 * (n - last) - 1 → last < tried_at n i
tried_above n last i h = go (eqb (i % 2) 0)
  where
    go : (b : Bool) → last < cond b (n + i / 2) (n - (i + 1) / 2)
    go true = omega arith
    go false = omega arith

-- from there on only those behind n are
pub tried_behind_lem : (n last i : ℕ) → n ≤ last + (i + 1) / 2 → last < tried_at n i → i % 2 ≡ 0
tried_behind_lem n last i l h = go (eqb (i % 2) 0) refl h
  where
    go : (b : Bool) → eqb (i % 2) 0 ≡ b → last < cond b (n + i / 2) (n - (i + 1) / 2) → i % 2 ≡ 0
    go true e q = eqb-true (i % 2) 0 e
    go false e q = absurd (omega arith)

pairs_at : (n d c i : ℕ) → i < c + c → get_or (pairs n d c) i 0 ≡ cond (eqb (i % 2) 0) (n - (d + i / 2)) (n + (d + i / 2))
unfolding pairs
pairs_at n d zero i h = absurd (omega arith)
pairs_at n d (suc c) zero h = omega arith
pairs_at n d (suc c) (suc zero) h = omega arith
pairs_at n d (suc c) (suc (suc i)) h =
    let e : suc (suc i) % 2 ≡ i % 2 = omega arith in
    let f : d + suc (suc i) / 2 ≡ suc d + i / 2 = omega arith in
    rw (e, f) (pairs_at n (suc d) c i (omega arith))

-- the places about n, c to each side

length-pairs : (n d c : ℕ) → length (pairs n d c) ≡ 2 * c
unfolding pairs
length-pairs n d zero = refl
length-pairs n d (suc c) = omega (arith, length-pairs n (suc d) c)

pub about_length : (n c : ℕ) → length (n ∷ pairs n 1 c) ≡ 2 * c + 1
about_length n c = omega (arith, length-pairs n 1 c)

pub about_at : (n c i : ℕ) → i ≤ 2 * c → get_or (n ∷ pairs n 1 c) i 0 ≡ tried_at n i
about_at n c zero h = omega arith
about_at n c (suc i) h = pairs_at n 1 c i (omega arith) ∙ go (eqb (i % 2) 0) refl
  where
    go : (b : Bool) → eqb (i % 2) 0 ≡ b → cond b (n - (1 + i / 2)) (n + (1 + i / 2)) ≡ tried_at n (suc i)
    go true e =
        let o : i % 2 ≡ 0 = eqb-true (i % 2) 0 e in
        rw (ne_eqb (suc i % 2) 0 (λ f. omega arith)) (omega arith)
    go false e =
        let o = eqb-false (i % 2) 0 e in
        rw (eq-eqb (suc i % 2) 0 (omega arith)) (omega arith)
