-- Laws of a written segment, in the order of the definitions.
use Rattle.std.specs.Prelude.{◌≡◌, refl, Bool, true, false, cond, ◌||◌, List, [], ◌∷◌, ◌++◌, ℕ, zero, suc, ◌+◌, ◌-◌, ◌*◌, ◌/◌, ◌%◌, ◌^◌, ◌≤◌, ◌<◌, eqb, length, get_or, take, drop}
use Rattle.std.proofs.Common.{sym, ap, ◌∙◌, mod-lt, arith, eqb-true, length-append, length-take-le}
use Rattle.std.proofs.lemmas.Bool.{eqb-false}
use Rattle.std.proofs.Math.Seq.{split_at, drop-length}
use Rattle.code.specs.Symbols.{Below}
use Rattle.code.proofs.laws.Below.{Below-append}
use Rattle.code.specs.Layers.{bit, layer, digit, ones, syndrome, width, bits}
use Rattle.code.proofs.laws.Layers.{digit-bit, length-bits, length-pair, pair-Below, width-Least}
use Rattle.code.specs.Segment.{total, check, either, sep, syndrome_of, separator, marker, block, segment, last_of, size}

pub check_below : (m : List ℕ) → check m < 4
unfolding check
check_below m = mod-lt (total m) (omega arith)

-- the check is formed of the numbers of ones of both layers
pub check-ones : (m : List ℕ) → check m ≡ (ones (layer 0 m) + 2 * ones (layer 1 m)) % 4
unfolding check total ones
check-ones [] = refl
check-ones (x ∷ m) =
    sums x (digit (bit 0 x) + 2 * digit (bit 1 x)) (total m) (ones (layer 0 m) + 2 * ones (layer 1 m)) (rw (digit-bit 0 x, digit-bit 1 x) (two_bits x)) (check-ones m)
    ∙ ap (λ (n : ℕ). n % 4) (omega arith)
  where
    two_bits : (x : ℕ) → x % 4 ≡ x / 1 % 2 + 2 * (x / 2 % 2)
    two_bits x = omega arith

    sums : (x y t u : ℕ) → x % 4 ≡ y → t % 4 ≡ u % 4 → (x + t) % 4 ≡ (y + u) % 4
    sums x y t u e f = omega arith

-- Sep is none of its arguments
pub record Apart (s a b c : ℕ) : Type 0 where
  pub first : s ≡ a → ⊥
  pub second : s ≡ b → ⊥
  pub third : s ≡ c → ⊥
  pub below : s < 4

-- what a test of two numbers tells
neither : (x b c : ℕ) → either x b c ≡ false → (x ≡ b → ⊥) × (x ≡ c → ⊥)
neither x b c e = go (eqb x b) (eqb x c) refl refl e
  where
    go : (p q : Bool) → eqb x b ≡ p → eqb x c ≡ q → (p || q) ≡ false → (x ≡ b → ⊥) × (x ≡ c → ⊥)
    go true q f g h = let z : ◌≡◌ {A = ℕ} 0 1 = cc in absurd (omega arith)
    go false true f g h = let z : ◌≡◌ {A = ℕ} 0 1 = cc in absurd (omega arith)
    go false false f g h = (eqb-false x b f, eqb-false x c g)

data Either (x b c : ℕ) : Type 0 where
  is_first : x ≡ b → Either x b c
  is_second : x ≡ c → Either x b c

one_of : (x b c : ℕ) → either x b c ≡ true → Either x b c
one_of x b c e = go (eqb x b) (eqb x c) refl refl e
  where
    go : (p q : Bool) → eqb x b ≡ p → eqb x c ≡ q → (p || q) ≡ true → Either x b c
    go true q f g h = is_first (eqb-true x b f)
    go false true f g h = is_second (eqb-true x c g)
    go false false f g h = let z : ◌≡◌ {A = ℕ} 0 1 = cc in absurd (omega arith)

pub sep-Apart : (a b c : ℕ) → Apart (sep a b c) a b c
unfolding sep
sep-Apart a b c = go (either ((a + 2) % 4) b c) (either ((a + 3) % 4) b c) refl refl
  where
    last : Either ((a + 2) % 4) b c → Either ((a + 3) % 4) b c → Apart ((a + 1) % 4) a b c
    last (is_first p) (is_first q) = absurd (omega arith)
    last (is_first p) (is_second q) = record { first = λ e. omega arith; second = λ e. omega arith; third = λ e. omega arith; below = omega arith }
    last (is_second p) (is_first q) = record { first = λ e. omega arith; second = λ e. omega arith; third = λ e. omega arith; below = omega arith }
    last (is_second p) (is_second q) = absurd (omega arith)

    go : (p q : Bool) → either ((a + 2) % 4) b c ≡ p → either ((a + 3) % 4) b c ≡ q → Apart (cond p (cond q ((a + 1) % 4) ((a + 3) % 4)) ((a + 2) % 4)) a b c
    go false q f g = let n = neither ((a + 2) % 4) b c f in record { first = λ e. omega arith; second = n.0; third = n.1; below = omega arith }
    go true false f g = let n = neither ((a + 3) % 4) b c g in record { first = λ e. omega arith; second = n.0; third = n.1; below = omega arith }
    go true true f g = last (one_of ((a + 2) % 4) b c f) (one_of ((a + 3) % 4) b c g)

pub length_syndrome : (m : List ℕ) → length (syndrome_of m) ≡ width (length m)
unfolding syndrome_of
length_syndrome m =
    let t = width (length m) in
    let h = length-bits t (syndrome (layer 1 m)) in
    length-pair (bits t (syndrome (layer 1 m))) (bits t (syndrome (layer 0 m))) (h ∙ sym (length-bits t (syndrome (layer 0 m)))) ∙ h

pub syndrome_symbols_Below : (m : List ℕ) → Below 4 (syndrome_of m)
unfolding syndrome_of
syndrome_symbols_Below m = pair-Below (bits (width (length m)) (syndrome (layer 1 m))) (bits (width (length m)) (syndrome (layer 0 m)))

-- two message symbols have two syndrome symbols
pub width_two : (k : ℕ) → 2 ≤ k → 2 ≤ width k
width_two k h = go (width k) (width-Least k).enough
  where
    go : (t : ℕ) → 2 * k ≤ 2 ^ t → 2 ≤ t
    go zero e = absurd (omega arith)
    go (suc zero) e = absurd (omega arith)
    go (suc (suc t)) e = omega arith

pub separator-Apart : (m : List ℕ) → Apart (separator m) (check m) (get_or (syndrome_of m) 0 0) (get_or (syndrome_of m) 1 0)
unfolding separator
separator-Apart m = sep-Apart (check m) (get_or (syndrome_of m) 0 0) (get_or (syndrome_of m) 1 0)

pub marker-Apart : (f : ℕ) (m : List ℕ) → Apart (marker f m) f (get_or m 0 0) (get_or m 1 0)
unfolding marker
marker-Apart f m = sep-Apart f (get_or m 0 0) (get_or m 1 0)

pub length-block : (m : List ℕ) → length (block m) ≡ length m + (4 + width (length m))
unfolding block
length-block m = simp length-append (omega (arith, length_syndrome m))

pub block-Below : (m : List ℕ) → Below 4 m → Below 4 (block m)
unfolding block
block-Below m h = Below-append m (check m ∷ separator m ∷ separator m ∷ separator m ∷ syndrome_of m) h tail
  where
    s : separator m < 4
    s = (separator-Apart m).below

    tail : Below 4 (check m ∷ separator m ∷ separator m ∷ separator m ∷ syndrome_of m)
    tail zero = check_below m
    tail (suc zero) = s
    tail (suc (suc zero)) = s
    tail (suc (suc (suc zero))) = s
    tail (suc (suc (suc (suc i)))) = syndrome_symbols_Below m i

-- a written segment has length n
pub length-segment : (marked : Bool) (f : ℕ) (m : List ℕ) → length (segment marked f m) ≡ size marked (length m)
unfolding segment size
length-segment true f m = omega (arith, length-block m)
length-segment false f m = omega (arith, length-block m)

pub segment-Below : (marked : Bool) (f : ℕ) (m : List ℕ) → Below 4 m → Below 4 (segment marked f m)
unfolding segment
segment-Below true f m h zero = (marker-Apart f m).below
segment-Below true f m h (suc zero) = (marker-Apart f m).below
segment-Below true f m h (suc (suc i)) = block-Below m h i
segment-Below false f m h i = block-Below m h i

pub last_below : (m : List ℕ) → last_of m < 4
unfolding last_of
last_below m = syndrome_symbols_Below m (width (length m) - 1)

-- a list is all before its last entry, and that
split_last : (p : ℕ) (l : List ℕ) → length l ≡ suc p → l ≡ take p l ++ get_or l p 0 ∷ []
split_last p l e =
    let d : drop (suc p) l ≡ [] = rw (← e) (drop-length l) in
    split_at l p 0 (omega arith) ∙ rw d

module _ (m : List ℕ) (two : 2 ≤ length m) where
  -- the syndrome, but for its last symbol
  abbrev pub inits : List ℕ
  inits = take (width (length m) - 1) (syndrome_of m)

  wide : 2 ≤ width (length m)
  wide = width_two (length m) two

  pub length-inits : suc (length inits) ≡ width (length m)
  length-inits = let w = wide in omega (arith, length-take-le (width (length m) - 1) (syndrome_of m) (omega (arith, length_syndrome m)))

  pub syndrome_last : syndrome_of m ≡ inits ++ last_of m ∷ []
  unfolding last_of
  syndrome_last = let w = wide in split_last (width (length m) - 1) (syndrome_of m) (omega (arith, length_syndrome m))
