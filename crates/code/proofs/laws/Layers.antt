-- Laws of the layers, in the order of their definitions.
use Rattle.std.specs.Prelude.{◌≡◌, refl, Bool, true, false, List, [], ◌∷◌, ℕ, zero, suc, ◌+◌, ◌-◌, ◌*◌, ◌/◌, ◌%◌, ◌^◌, ◌≤◌, ◌<◌, eqb, leb, length, get_or}
use Rattle.std.proofs.Common.{sym, ap, ◌∙◌, mod-lt, mod-eq_of_lt, le_antisymm, lt_of_not-le, le_of_suc-le-suc, not-suc-le-zero, mul-suc, add-zero, zero-add, add-suc, suc-add, arith, leb-true, leb-false, pow_mono, pow_pos, one-add}
use Rattle.std.proofs.Math.Nat.{mod-one, pow-succ'}
use Rattle.std.specs.Int.Count.{count_leading_zeros}
use Rattle.std.proofs.lemmas.Nat.{leading_length, mod-pow-add}
use Rattle.std.proofs.lemmas.List.{length-map}
use Rattle.code.specs.Symbols.{Below}
use Rattle.code.specs.Layers.{Word, bit, layer, digit, pair, ones, sum_from, sum_of_places, syndrome, Least, first_power, width, bits, number}

-- the number of a number's bit
pub digit-bit : (s x : ℕ) → digit (bit s x) ≡ x / 2 ^ s % 2
digit-bit s x = go (x / 2 ^ s % 2) (mod-lt (x / 2 ^ s) (omega arith))
  where
    go : (n : ℕ) → n < 2 → digit (eqb n 1) ≡ n
    go zero h = refl
    go (suc zero) h = refl
    go (suc (suc n)) h = absurd (omega arith)

pub length-layer : (s : ℕ) (m : List ℕ) → length (layer s m) ≡ length m
length-layer s m = simp length-map

pub layer_at_lem : (s : ℕ) (m : List ℕ) (i : ℕ) → i < length m → get_or (layer s m) i false ≡ bit s (get_or m i 0)
layer_at_lem s [] i h = absurd (not-suc-le-zero h)
layer_at_lem s (x ∷ m) zero h = refl
layer_at_lem s (x ∷ m) (suc i) h = layer_at_lem s m i (le_of_suc-le-suc h)

pub digit_below : (b : Bool) → digit b < 2
digit_below true = omega arith
digit_below false = omega arith

pub length-pair : (h l : Word) → length h ≡ length l → length (pair h l) ≡ length h
unfolding pair
length-pair [] [] e = refl
length-pair [] (y ∷ l) e = refl
length-pair (x ∷ h) [] e = sym e
length-pair (x ∷ h) (y ∷ l) e = ap suc (length-pair h l (omega arith))

pub pair-Below : (h l : Word) → Below 4 (pair h l)
unfolding pair
pair-Below [] [] i = omega arith
pair-Below [] (y ∷ l) i = omega arith
pair-Below (x ∷ h) [] i = omega arith
pair-Below (x ∷ h) (y ∷ l) zero = omega (arith, digit_below x, digit_below y)
pair-Below (x ∷ h) (y ∷ l) (suc i) = pair-Below h l i

bit_high : (x y : Bool) → bit 1 (2 * digit x + digit y) ≡ x
bit_high true true = refl
bit_high true false = refl
bit_high false true = refl
bit_high false false = refl

bit_low : (x y : Bool) → bit 0 (2 * digit x + digit y) ≡ y
bit_low true true = refl
bit_low true false = refl
bit_low false true = refl
bit_low false false = refl

pub layer-pair_high : (h l : Word) → length h ≡ length l → layer 1 (pair h l) ≡ h
unfolding pair
layer-pair_high [] [] e = refl
layer-pair_high [] (y ∷ l) e = refl
layer-pair_high (x ∷ h) [] e = absurd (omega arith)
layer-pair_high (x ∷ h) (y ∷ l) e = rw (bit_high x y, layer-pair_high h l (omega arith))

pub layer-pair_low : (h l : Word) → length h ≡ length l → layer 0 (pair h l) ≡ l
unfolding pair
layer-pair_low [] [] e = refl
layer-pair_low [] (y ∷ l) e = absurd (omega arith)
layer-pair_low (x ∷ h) [] e = refl
layer-pair_low (x ∷ h) (y ∷ l) e = rw (bit_low x y, layer-pair_low h l (omega arith))

-- symbols are the pair of their layers
pub pair_layers : (m : List ℕ) → Below 4 m → pair (layer 1 m) (layer 0 m) ≡ m
unfolding pair
pair_layers [] h = refl
pair_layers (x ∷ m) h =
    let e : 2 * digit (bit 1 x) + digit (bit 0 x) ≡ x = omega (arith, digit-bit 1 x, digit-bit 0 x, h 0) in
    rw (e, pair_layers m (λ i. h (suc i)))

pub ones-le : (w : Word) → ones w ≤ length w
unfolding ones
ones-le [] = omega arith
ones-le (true ∷ w) = omega (arith, ones-le w)
ones-le (false ∷ w) = omega (arith, ones-le w)

sum_from-suc : (p : ℕ) (w : Word) → sum_from (suc p) w ≡ sum_from p w + ones w
unfolding sum_from ones
sum_from-suc p [] = refl
sum_from-suc p (true ∷ w) = omega (arith, sum_from-suc (suc p) w)
sum_from-suc p (false ∷ w) = omega (arith, sum_from-suc (suc p) w)

-- a bit put before a word adds the number of ones in the longer word
pub sum_cons : (b : Bool) (w : Word) → sum_of_places (b ∷ w) ≡ sum_of_places w + ones (b ∷ w)
unfolding sum_of_places sum_from ones
sum_cons true w = omega (arith, sum_from-suc 1 w)
sum_cons false w = omega (arith, sum_from-suc 1 w)

-- a symbol put before others adds to each layer's sum of places the number of ones in the longer layer
pub sum_before : (s x : ℕ) (m : List ℕ) → sum_of_places (layer s (x ∷ m)) ≡ sum_of_places (layer s m) + ones (layer s (x ∷ m))
sum_before s x m = sum_cons (bit s x) (layer s m)

-- a sum of at most n places, each at most n
pub sum_le : (n : ℕ) (w : Word) → length w ≤ n → sum_of_places w ≤ n * length w
unfolding sum_of_places sum_from
sum_le n [] h = omega arith
sum_le n (b ∷ w) h = omega (arith, sum_le n w (omega arith), sum_cons b w, ones-le (b ∷ w), mul-suc n (length w))

pub syndrome_below : (w : Word) → 0 < length w → syndrome w < 2 * length w
unfolding syndrome
syndrome_below w h = mod-lt (sum_of_places w) (omega arith)

-- the least number is one
pub Least-unique : {n t u : ℕ} → Least n t → Least n u → t ≡ u
Least-unique {n} {t} {u} a b = le_antisymm (a.least u b.enough) (b.least t a.enough)

-- nothing smaller than the first power found is enough
first_Least : (n m t : ℕ) → ((u : ℕ) → n ≤ 2 ^ u → t ≤ u) → n ≤ 2 ^ (t + m) → Least n (first_power n m t)
unfolding first_power
first_Least n zero t small far = record { enough = rw add-zero at far; least = small }
first_Least n (suc m) t small far =
    go (leb n (2 ^ t)) refl (λ more. first_Least n m (suc t) more (rw (suc-add, ← add-suc) far))
  where
    go : (b : Bool) → leb n (2 ^ t) ≡ b → (((u : ℕ) → n ≤ 2 ^ u → suc t ≤ u) → Least n (first_power n m (suc t))) → Least n (first_power n (suc m) t)
    go true e next = rw (e, first_power) (record { enough = leb-true n (2 ^ t) e; least = small })
    go false e next = rw (e, first_power) (next (λ u q. lt_of_not-le (λ l. omega (arith, leb-false n (2 ^ t) e, pow_mono l))))

below_power : (n : ℕ) → n ≤ 2 ^ n
below_power zero = omega arith
below_power (suc n) = omega (arith, below_power n, pow-succ' 2 n, pow_pos n)

-- t is the least number with 2k ≤ 2 ^ t
pub width-Least : (k : ℕ) → Least (2 * k) (width k)
unfolding width
width-Least k = first_Least (2 * k) (2 * k) 0 (λ u q. omega arith) (rw zero-add (below_power (2 * k)))

-- t is the machine's width w less the leading zeros of 2k − 1
pub width_leading : (w k : ℕ) → 0 < k → 2 * k ≤ 2 ^ w → w - count_leading_zeros w (2 * k - 1) ≡ width k
width_leading w k some fits = Least-unique leading (width-Least k)
  where
    s : (m : ℕ) × (count_leading_zeros w (2 * k - 1) + m ≡ w) × (2 * k - 1 < 2 ^ m) × (2 ^ m ≤ 2 * (2 * k - 1) + 1)
    s = leading_length w (2 * k - 1) (omega arith)

    leading : Least (2 * k) (w - count_leading_zeros w (2 * k - 1))
    leading =
        let e : w - count_leading_zeros w (2 * k - 1) ≡ s.0 = omega (arith, s.1) in
        rw e
        (record {
          enough = omega (arith, s.2);
          least = λ u q. le_of_suc-le-suc (lt_of_not-le (λ l. omega (arith, pow_mono l, pow-succ' 2 u, s.3)));
        })

pub length-bits : (t v : ℕ) → length (bits t v) ≡ t
unfolding bits
length-bits zero v = refl
length-bits (suc t) v = ap suc (length-bits t v)

pub number_below : (w : Word) → number w < 2 ^ length w
unfolding number
number_below [] = omega arith
number_below (true ∷ w) = omega (arith, number_below w, pow-succ' 2 (length w))
number_below (false ∷ w) = omega (arith, number_below w, pow-succ' 2 (length w))

-- what t bits write
pub number-bits : (t v : ℕ) → number (bits t v) ≡ v % 2 ^ t
unfolding bits number
number-bits zero v = sym (mod-one v)
number-bits (suc t) v = rw (digit-bit t v, length-bits t v, number-bits t v, ← one-add t) (sym (mod-pow-add v 1 t))

-- words of one length that write one number are one
number_same : (u w : Word) → length u ≡ length w → number u ≡ number w → u ≡ w
unfolding number
number_same [] [] e n = refl
number_same [] (b ∷ w) e n = absurd (omega arith)
number_same (a ∷ u) [] e n = absurd (omega arith)
number_same (a ∷ u) (b ∷ w) e n = go a b n (number_same u w (omega arith))
  where
    p : 2 ^ length u ≡ 2 ^ length w
    p = ap (◌^◌ 2) (omega arith)

    go : (a b : Bool) → digit a * 2 ^ length u + number u ≡ digit b * 2 ^ length w + number w → (number u ≡ number w → u ≡ w) → a ∷ u ≡ b ∷ w
    go true true h next = ap (◌∷◌ true) (next (omega (arith, p)))
    go false false h next = ap (◌∷◌ false) (next (omega (arith, p)))
    go true false h next = absurd (omega (arith, p, number_below w))
    go false true h next = absurd (omega (arith, p, number_below u))

pub bits-number : (w : Word) → bits (length w) (number w) ≡ w
bits-number w = number_same (bits (length w) (number w)) w (length-bits (length w) (number w)) (number-bits (length w) (number w) ∙ mod-eq_of_lt (number_below w))
