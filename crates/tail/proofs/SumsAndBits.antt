-- Sums of symbols and bits of numbers, by one step.
--   sep_sum                 Sep as a sum
--   total_step, total_end   the sum of symbols from a place on
--   bits_last               the last of the symbols of two numbers
--   bits_at                 their symbol at a place
use mathlib.Core.Path.{◌≡◌, sym, ap, ◌∙◌}
use mathlib.Core.Bool.{Bool, true, false, cond}
use mathlib.Core.List.{List, [], ◌∷◌, ◌++◌}
use Prim.Native.Nat.{ℕ, zero, suc, ◌+◌, ◌-◌, ◌*◌, ◌/◌, ◌%◌, ◌^◌, ◌<◌, ◌≤◌}
use native.Mathlib.Numerals.{add-one}
use native.Mathlib.Omega.{arith}
use lib.Bits.{bit_and, and_mask}
use lib.Pow.{shr-shr}
use lib.ListN.{length, get_or, drop, drop_of_length-le}
use lib.Seq.{drop-cons}
use Rattle.code.specs.Layers.{bit, digit, pair, bits}
use Rattle.code.proofs.laws.Layers.{digit-bit}
use Rattle.code.specs.Segment.{total}

-- the number that Sep adds to a, by whether a + 2 and a + 3 are taken
pub sep_sum : (a : ℕ) (p q : Bool) → a < 4 → ((a + 2) % 4 + digit p + 2 * bit_and (digit p) (digit q)) % 4 ≡ cond p (cond q ((a + 1) % 4) ((a + 3) % 4)) ((a + 2) % 4)
sep_sum a true true h = omega arith
sep_sum a true false h = omega arith
sep_sum a false true h = omega arith
sep_sum a false false h = omega arith

-- the sum of symbols from place i on
pub total_step : (m : List ℕ) (i : ℕ) → i < length m → total (drop i m) ≡ get_or m i 0 + total (drop (i + 1) m)
unfolding total
total_step m i h = rw (add-one, drop-cons m i 0 h)

pub total_end : (m : List ℕ) (i : ℕ) → length m ≤ i → total (drop i m) ≡ 0
unfolding total
total_end m i h = rw (drop_of_length-le m h)

one_more : (n : ℕ) → suc n ≡ 1 + n
one_more n = omega arith

-- the last symbol, and those before it of half the numbers
pub bits_last : (n h l : ℕ) → pair (bits (suc n) h) (bits (suc n) l) ≡ pair (bits n (h / 2)) (bits n (l / 2)) ++ (2 * bit_and h 1 + bit_and l 1) ∷ []
unfolding pair bits
bits_last zero h l = rw (digit-bit 0 h, digit-bit 0 l, and_mask h 1, and_mask l 1) (ap (λ (x : ℕ). x ∷ []) (omega arith))
bits_last (suc n) h l =
    let half : (v : ℕ) → digit (bit (suc n) v) ≡ digit (bit n (v / 2)) = λ v. digit-bit (suc n) v ∙ (ap (λ (m : ℕ). v / 2 ^ m % 2) (one_more n) ∙ (ap (λ (x : ℕ). x % 2) (sym (shr-shr v 1 n)) ∙ sym (digit-bit n (v / 2)))) in
    rw (half h, half l) (ap (◌∷◌ (2 * digit (bit n (h / 2)) + digit (bit n (l / 2)))) (bits_last n h l))

-- the symbol at place i, from the first
pub bits_at : (t h l i : ℕ) → i < t → get_or (pair (bits t h) (bits t l)) i 0 ≡ 2 * digit (bit (t - 1 - i) h) + digit (bit (t - 1 - i) l)
unfolding pair bits
bits_at zero h l i r = absurd (omega arith)
bits_at (suc t) h l zero r = let e : suc t - 1 - 0 ≡ t = omega arith in rw e
bits_at (suc t) h l (suc i) r = let e : suc t - 1 - suc i ≡ t - 1 - i = omega arith in rw e (bits_at t h l i (omega arith))

-- the bit of a number that a shift and a mask take
pub masked : (v i : ℕ) → bit_and (v / 2 ^ i) 1 ≡ digit (bit i v)
masked v i = and_mask (v / 2 ^ i) 1 ∙ sym (digit-bit i v)
