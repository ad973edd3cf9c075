-- Laws of digits, in the order of their definitions.
use Rattle.std.specs.Prelude.{◌≡◌, refl, Bool, true, false, ◌&&◌, List, [], ◌∷◌, ◌++◌, ℕ, ◌+◌, ◌-◌, ◌<◌, ◌≤◌, ltb, Some, length, get_or, drop}
use Rattle.std.proofs.lemmas.Bool.Decides.{nat_tests}
use Rattle.std.specs.List.{list_all}
use Rattle.std.specs.Char.{IsAsciiDigit, IsNotAsciiDigit}
use Rattle.std.proofs.Common.{arith, lt-ltb, le-ltb, add-one, drop_of_length-le, drop-cons}
use Rattle.std.proofs.Math.Decide.{dec_le}
use Rattle.text.specs.HexDigit.{no_digit, value_of, value_in, digit_of, all_digits}

low_digit : (v : ℕ) → v < 10 → value_of (digit_of v) ≡ v
unfolding value_of digit_of
low_digit v h = rw (lt-ltb v 10 h, le-ltb (48 + v) 48 (omega arith), lt-ltb (48 + v) 58 (omega arith)) (omega arith)

high_digit : (v : ℕ) → 10 ≤ v → v < 16 → value_of (digit_of v) ≡ v
unfolding value_of digit_of
high_digit v l h =
    rw (le-ltb v 10 l, le-ltb (55 + v) 48 (omega arith), le-ltb (55 + v) 58 (omega arith), le-ltb (55 + v) 65 (omega arith), lt-ltb (55 + v) 71 (omega arith)) (omega arith)

-- the value of a value's digit is that value
pub value_digit : (v : ℕ) → v < 16 → value_of (digit_of v) ≡ v
value_digit v h = go (dec_le 10 v)
  where
    go : Dec (10 ≤ v) → value_of (digit_of v) ≡ v
    go (yes l) = high_digit v l h
    go (no n) = low_digit v (omega arith)

-- so is the value of a lower-case digit
pub value_lower : (v : ℕ) → 10 ≤ v → v < 16 → value_of (87 + v) ≡ v
unfolding value_of
value_lower v l h =
    rw (
      le-ltb (87 + v) 48 (omega arith),
      le-ltb (87 + v) 58 (omega arith),
      le-ltb (87 + v) 65 (omega arith),
      le-ltb (87 + v) 71 (omega arith),
      le-ltb (87 + v) 97 (omega arith),
      lt-ltb (87 + v) 103 (omega arith),
    )
    (omega arith)

-- the value of a decimal digit, and that of another byte
pub value_decimal : (c : ℕ) → IsAsciiDigit c → (value_of c ≡ c - 48) × (value_of c < 10)
unfolding value_of
value_decimal c h = rw (le-ltb c 48 (omega arith), lt-ltb c 58 (omega arith)) (refl, omega arith)

pub value_no_decimal : (c : ℕ) → IsNotAsciiDigit c → 10 ≤ value_of c
unfolding value_of
value_no_decimal c h = grind (arith, nat_tests)

-- a byte is a digit below a value
abbrev pub is_below : ℕ → ℕ → Bool
is_below n c = ltb (value_of c) n

pub all_digits_all : (n : ℕ) (cs : List ℕ) → list_all (is_below n) cs ≡ all_digits n cs
unfolding all_digits
all_digits_all n [] = refl
all_digits_all n (c ∷ cs) = rw (all_digits_all n cs)

-- the value of a digit
pub value_in-digit : (c : ℕ) → value_of c < no_digit → value_in c ≡ Some (value_of c)
value_in-digit c h = rw (lt-ltb (value_of c) no_digit h)

-- one byte further in a text
pub all_digits_step : (n : ℕ) (cs : List ℕ) (i : ℕ) → i < length cs → all_digits n (drop i cs) ≡ (ltb (value_of (get_or cs i 0)) n && all_digits n (drop (i + 1) cs))
unfolding all_digits
all_digits_step n cs i h = rw (add-one, drop-cons cs i 0 h)

pub all_digits_end : (n : ℕ) (cs : List ℕ) (i : ℕ) → length cs ≤ i → all_digits n (drop i cs) ≡ true
unfolding all_digits
all_digits_end n cs i h = rw (drop_of_length-le cs h)

pub digits_append : (n : ℕ) (cs ds : List ℕ) → all_digits n (cs ++ ds) ≡ (all_digits n cs && all_digits n ds)
unfolding all_digits
digits_append n [] ds = refl
digits_append n (c ∷ cs) ds = go (ltb (value_of c) n) (digits_append n cs ds)
  where
    go : (b : Bool) → all_digits n (cs ++ ds) ≡ (all_digits n cs && all_digits n ds) → (b && all_digits n (cs ++ ds)) ≡ ((b && all_digits n cs) && all_digits n ds)
    go true h = h
    go false h = refl
