-- Laws of decimal digits.
--   decimal_short, decimal_long   the digits of a number below 10, and of any other
--   length_long, length-decimal   how many there are
--   decimal_injective             two numbers with the same digits are equal
--   decimal_read                  the digits of a number are read as it
use Rattle.std.specs.Prelude.{◌≡◌, refl, true, List, [], ◌∷◌, ◌++◌, ℕ, zero, suc, ◌+◌, ◌*◌, ◌/◌, ◌%◌, ◌^◌, ◌<◌, ◌≤◌, ltb, length, Some}
use Rattle.std.proofs.Common.{sym, ap, ◌∙◌, arith, lt-ltb, le-ltb, le-leb, length-append}
use Rattle.std.proofs.Math.Nat.{pow-succ'}
use Rattle.std.proofs.Math.Decide.{dec_le}
use Rattle.text.specs.HexDigit.{value_of, digit_of, all_digits}
use Rattle.text.specs.Decimal.{decimal_in, decimal, number_from, number_in}
use Rattle.text.proofs.laws.HexDigit.{value_digit, digits_append}

-- room for more gives no other digits
room : (m k n : ℕ) → n < m → n < k → decimal_in m n ≡ decimal_in k n
unfolding decimal_in
room zero k n h l = absurd (omega arith)
room (suc m) zero n h l = absurd (omega arith)
room (suc m) (suc k) n h l = go (dec_le 10 n) (room m k (n / 10))
  where
    go : Dec (10 ≤ n) → (n / 10 < m → n / 10 < k → decimal_in m (n / 10) ≡ decimal_in k (n / 10)) → decimal_in (suc m) n ≡ decimal_in (suc k) n
    go (yes p) e = rw (le-ltb n 10 p, e (omega arith) (omega arith))
    go (no q) e = rw (lt-ltb n 10 (omega arith))

pub decimal_short : (n : ℕ) → n < 10 → decimal n ≡ digit_of n ∷ []
unfolding decimal decimal_in
decimal_short n h = let e : n % 10 ≡ n = omega arith in rw (lt-ltb n 10 h, e)

pub decimal_long : (n : ℕ) → 10 ≤ n → decimal n ≡ decimal (n / 10) ++ digit_of (n % 10) ∷ []
unfolding decimal decimal_in
decimal_long n h = rw (le-ltb n 10 h, room n (suc (n / 10)) (n / 10) (omega arith) (omega arith))

-- a number from 10 on has a digit more than its tenth
pub length_long : (n : ℕ) → 10 ≤ n → length (decimal n) ≡ length (decimal (n / 10)) + 1
length_long n h = rw (decimal_long n h, length-append (decimal (n / 10)) (digit_of (n % 10) ∷ []))

-- a number below a power of ten has no more digits than its exponent
pub length-decimal : (k n : ℕ) → n < 10 ^ suc k → length (decimal n) ≤ suc k
length-decimal zero n h = rw (decimal_short n (omega arith)) (omega arith)
length-decimal (suc k) n h = go (dec_le 10 n) (length-decimal k (n / 10) (omega (arith, pow-succ' 10 (suc k))))
  where
    go : Dec (10 ≤ n) → length (decimal (n / 10)) ≤ suc k → length (decimal n) ≤ suc (suc k)
    go (yes p) l = omega (arith, length_long n p)
    go (no q) l = rw (decimal_short n (omega arith)) (omega arith)

number_append : (a : ℕ) (cs : List ℕ) (c : ℕ) → number_from a (cs ++ c ∷ []) ≡ 10 * number_from a cs + value_of c
unfolding number_from
number_append a [] c = refl
number_append a (d ∷ cs) c = number_append (10 * a + value_of d) cs c

number_in_lem : (m n : ℕ) → n < m → number_from 0 (decimal_in m n) ≡ n
unfolding decimal_in number_from
number_in_lem zero n h = absurd (omega arith)
number_in_lem (suc m) n h = go (dec_le 10 n) (number_in_lem m (n / 10))
  where
    last : value_of (digit_of (n % 10)) ≡ n % 10
    last = value_digit (n % 10) (omega arith)

    go : Dec (10 ≤ n) → (n / 10 < m → number_from 0 (decimal_in m (n / 10)) ≡ n / 10) → number_from 0 (decimal_in (suc m) n) ≡ n
    go (yes p) e = rw (le-ltb n 10 p, number_append 0 (decimal_in m (n / 10)) (digit_of (n % 10)), e (omega arith), last) (omega arith)
    go (no q) e = rw (lt-ltb n 10 (omega arith), last) (omega arith)

-- two numbers with the same digits are equal
pub decimal_injective : (a b : ℕ) → decimal a ≡ decimal b → a ≡ b
unfolding decimal
decimal_injective a b e = sym (number_in_lem (suc a) a (omega arith)) ∙ (ap (number_from 0) e ∙ number_in_lem (suc b) b (omega arith))

-- they are decimal digits, one or more
digits_in : (m n : ℕ) → n < m → (all_digits 10 (decimal_in m n) ≡ true) × (0 < length (decimal_in m n))
unfolding decimal_in all_digits
digits_in zero n h = absurd (omega arith)
digits_in (suc m) n h = go (dec_le 10 n) (digits_in m (n / 10))
  where
    last : ltb (value_of (digit_of (n % 10))) 10 ≡ true
    last = rw (value_digit (n % 10) (omega arith)) (lt-ltb (n % 10) 10 (omega arith))

    go : Dec (10 ≤ n) → (n / 10 < m → (all_digits 10 (decimal_in m (n / 10)) ≡ true) × (0 < length (decimal_in m (n / 10)))) → (all_digits 10 (decimal_in (suc m) n) ≡ true) × (0 < length (decimal_in (suc m) n))
    go (yes p) e =
        rw (le-ltb n 10 p)
        (rw (digits_append 10 (decimal_in m (n / 10)) (digit_of (n % 10) ∷ []), (e (omega arith)).0, last), omega (arith, length-append (decimal_in m (n / 10)) (digit_of (n % 10) ∷ [])))
    go (no q) e = rw (lt-ltb n 10 (omega arith)) (rw last, omega arith)

-- a number of 16 bits is read from its digits
pub decimal_read : (n : ℕ) → n ≤ 65535 → number_in (decimal n) ≡ Some n
unfolding decimal
decimal_read n h =
    let d = digits_in (suc n) n (omega arith) in
    rw (le-ltb (length (decimal_in (suc n) n)) 1 (omega (arith, d.1)), le-ltb 5 (length (decimal_in (suc n) n)) (length-decimal 4 n (omega arith)), d.0, number_in_lem (suc n) n (omega arith), le-leb n 65535 h)
