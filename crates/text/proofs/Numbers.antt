-- The loop over the digits of a number: what is answered of those behind others.
use mathlib.Core.Path.{◌≡◌, refl}
use mathlib.Core.Bool.{Bool, true, false, ◌&&◌, cond}
use mathlib.Core.List.{List, [], ◌∷◌}
use Prim.Native.Nat.{ℕ, ◌+◌, ◌*◌, ◌<◌, ◌≤◌}
use native.Mathlib.Numerals.{add-one}
use native.Mathlib.Omega.{arith}
use borrow.Author.Tests.{lt-ltb, le-ltb, le-leb, lt-leb}
use lib.Dec.{leb}
use lib.ListN.{length, get_or, drop, drop_of_length-le}
use lib.Seq.{drop-cons}
use Rattle.text.specs.HexDigit.{value_of, all_digits}
use Rattle.text.specs.Decimal.{number_from}
use Rattle.std.specs.Prelude.{Option, Some, None}

-- what is answered where the digits of n stand before a text
abbrev pub read_from : ℕ → List ℕ → Option ℕ
read_from n cs = cond (all_digits 10 cs && leb (number_from n cs) 65535) (Some (number_from n cs)) None

-- a number does not fall with further digits
number_grows : (n : ℕ) (cs : List ℕ) → n ≤ number_from n cs
unfolding number_from
number_grows n [] = omega arith
number_grows n (c ∷ cs) = omega (arith, number_grows (10 * n + value_of c) cs)

pub read_large : (n : ℕ) (cs : List ℕ) → 65535 < n → read_from n cs ≡ None
read_large n cs h = rw (lt-leb (number_from n cs) 65535 (omega (arith, number_grows n cs))) (go (all_digits 10 cs))
  where
    go : (b : Bool) → cond (b && false) (Some (number_from n cs)) None ≡ None
    go true = refl
    go false = refl

module _ (n : ℕ) (cs : List ℕ) (i : ℕ) where
  -- the next byte is a digit, or not
  module _ (h : i < length cs) where
    pub read_step : value_of (get_or cs i 0) < 10 → read_from n (drop i cs) ≡ read_from (10 * n + value_of (get_or cs i 0)) (drop (i + 1) cs)
    unfolding all_digits number_from
    read_step d = rw (add-one, drop-cons cs i 0 h, lt-ltb (value_of (get_or cs i 0)) 10 d)

    pub read_bad : 10 ≤ value_of (get_or cs i 0) → read_from n (drop i cs) ≡ None
    unfolding all_digits number_from
    read_bad d = rw (drop-cons cs i 0 h, le-ltb (value_of (get_or cs i 0)) 10 d)

  -- none is left
  pub read_end : length cs ≤ i → n ≤ 65535 → read_from n (drop i cs) ≡ Some n
  unfolding all_digits number_from
  read_end h l = rw (drop_of_length-le cs h, le-leb n 65535 l)
