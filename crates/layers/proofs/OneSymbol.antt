-- One symbol more before the others: what it adds to the numbers of ones and to the sums of places.
--   Sums              the numbers of ones and the sums of places from a place on
--   one_before        with one symbol more
--   turn_fits         they fit into a word
--   ones_small        a message has few ones
--   check_of          the check, from the numbers of ones
--   high_of, low_of   each layer's sum of places
use mathlib.Core.Path.{◌≡◌, sym, ap, ◌∙◌}
use mathlib.Core.List.{List, ◌∷◌}
use Prim.Native.Nat.{ℕ, ◌+◌, ◌-◌, ◌*◌, ◌/◌, ◌%◌, ◌≤◌, ◌<◌}
use native.Mathlib.Numerals.{add-one}
use native.Mathlib.Omega.{arith}
use lib.ListN.{length, get_or, drop, length-drop}
use lib.Seq.{drop-cons}
use Rattle.code.specs.Bounds.{longest}
use Rattle.code.specs.Layers.{bit, layer, digit, ones, sum_of_places}
use Rattle.code.proofs.laws.Layers.{length-layer, ones-le, sum_before, sum_le}
use Rattle.code.specs.Segment.{check}
use Rattle.code.proofs.laws.Segment.{check-ones}
use Rattle.places.specs.Words.{word_of}
use Rattle.layers.specs.SideBySide.{half, sides, bytes_of, bit_bytes}

-- the bits of a single byte
one_byte : (x : ℕ) → x < 256 → sides bit_bytes (bytes_of 4 x) ≡ digit (bit 0 x) + half * digit (bit 1 x)
unfolding bytes_of word_of
one_byte x h =
    let first : x % 256 ≡ x = omega arith in
    let rest : x / 256 ≡ 0 = omega arith in
    rw (first, rest) (omega arith)

-- the symbol at place i and those behind it
module _ (m : List ℕ) (i : ℕ) (h : i < length m) where
  at_front : drop i m ≡ get_or m i 0 ∷ drop (i + 1) m
  at_front = rw add-one (drop-cons m i 0 h)

  ones_more : (s : ℕ) → ones (layer s (drop i m)) ≡ ones (layer s (drop (i + 1) m)) + digit (bit s (get_or m i 0))
  unfolding ones
  ones_more s = rw at_front (omega arith)

  -- the running sum: the number of ones so far is added
  places_more : (s : ℕ) → sum_of_places (layer s (drop i m)) ≡ sum_of_places (layer s (drop (i + 1) m)) + ones (layer s (drop i m))
  places_more s = rw at_front (sum_before s (get_or m i 0) (drop (i + 1) m))

  more_ones : (n r : ℕ) → get_or m i 0 < 256 → n ≡ sides ones (drop (i + 1) m) → r ≡ sides bit_bytes (bytes_of 4 (get_or m i 0)) → n + r ≡ sides ones (drop i m)
  more_ones n r b e f = omega (arith, e, f, one_byte (get_or m i 0) b, ones_more 0, ones_more 1)

  more_places : (p n : ℕ) → p ≡ sides sum_of_places (drop (i + 1) m) → n ≡ sides ones (drop i m) → p + n ≡ sides sum_of_places (drop i m)
  more_places p n e f = omega (arith, e, f, places_more 0, places_more 1)

-- some symbols of a message
module _ (m : List ℕ) (i : ℕ) (short : length m ≤ longest) where
  few : (s : ℕ) → length (layer s (drop i m)) ≤ longest
  few s = simp (length-layer, length-drop) (omega arith)

  pub ones_small : (s : ℕ) → ones (layer s (drop i m)) ≤ 256
  ones_small s = omega (arith, few s, ones-le (layer s (drop i m)))

  places_small : (s : ℕ) → sum_of_places (layer s (drop i m)) ≤ 65536
  places_small s = omega (arith, few s, sum_le 256 (layer s (drop i m)) (few s))

  fit_places : sides sum_of_places (drop i m) < 18446744073709551616
  fit_places = omega (arith, places_small 0, places_small 1)

-- all symbols of a message
module _ (m : List ℕ) (short : length m ≤ longest) where
  -- a number of ones of each layer
  both_ones : (a b n : ℕ) → a ≤ 256 → n ≡ a + half * b → (n + n / 2147483648) % 4 ≡ (a + 2 * b) % 4
  both_ones a b n h e =
      let d : n / 2147483648 ≡ 2 * b = omega arith in
      rw d (omega arith)

  pub check_of : (n : ℕ) → n ≡ sides ones m → (n + n / 2147483648) % 4 ≡ check m
  check_of n e = both_ones (ones (layer 0 m)) (ones (layer 1 m)) n (ones_small m 0 short 0) e ∙ sym (check-ones m)

  pub high_of : (p : ℕ) → p ≡ sides sum_of_places m → p / half ≡ sum_of_places (layer 1 m)
  high_of p e = omega (arith, places_small m 0 short 0)

  pub low_of : (p : ℕ) → p ≡ sides sum_of_places m → p % half ≡ sum_of_places (layer 0 m)
  low_of p e = omega (arith, places_small m 0 short 0)

-- n and p are the numbers of ones and the sums of places from place i on
pub record Sums (m : List ℕ) (i n p : ℕ) : Type 0 where
  pub inside : i ≤ length m
  pub n_is : n ≡ sides ones (drop i m)
  pub p_is : p ≡ sides sum_of_places (drop i m)

-- the symbol before place i
module _ {m : List ℕ} {i n p : ℕ} (k : Sums m i n p) (some : 0 < i) (byte : get_or m (i - 1) 0 < 256) {r : ℕ} (r_is : r ≡ sides bit_bytes (bytes_of 4 (get_or m (i - 1) 0))) where
  room : i - 1 < length m
  room = omega (arith, k.inside)

  again : i ≡ i - 1 + 1
  again = omega arith

  turn_ones : n + r ≡ sides ones (drop (i - 1) m)
  turn_ones = more_ones m (i - 1) room n r byte (k.n_is ∙ ap (λ (j : ℕ). sides ones (drop j m)) again) r_is

  turn_places : p + (n + r) ≡ sides sum_of_places (drop (i - 1) m)
  turn_places = more_places m (i - 1) room p (n + r) (k.p_is ∙ ap (λ (j : ℕ). sides sum_of_places (drop j m)) again) turn_ones

  pub turn_fits : length m ≤ longest → p + (n + r) < 18446744073709551616
  turn_fits short = rw turn_places (fit_places m (i - 1) short)

  pub one_before : Sums m (i - 1) (n + r) (p + (n + r))
  one_before = record { inside = omega (arith, room); n_is = turn_ones; p_is = turn_places }
