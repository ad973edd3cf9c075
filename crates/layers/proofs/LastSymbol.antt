-- One more symbol at the end: what it adds to a layer's sum of places and number.
use mathlib.Core.Path.{◌≡◌, sym}
use mathlib.Core.Bool.{Bool, true, false, cond}
use mathlib.Core.List.{List, [], ◌∷◌, ◌++◌, map-append}
use Prim.Native.Nat.{ℕ, suc, ◌+◌, ◌-◌, ◌*◌, ◌<◌, ◌≤◌}
use native.Mathlib.Nat.{pow-succ'}
use native.Mathlib.Numerals.{add-one}
use native.Mathlib.Omega.{arith}
use lib.ListN.{length, get_or, take, length-append, length-take}
use lib.Pow.{pow_mono}
use lib.Seq.{take-suc, take-length}
use Rattle.code.specs.Bounds.{longest, widest}
use Rattle.code.specs.Layers.{Word, bit, layer, digit, sum_of_places, sum_from, number}
use Rattle.code.proofs.laws.Layers.{length-layer, number_below, sum_le}

from_end : (p : ℕ) (w : Word) (b : Bool) → sum_from p (w ++ b ∷ []) ≡ sum_from p w + cond b (p + length w) 0
unfolding sum_from
from_end p [] true = omega arith
from_end p [] false = omega arith
from_end p (a ∷ w) true = omega (arith, from_end (suc p) w true)
from_end p (a ∷ w) false = omega (arith, from_end (suc p) w false)

number_end : (w : Word) (b : Bool) → number (w ++ b ∷ []) ≡ 2 * number w + digit b
unfolding number
number_end [] b = omega arith
number_end (true ∷ w) b = rw (length-append w (b ∷ []), add-one) (omega (arith, number_end w b, pow-succ' 2 (length w)))
number_end (false ∷ w) b = omega (arith, number_end w b)

-- the number that a syndrome writes is below 2 ^ 16
number_fits : (w : Word) → length w ≤ widest → number w < 65536
number_fits w h = omega (arith, number_below w, pow_mono h)

-- the first symbols and the one after them
module _ (m : List ℕ) (i : ℕ) (h : i < length m) where
  one_more : take (i + 1) m ≡ take i m ++ get_or m i 0 ∷ []
  one_more = rw add-one (take-suc m i 0 h)

  module _ (s : ℕ) where
    layer_more : layer s (take (i + 1) m) ≡ layer s (take i m) ++ bit s (get_or m i 0) ∷ []
    layer_more = rw one_more (map-append (bit s) (take i m) (get_or m i 0 ∷ []))

    -- the symbol after them adds its place where it has a one
    sum_more : sum_of_places (layer s (take (i + 1) m)) ≡ sum_of_places (layer s (take i m)) + cond (bit s (get_or m i 0)) (i + 1) 0
    unfolding sum_of_places
    sum_more =
        let l : 1 + length (layer s (take i m)) ≡ i + 1 = simp (length-layer, length-take) (omega arith) in
        rw (layer_more, ← l) (from_end 1 (layer s (take i m)) (bit s (get_or m i 0)))

    number_more : number (layer s (take (i + 1) m)) ≡ 2 * number (layer s (take i m)) + digit (bit s (get_or m i 0))
    number_more = rw layer_more (number_end (layer s (take i m)) (bit s (get_or m i 0)))

    -- d is its bit, v the number before it
    module _ (d : ℕ) (e : d ≡ digit (bit s (get_or m i 0))) (v : ℕ) where
      pub bit_more : v ≡ number (layer s (take i m)) → 2 * v + d ≡ number (layer s (take (i + 1) m))
      bit_more p = rw (p, e) (sym number_more)

      pub bit_fits : length m ≤ widest → v ≡ number (layer s (take i m)) → 2 * v + d < 65536
      bit_fits n p = rw (bit_more p) (number_fits (layer s (take (i + 1) m)) (simp (length-layer, length-take) (omega arith)))

module _ (s : ℕ) where
  one_first : (n : ℕ) → 0 < n → n - 1 + 1 ≡ n
  one_first n h = omega arith

  -- the last of some symbols adds the length where it has a one
  sum_last : (m : List ℕ) → 0 < length m → sum_of_places (layer s m) ≡ sum_of_places (layer s (take (length m - 1) m)) + cond (bit s (get_or m (length m - 1) 0)) (length m) 0
  sum_last m h = rw (one_first (length m) h, take-length m) at (sum_more m (length m - 1) (omega arith) s)

  -- p is what the last place adds
  module _ (m : List ℕ) (some : 0 < length m) (p : ℕ) (e : p ≡ cond (bit s (get_or m (length m - 1) 0)) (length m) 0) where
    last_place : sum_of_places (layer s m) ≡ sum_of_places (layer s (take (length m - 1) m)) + p
    last_place = rw e (sum_last m some)

    pub with_place : (v : ℕ) → v ≡ sum_of_places (layer s (take (length m - 1) m)) → v + p ≡ sum_of_places (layer s m)
    with_place v h = omega (arith, last_place)

    pub with_fits : (v : ℕ) → length m ≤ longest + 1 → v ≡ sum_of_places (layer s (take (length m - 1) m)) → v + p ≤ (longest + 1) * (longest + 1)
    with_fits v n h = omega (arith, with_place v h, sum_le (longest + 1) (layer s m) (simp length-layer n), length-layer s m)

    pub without_place : (v : ℕ) → v ≡ sum_of_places (layer s m) → (p ≤ v) × (v - p ≡ sum_of_places (layer s (take (length m - 1) m)))
    without_place v h = (omega (arith, last_place), omega (arith, last_place))
