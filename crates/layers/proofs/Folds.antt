-- What folding two words of columns gives.
--   folded_ones     the ones of all columns, in each half
--   folded_places   the sum of places, in each half
use mathlib.Core.Path.{◌≡◌, ◌∙◌}
use mathlib.Core.List.{[], ◌∷◌}
use Prim.Native.Nat.{ℕ, ◌+◌, ◌*◌, ◌/◌, ◌%◌, ◌<◌}
use native.Mathlib.Nat.{mod-lt}
use native.Mathlib.Omega.{arith}
use lib.Bits.{bit_and}
use Rattle.code.specs.Segment.{total}
use Rattle.layers.specs.SideBySide.{half, bytes_of, halves, from_right, column_ones, column_places}
use Rattle.layers.proofs.Masks.{lanes, even_bytes, low_lanes, next_lanes}

-- every other byte of a word, and the other ones
abbrev pub evens : ℕ → ℕ
evens w = bit_and w 71777214294589695

abbrev pub odds : ℕ → ℕ
odds w = bit_and (w / 256) 71777214294589695

-- lanes under the mask of each half's lower lane, with other lanes one further
module _ (p q r s p' q' r' s' : ℕ) (p16 : p + q' < 65536) (q16 : q + r' < 65536) (r16 : r + s' < 65536) (p'16 : p' < 65536) (q'16 : q' < 65536) (r'16 : r' < 65536) where
  fold_lanes : bit_and (lanes p q r s + lanes p' q' r' s' / 65536) 281470681808895 ≡ p + q' + half * (r + s')
  fold_lanes =
      let e : lanes p q r s + lanes q' r' s' 0 ≡ lanes (p + q') (q + r') (r + s') s = omega arith in
      rw (next_lanes p' q' r' s' p'16 q'16 r'16, e) (low_lanes (p + q') (q + r') (r + s') s p16 q16 r16)

-- each of four numbers is a byte
pub record Bytes (a b c d : ℕ) : Type 0 where
  pub first : a < 256
  pub second : b < 256
  pub third : c < 256
  pub fourth : d < 256

-- a word of eight bytes
module _ (a b c d e f g h : ℕ) (k : Bytes a b c d) (l : Bytes e f g h) where
  abbrev eight : ℕ
  eight = lanes (b * 256 + a) (d * 256 + c) (f * 256 + e) (h * 256 + g)

  even_lanes : evens eight ≡ lanes a c e g
  even_lanes =
      let p : (b * 256 + a) % 256 ≡ a = omega (arith, k) in
      let q : (d * 256 + c) % 256 ≡ c = omega (arith, k) in
      let r : (f * 256 + e) % 256 ≡ e = omega (arith, l) in
      let s : (h * 256 + g) % 256 ≡ g = omega (arith, l) in
      even_bytes (b * 256 + a) (d * 256 + c) (f * 256 + e) (h * 256 + g) (omega (arith, k)) (omega (arith, k, l)) (omega (arith, l)) ∙ rw (p, q, r, s)

  odd_lanes : odds eight ≡ lanes b d f h
  odd_lanes =
      let down : eight / 256 ≡ lanes (c * 256 + b) (e * 256 + d) (g * 256 + f) h = omega (arith, k, l) in
      let p : (c * 256 + b) % 256 ≡ b = omega (arith, k) in
      let q : (e * 256 + d) % 256 ≡ d = omega (arith, k) in
      let r : (g * 256 + f) % 256 ≡ f = omega (arith, l) in
      let s : h % 256 ≡ h = omega (arith, l) in
      rw down (even_bytes (c * 256 + b) (e * 256 + d) (g * 256 + f) h (omega (arith, k)) (omega (arith, k, l)) (omega (arith, l)) ∙ rw (p, q, r, s))

  pair_lanes : evens eight + odds eight ≡ lanes (a + b) (c + d) (e + f) (g + h)
  pair_lanes = rw (even_lanes, odd_lanes) (omega arith)

-- the bytes of a number below 2 ^ 32
abbrev byte0 : ℕ → ℕ
byte0 v = v % 256

abbrev byte1 : ℕ → ℕ
byte1 v = v / 256 % 256

abbrev byte2 : ℕ → ℕ
byte2 v = v / 256 / 256 % 256

abbrev byte3 : ℕ → ℕ
byte3 v = v / 256 / 256 / 256 % 256

quad : (v : ℕ) → v < half → v ≡ (byte3 v * 256 + byte2 v) * 65536 + (byte1 v * 256 + byte0 v)
quad v h = omega arith

joined : (p q r s u v w : ℕ) → v ≡ q * 65536 + p → u ≡ s * 65536 + r → w ≡ u * half + v → w ≡ lanes p q r s
joined p q r s u v w e f g = omega arith

-- a word by the bytes of its halves
by_bytes : (w : ℕ) → w < 18446744073709551616 → w ≡ lanes (byte1 (w % half) * 256 + byte0 (w % half)) (byte3 (w % half) * 256 + byte2 (w % half)) (byte1 (w / half) * 256 + byte0 (w / half)) (byte3 (w / half) * 256 + byte2 (w / half))
by_bytes w h = joined _ _ _ _ (w / half) (w % half) w (quad (w % half) (mod-lt w (omega arith))) (quad (w / half) (omega arith)) (omega arith)

byte : (x : ℕ) → x % 256 < 256
byte x = mod-lt x (omega arith)

bytes_of_lem : (v : ℕ) → Bytes (byte0 v) (byte1 v) (byte2 v) (byte3 v)
bytes_of_lem v = record { first = byte v; second = byte (v / 256); third = byte (v / 256 / 256); fourth = byte (v / 256 / 256 / 256) }

-- the function's numbers
abbrev pub pairs : ℕ → ℕ
pairs v = evens v + odds v

abbrev pub sums : ℕ → ℕ → ℕ
sums v w = 4 * pairs w + pairs v + odds v

-- the ones of all columns
module _ (a b c d e f g h : ℕ) (k : Bytes a b c d) (l : Bytes e f g h) where
  all_ones : bit_and (lanes (a + b) (c + d) (e + f) (g + h) + lanes (a + b) (c + d) (e + f) (g + h) / 65536) 281470681808895 ≡ (a + (b + (c + (d + 0)))) + half * (e + (f + (g + (h + 0))))
  all_ones =
      fold_lanes (a + b) (c + d) (e + f) (g + h) (a + b) (c + d) (e + f) (g + h) (omega (arith, k, l)) (omega (arith, k, l)) (omega (arith, k, l)) (omega (arith, k, l)) (omega (arith, k, l)) (omega (arith, k, l))
      ∙ omega arith

-- the sum of their places, with the ones behind the rows
module _ (a b c d e f g h p q r s t u v w : ℕ) (k : Bytes a b c d) (l : Bytes e f g h) (m : Bytes p q r s) (n : Bytes t u v w) where
  abbrev sum_lanes : ℕ
  sum_lanes = lanes (4 * (p + q) + (a + b) + b) (4 * (r + s) + (c + d) + d) (4 * (t + u) + (e + f) + f) (4 * (v + w) + (g + h) + h)

  abbrev more_lanes : ℕ
  more_lanes = lanes (4 * (p + q) + 3 * (a + b) + b) (4 * (r + s) + 3 * (c + d) + d) (4 * (t + u) + 3 * (e + f) + f) (4 * (v + w) + 3 * (g + h) + h)

  sum_of : 4 * lanes (p + q) (r + s) (t + u) (v + w) + lanes (a + b) (c + d) (e + f) (g + h) + lanes b d f h ≡ sum_lanes
  sum_of = omega arith

  more_of : sum_lanes + 2 * lanes (a + b) (c + d) (e + f) (g + h) ≡ more_lanes
  more_of = omega arith

  all_places : bit_and (sum_lanes + more_lanes / 65536) 281470681808895 ≡ (4 * (p + (q + (r + (s + 0)))) + (a + 2 * b + 3 * c + 4 * d)) + half * (4 * (t + (u + (v + (w + 0)))) + (e + 2 * f + 3 * g + 4 * h))
  all_places =
      fold_lanes
      (4 * (p + q) + (a + b) + b)
      (4 * (r + s) + (c + d) + d)
      (4 * (t + u) + (e + f) + f)
      (4 * (v + w) + (g + h) + h)
      (4 * (p + q) + 3 * (a + b) + b)
      (4 * (r + s) + 3 * (c + d) + d)
      (4 * (t + u) + 3 * (e + f) + f)
      (4 * (v + w) + 3 * (g + h) + h)
      (omega (arith, k, m))
      (omega (arith, k, l, m, n))
      (omega (arith, l, n))
      (omega (arith, k, m))
      (omega (arith, k, m))
      (omega (arith, l, n))
      ∙ omega arith

  -- the bytes of both words
  module _ (x y : ℕ) (x_is : x ≡ lanes (b * 256 + a) (d * 256 + c) (f * 256 + e) (h * 256 + g)) (y_is : y ≡ lanes (q * 256 + p) (s * 256 + r) (u * 256 + t) (w * 256 + v)) where
    pair_ones : bit_and (pairs x + pairs x / 65536) 281470681808895 ≡ (a + (b + (c + (d + 0)))) + half * (e + (f + (g + (h + 0))))
    pair_ones = rw (x_is, pair_lanes a b c d e f g h k l) (all_ones a b c d e f g h k l)

    pair_places : bit_and (sums x y + (sums x y + 2 * pairs x) / 65536) 281470681808895 ≡ (4 * (p + (q + (r + (s + 0)))) + (a + 2 * b + 3 * c + 4 * d)) + half * (4 * (t + (u + (v + (w + 0)))) + (e + 2 * f + 3 * g + 4 * h))
    pair_places = rw (x_is, y_is, pair_lanes a b c d e f g h k l, pair_lanes p q r s t u v w m n, odd_lanes a b c d e f g h k l, sum_of, more_of) all_places

-- four running sums from the right
run_four : (a b c d : ℕ) → a + 2 * b + 3 * c + 4 * d ≡ from_right (a ∷ b ∷ c ∷ d ∷ [])
unfolding from_right total
run_four a b c d = omega arith

apart : (a b c d : ℕ) → 4 * a + c + half * (4 * b + d) ≡ 4 * (a + half * b) + (c + half * d)
apart a b c d = omega arith

-- the ones of all columns, and the sum of their places, in each half
module _ (x y : ℕ) (x64 : x < 18446744073709551616) (y64 : y < 18446744073709551616) where
  pub folded_ones : bit_and (pairs x + pairs x / 65536) 281470681808895 ≡ halves column_ones x
  unfolding total bytes_of
  folded_ones = pair_ones _ _ _ _ _ _ _ _ _ _ _ _ _ _ _ _ (bytes_of_lem (x % half)) (bytes_of_lem (x / half)) (bytes_of_lem (y % half)) (bytes_of_lem (y / half)) x y (by_bytes x x64) (by_bytes y y64)

  pub folded_places : bit_and (sums x y + (sums x y + 2 * pairs x) / 65536) 281470681808895 ≡ 4 * halves column_ones y + halves column_places x
  unfolding total bytes_of
  folded_places =
      pair_places _ _ _ _ _ _ _ _ _ _ _ _ _ _ _ _ (bytes_of_lem (x % half)) (bytes_of_lem (x / half)) (bytes_of_lem (y % half)) (bytes_of_lem (y / half)) x y (by_bytes x x64) (by_bytes y y64)
      ∙ rw (run_four (byte0 (x % half)) (byte1 (x % half)) (byte2 (x % half)) (byte3 (x % half)), run_four (byte0 (x / half)) (byte1 (x / half)) (byte2 (x / half)) (byte3 (x / half)))
      (apart _ _ _ _)
