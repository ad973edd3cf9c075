-- The columns of rows of four: their ones, and the ones behind each row.
--   bytes_word    the bytes of a word of bytes
--   columns       the ones of each column, a byte each
--   behind        the ones behind each row, for each column
--   Four          a word of four bytes, each at most n
--   Columns       what is known of the columns of n rows
use mathlib.Core.Path.{◌≡◌, refl}
use mathlib.Core.Bool.{Bool}
use mathlib.Core.List.{List, [], ◌∷◌}
use Prim.Native.Nat.{ℕ, zero, suc, ◌+◌, ◌*◌, ◌/◌, ◌%◌, ◌≤◌, ◌<◌}
use native.Mathlib.Omega.{arith}
use lib.ListN.{length}
use Rattle.code.specs.Layers.{Word, digit, ones, sum_of_places, sum_from}
use Rattle.code.proofs.laws.Layers.{sum_cons, digit_below}
use Rattle.code.specs.Symbols.{Below}
use Rattle.code.specs.Segment.{total}
use Rattle.places.specs.Words.{word_of}
use Rattle.layers.specs.SideBySide.{half, bytes_of, bit_bytes, from_right, column_ones, column_places}

-- the bytes of a word of bytes
pub bytes_word : (l : List ℕ) → Below 256 l → bytes_of (length l) (word_of l) ≡ l
unfolding bytes_of word_of
bytes_word [] h = refl
bytes_word (x ∷ l) h =
    let first : (x + 256 * word_of l) % 256 ≡ x = omega (arith, h 0) in
    let rest : (x + 256 * word_of l) / 256 ≡ word_of l = omega (arith, h 0) in
    rw (first, rest, bytes_word l (λ i. h (suc i)))

-- the ones of each column of rows of four, a byte each
unfoldable pub columns : Word → ℕ
columns [] = 0
columns (a ∷ []) = 0
columns (a ∷ b ∷ []) = 0
columns (a ∷ b ∷ c ∷ []) = 0
columns (a ∷ b ∷ c ∷ d ∷ w) = columns w + bit_bytes (a ∷ b ∷ c ∷ d ∷ [])

-- for each column, the ones behind each row
unfoldable pub behind : Word → ℕ
behind [] = 0
behind (a ∷ []) = 0
behind (a ∷ b ∷ []) = 0
behind (a ∷ b ∷ c ∷ []) = 0
behind (a ∷ b ∷ c ∷ d ∷ w) = behind w + columns w

-- v is a word of four bytes, each at most n
pub record Four (n v : ℕ) : Type 0 where
  pub a : ℕ
  pub b : ℕ
  pub c : ℕ
  pub d : ℕ
  pub a_le : a ≤ n
  pub b_le : b ≤ n
  pub c_le : c ≤ n
  pub d_le : d ≤ n
  pub is : v ≡ word_of (a ∷ b ∷ c ∷ d ∷ [])

-- four bytes of 0
zeros : Four 0 0
unfolding word_of
zeros = record { a = 0; b = 0; c = 0; d = 0; a_le = omega arith; b_le = omega arith; c_le = omega arith; d_le = omega arith; is = refl }

-- the bits of a row
row_Four : (x y z t : Bool) → Four 1 (bit_bytes (x ∷ y ∷ z ∷ t ∷ []))
row_Four x y z t =
    record {
      a = digit x;
      b = digit y;
      c = digit z;
      d = digit t;
      a_le = omega (arith, digit_below x);
      b_le = omega (arith, digit_below y);
      c_le = omega (arith, digit_below z);
      d_le = omega (arith, digit_below t);
      is = refl;
    }

-- the sum of two words, byte by byte
added : (n p q v w : ℕ) → p + q ≤ n → Four p v → Four q w → Four n (v + w)
unfolding word_of
added n p q v w h k l =
    record {
      a = k.a + l.a;
      b = k.b + l.b;
      c = k.c + l.c;
      d = k.d + l.d;
      a_le = omega (arith, k.a_le, l.a_le);
      b_le = omega (arith, k.b_le, l.b_le);
      c_le = omega (arith, k.c_le, l.c_le);
      d_le = omega (arith, k.d_le, l.d_le);
      is = omega (arith, k.is, l.is);
    }

module _ (n v : ℕ) (byte : n < 256) (k : Four n v) where
  -- it fits into a half
  pub four_fit : v < half
  unfolding word_of
  four_fit = omega (arith, k)

  -- its bytes
  four_bytes : bytes_of 4 v ≡ k.a ∷ k.b ∷ k.c ∷ k.d ∷ []
  four_bytes = rw k.is (bytes_word (k.a ∷ k.b ∷ k.c ∷ k.d ∷ []) below)
    where
      below : Below 256 (k.a ∷ k.b ∷ k.c ∷ k.d ∷ [])
      below zero = omega (arith, k.a_le)
      below (suc zero) = omega (arith, k.b_le)
      below (suc (suc zero)) = omega (arith, k.c_le)
      below (suc (suc (suc zero))) = omega (arith, k.d_le)
      below (suc (suc (suc (suc i)))) = omega arith

-- the columns of n rows: at most n ones in each, which are all ones; with those behind the rows they tell the sum of places
pub record Columns (n : ℕ) (w : Word) : Type 0 where
  pub own : Four n (columns w)
  pub rows : Four (15 * n) (behind w)
  pub is_ones : ones w ≡ own.a + own.b + own.c + own.d
  pub is_places : sum_of_places w ≡ 4 * (rows.a + rows.b + rows.c + rows.d) + (own.a + 2 * own.b + 3 * own.c + 4 * own.d)

no_places : sum_of_places [] ≡ 0
unfolding sum_of_places sum_from
no_places = refl

-- sixteen rows and less
pub Columns-of : (n : ℕ) (w : Word) → n ≤ 16 → length w ≡ 4 * n → Columns n w
unfolding columns behind ones zeros row_Four added
Columns-of zero [] h e = record { own = zeros; rows = zeros; is_ones = refl; is_places = no_places }
Columns-of zero (b ∷ w) h e = absurd (omega arith)
Columns-of (suc n) [] h e = absurd (omega arith)
Columns-of (suc n) (x ∷ []) h e = absurd (omega arith)
Columns-of (suc n) (x ∷ y ∷ []) h e = absurd (omega arith)
Columns-of (suc n) (x ∷ y ∷ z ∷ []) h e = absurd (omega arith)
Columns-of (suc n) (x ∷ y ∷ z ∷ t ∷ w) h e =
    let r = Columns-of n w (omega arith) (omega arith) in
    record {
      own = added (suc n) n 1 (columns w) _ (omega arith) r.own (row_Four x y z t);
      rows = added (15 * suc n) (15 * n) n (behind w) (columns w) (omega arith) r.rows r.own;
      is_ones = omega (arith, r.is_ones);
      is_places = omega (arith, sum_cons x (y ∷ z ∷ t ∷ w), sum_cons y (z ∷ t ∷ w), sum_cons z (t ∷ w), sum_cons t w, r.is_ones, r.is_places);
    }

-- n rows, sixteen and less
module _ (n : ℕ) (w : Word) (few : n ≤ 16) (k : Columns n w) where
  -- both fit into a half
  pub columns_fit : columns w < half
  columns_fit = four_fit n (columns w) (omega arith) k.own

  pub behind_fit : behind w < half
  behind_fit = four_fit (15 * n) (behind w) (omega arith) k.rows

  -- all ones, and the sum of places
  pub column_ones_lem : column_ones (columns w) ≡ ones w
  unfolding total
  column_ones_lem = rw (four_bytes n (columns w) (omega arith) k.own) (omega (arith, k.is_ones))

  pub column_places_lem : 4 * column_ones (behind w) + column_places (columns w) ≡ sum_of_places w
  unfolding total from_right
  column_places_lem = rw (four_bytes n (columns w) (omega arith) k.own, four_bytes (15 * n) (behind w) (omega arith) k.rows) (omega (arith, k.is_places))
