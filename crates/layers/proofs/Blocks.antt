-- The columns of symbols from a place on: one row more, and a whole block.
--   Rows                       the columns from a place of a block on
--   two_left, two_Rows         a block that is not through has two rows left; the columns with them
--   behind_fits, ones_fit      they fit into a word
--   block_ones, block_places   what the columns of a block add up to
use mathlib.Core.Path.{◌≡◌, ap, ◌∙◌}
use mathlib.Core.List.{List}
use Prim.Native.Nat.{ℕ, ◌+◌, ◌-◌, ◌*◌, ◌/◌, ◌%◌, ◌≤◌, ◌<◌}
use native.Mathlib.Omega.{arith}
use lib.ListN.{length, take, drop, length-drop}
use Rattle.code.specs.Layers.{Word, layer, ones, sum_of_places}
use Rattle.code.proofs.laws.Layers.{length-layer}
use Rattle.code.proofs.laws.Lists.{drop_four}
use Rattle.layers.specs.SideBySide.{half, sides, bit_bytes, halves, column_ones, column_places, Block}
use Rattle.layers.proofs.Columns.{columns, behind, Columns, Columns-of, columns_fit, behind_fit, column_ones_lem, column_places_lem}

-- the row from place i on put before the rows behind it
module _ (m : List ℕ) (i : ℕ) (room : i + 4 ≤ length m) where
  row_columns : (s : ℕ) → columns (layer s (drop i m)) ≡ columns (layer s (drop (i + 4) m)) + bit_bytes (layer s (take 4 (drop i m)))
  unfolding columns
  row_columns s = rw (drop_four m i 0 (omega arith))

  row_behind : (s : ℕ) → behind (layer s (drop i m)) ≡ behind (layer s (drop (i + 4) m)) + columns (layer s (drop (i + 4) m))
  unfolding behind
  row_behind s = rw (drop_four m i 0 (omega arith))

  more_columns : (v r : ℕ) → v ≡ sides columns (drop (i + 4) m) → r ≡ sides bit_bytes (take 4 (drop i m)) → v + r ≡ sides columns (drop i m)
  more_columns v r e f = omega (arith, e, f, row_columns 0, row_columns 1)

  more_behind : (u v : ℕ) → u ≡ sides behind (drop (i + 4) m) → v ≡ sides columns (drop (i + 4) m) → u + v ≡ sides behind (drop i m)
  more_behind u v e f = omega (arith, e, f, row_behind 0, row_behind 1)

-- rows from place i on, sixteen and less
module _ (m : List ℕ) (i : ℕ) (inside : i ≤ length m) (fours : (length m - i) % 4 ≡ 0) (short : length m - i ≤ 64) where
  rows : (s : ℕ) → Columns ((length m - i) / 4) (layer s (drop i m))
  rows s = Columns-of ((length m - i) / 4) (layer s (drop i m)) (omega arith) (simp (length-layer, length-drop) (omega arith))

  few : (length m - i) / 4 ≤ 16
  few = omega arith

  fit_columns : sides columns (drop i m) < 18446744073709551616
  fit_columns = omega (arith, columns_fit _ _ few (rows 0), columns_fit _ _ few (rows 1))

  fit_behind : sides behind (drop i m) < 18446744073709551616
  fit_behind = omega (arith, behind_fit _ _ few (rows 0), behind_fit _ _ few (rows 1))

  in_half : (f : Word → ℕ) → f (layer 0 (drop i m)) < half → (sides f (drop i m) % half ≡ f (layer 0 (drop i m))) × (sides f (drop i m) / half ≡ f (layer 1 (drop i m)))
  in_half f h = (omega arith, omega arith)

  fold_ones : halves column_ones (sides columns (drop i m)) ≡ sides ones (drop i m)
  fold_ones =
      let c = in_half columns (columns_fit _ _ few (rows 0)) in
      rw (c.0, c.1, column_ones_lem _ _ few (rows 0), column_ones_lem _ _ few (rows 1))

  fold_places : 4 * halves column_ones (sides behind (drop i m)) + halves column_places (sides columns (drop i m)) ≡ sides sum_of_places (drop i m)
  fold_places =
      let c = in_half columns (columns_fit _ _ few (rows 0)) in
      let b = in_half behind (behind_fit _ _ few (rows 0)) in
      rw (c.0, c.1, b.0, b.1) (omega (arith, column_places_lem _ _ few (rows 0), column_places_lem _ _ few (rows 1)))

-- v and u are the columns from place i of a block on
pub record Rows (m : List ℕ) (from i v u : ℕ) : Type 0 where
  pub block : Block from (length m)
  pub reached : from ≤ i
  pub inside : i ≤ length m
  pub eights : (length m - i) % 8 ≡ 0
  pub v_is : v ≡ sides columns (drop i m)
  pub u_is : u ≡ sides behind (drop i m)

-- two rows put before those from place i on
module _ {m : List ℕ} {from i v u : ℕ} (k : Rows m from i v u) (more : from < i) where
  pub two_left : from + 8 ≤ i
  two_left = omega (arith, k.eights, k.block, k.inside)

  short : length m - (i - 8) ≤ 64
  short = omega (arith, two_left, k.block)

  again : i ≡ i - 8 + 4 + 4
  again = omega (arith, two_left)

  v_row : v ≡ sides columns (drop (i - 8 + 4 + 4) m)
  v_row = k.v_is ∙ ap (λ (n : ℕ). sides columns (drop n m)) again

  u_row : u ≡ sides behind (drop (i - 8 + 4 + 4) m)
  u_row = k.u_is ∙ ap (λ (n : ℕ). sides behind (drop n m)) again

  room : i - 8 + 4 + 4 ≤ length m
  room = omega (arith, two_left, k.inside)

  behind_1 : u + v ≡ sides behind (drop (i - 8 + 4) m)
  behind_1 = more_behind m (i - 8 + 4) room u v u_row v_row

  -- x is the row nearer to the end
  module _ {x : ℕ} (x_is : x ≡ sides bit_bytes (take 4 (drop (i - 8 + 4) m))) where
    ones_1 : v + x ≡ sides columns (drop (i - 8 + 4) m)
    ones_1 = more_columns m (i - 8 + 4) room v x v_row x_is

    behind_2 : u + v + (v + x) ≡ sides behind (drop (i - 8) m)
    behind_2 = more_behind m (i - 8) (omega (arith, room)) (u + v) (v + x) behind_1 ones_1

    -- nothing runs over
    pub behind_fits : u + v + (v + x) < 18446744073709551616
    behind_fits = rw behind_2 (fit_behind m (i - 8) (omega (arith, room)) (omega (arith, k.eights, two_left)) short)

    -- y is the row before it
    module _ {y : ℕ} (y_is : y ≡ sides bit_bytes (take 4 (drop (i - 8) m))) where
      ones_2 : v + x + y ≡ sides columns (drop (i - 8) m)
      ones_2 = more_columns m (i - 8) (omega (arith, room)) (v + x) y ones_1 y_is

      pub ones_fit : v + x + y < 18446744073709551616
      ones_fit = rw ones_2 (fit_columns m (i - 8) (omega (arith, room)) (omega (arith, k.eights, two_left)) short)

      pub two_Rows : Rows m from (i - 8) (v + x + y) (u + v + (v + x))
      two_Rows =
          record {
            block = k.block;
            reached = omega (arith, two_left);
            inside = omega (arith, room);
            eights = omega (arith, k.eights, two_left);
            v_is = ones_2;
            u_is = behind_2;
          }

-- the columns of a whole block
module _ {m : List ℕ} {from i v u : ℕ} (k : Rows m from i v u) (all : i ≡ from) where
  fours : (length m - from) % 4 ≡ 0
  fours = omega (arith, k.block)

  pub block_ones : halves column_ones v ≡ sides ones (drop from m)
  block_ones = rw (k.v_is, all) (fold_ones m from k.block.inside fours k.block.short)

  pub block_places : 4 * halves column_ones u + halves column_places v ≡ sides sum_of_places (drop from m)
  block_places = rw (k.v_is, k.u_is, all) (fold_places m from k.block.inside fours k.block.short)
