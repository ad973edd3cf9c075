-- One step of each loop.
--   marks_step   one more mark is written
--   marks_all    all marks are written
--   sheet_step   one more byte of a sheet is written
--   Counting     how many of the first marks are n, with its step and its end
use mathlib.Core.Path.{◌≡◌, refl}
use mathlib.Core.Bool.{Bool, true, false, cond}
use mathlib.Core.List.{List, [], ◌∷◌, ◌++◌, append-nil, map}
use Prim.Native.Nat.{ℕ, zero, suc, ◌+◌, ◌/◌, ◌≤◌, ◌<◌}
use native.Mathlib.Numerals.{add-one}
use native.Mathlib.Omega.{arith}
use lib.Dec.{eqb}
use lib.ListN.{length, get_or, take, drop, set, length-map, drop_of_length-le}
use lib.Seq.{drop-cons, take_all}
use mir.Val.{bool_byte}
use Rattle.code.proofs.laws.Lists.{write_next}
use Rattle.code.specs.Verdicts.{verdict_of}
use Rattle.code.specs.Sheet.{mark_of, marks_of, sheet_of, count_of}
use Rattle.sheet.specs.SheetBytes.{byte_at}
use Rattle.sheet.proofs.laws.SheetBytes.{sheet_drop}
use Rattle.sheet.proofs.VerdictNumbers.{bit_below}

-- The marks of numbers

marks_drop : (ns : List ℕ) (i : ℕ) → i < length ns → drop i (marks_of (map verdict_of ns)) ≡ mark_of (verdict_of (get_or ns i 0)) ∷ drop (suc i) (marks_of (map verdict_of ns))
marks_drop [] i h = absurd (omega arith)
marks_drop (n ∷ ns) zero h = refl
marks_drop (n ∷ ns) (suc i) h = marks_drop ns i (omega arith)

-- one more mark is written
pub marks_step : (ns d : List ℕ) (i : ℕ) → i < length ns → i < length d → set (take i (marks_of (map verdict_of ns)) ++ drop i d) i (mark_of (verdict_of (get_or ns i 0))) ≡ take (i + 1) (marks_of (map verdict_of ns)) ++ drop (i + 1) d
marks_step ns d i h room = write_next (marks_of (map verdict_of ns)) _ d i (mark_of (verdict_of (get_or ns i 0))) (marks_drop ns i h) room

-- all marks are written
pub marks_all : (ns d : List ℕ) (i : ℕ) → length ns ≤ i → length d ≤ i → take i (marks_of (map verdict_of ns)) ++ drop i d ≡ marks_of (map verdict_of ns)
marks_all ns d i h k =
    let n : length (marks_of (map verdict_of ns)) ≡ length ns = simp length-map in
    rw (take_all i (marks_of (map verdict_of ns)) (omega arith), drop_of_length-le d k) (append-nil (marks_of (map verdict_of ns)))

-- The sheet

-- one more byte of a sheet is written
pub sheet_step : (m d : List ℕ) (i : ℕ) → i < (length m + 3) / 4 → i < length d → set (take i (sheet_of m) ++ drop i d) i (byte_at m i) ≡ take (i + 1) (sheet_of m) ++ drop (i + 1) d
sheet_step m d i h room = write_next (sheet_of m) _ d i (byte_at m i) (sheet_drop m i h) room

-- Counts

bit : (b : Bool) → cond b 1 0 ≡ bool_byte b
bit true = refl
bit false = refl

-- of the first i marks as many as count are n
pub record Counting (n : ℕ) (m : List ℕ) (i count : ℕ) : Type 0 where
  pub few : count ≤ i
  pub rest : count + count_of n (drop i m) ≡ count_of n m

module _ (n : ℕ) (m : List ℕ) where
  -- one more mark is counted
  pub count_next : (i count : ℕ) → i < length m → Counting n m i count → Counting n m (i + 1) (count + bool_byte (eqb (get_or m i 0) n))
  unfolding count_of
  count_next i count h c =
      let step : count_of n (drop i m) ≡ bool_byte (eqb (get_or m i 0) n) + count_of n (drop (i + 1) m) = rw (add-one, drop-cons m i 0 h, bit (eqb (get_or m i 0) n)) in
      record { few = omega (arith, c.few, bit_below (eqb (get_or m i 0) n)); rest = omega (arith, c.rest) }

  -- no mark is left
  pub count_end : (i count : ℕ) → length m ≤ i → Counting n m i count → count ≡ count_of n m
  unfolding count_of
  count_end i count h c =
      let none : count_of n (drop i m) ≡ 0 = rw (drop_of_length-le m h) in
      omega (arith, c.rest)
