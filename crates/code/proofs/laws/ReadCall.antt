-- Laws of the reading call and the piece call.
--   received_fine                             what holds of letters that tests 1 to 4 take, and back: fine_received
--   received_then                             a further test behind tests 1 to 4 that are not met
--   received_refused                          a further test behind tests 1 to 4 of which one is met
--   read_short, read_foreign, read_fine       the tests of a reading behind 1 to 4, in their order
--   piece_foreign, piece_outside, piece_fine  those of a piece call
--   received_taken, piece_Taken               what holds of a call that is taken
--   length_sheet                              the bytes of a sheet
--   piece_inside                              a piece lies inside the caller's letters
--   piece_letters                             its letters are those of the outcome's piece
use Rattle.std.specs.Prelude.{Result, Ok, Err, ◌≡◌, refl, Bool, true, false, List, [], ◌∷◌, ◌++◌, map, ℕ, zero, suc, ◌+◌, ◌-◌, ◌*◌, ◌/◌, ◌%◌, ◌≤◌, length, get_or, take, drop, replicate}
use Rattle.std.proofs.Common.{sym, ap, ◌∙◌, arith, ltb-false, le-ltb, length-append, take_at}
use Rattle.std.proofs.lemmas.List.{length-replicate}
use Rattle.std.proofs.Math.Seq.{drop-append-add}
use Rattle.code.specs.declared.Decoded.{Decoded}
use Rattle.code.specs.declared.Decoded.TheVariants as D
use Rattle.code.specs.declared.Refusal.{Refusal}
use Rattle.code.specs.declared.Refusal.TheVariants.{Overlong, ShortBuffer, ForeignLetter, NoSuchSegment}
use Rattle.code.specs.Symbols.{letter_of, letters, legible, decoded}
use Rattle.code.proofs.laws.Symbols.{whole_letters, whole_length, length-bytes}
use Rattle.code.specs.Layout.{sum, joined}
use Rattle.code.specs.Limits.{most_letters}
use Rattle.code.specs.Refusals.{refuse, outside}
use Rattle.code.specs.Order.{Order, order_test, Taken}
use Rattle.code.proofs.laws.Order.{order_fine, order_then, order_refused}
use Rattle.code.specs.Sheet.{sheet_of, sheet_bytes}
use Rattle.code.proofs.laws.Strands.{joined_pieces}
use Rattle.code.specs.ReadCall.{foreign_test, overlong, received_test, short_buffers, read_test, piece_test, outcomes_of, pieces_of, piece_start, piece_length, piece_of}

-- Tests 1 to 4

fine : (x : Bool) (r : Refusal) → refuse x r (Ok tt) ≡ Ok tt → x ≡ false
fine true r e = let z : ◌≡◌ {A = ℕ} 0 1 = cc in absurd (omega arith)
fine false r e = refl

refused : (x : Bool) (r u : Refusal) (next : Result (Unit {0}) Refusal) → refuse x r (Ok tt) ≡ Err u → refuse x r next ≡ Err u
refused true r u next e = e
refused false r u next e = let z : ◌≡◌ {A = ℕ} 0 1 = cc in absurd (omega arith)

module _ (o : Order) (n : ℕ) where
  -- what holds of letters that tests 1 to 4 take
  pub received_fine : received_test o n (Ok tt) ≡ Ok tt → (Taken o) × (n ≤ most_letters)
  received_fine e = go (order_test o false (Ok tt)) refl
    where
      go : (c : Result (Unit {0}) Refusal) → order_test o false (Ok tt) ≡ c → (Taken o) × (n ≤ most_letters)
      go (Ok _) p = (p, ltb-false most_letters n (fine (overlong n) Overlong (sym (order_then o false (refuse (overlong n) Overlong (Ok tt)) p) ∙ e)))
      go (Err u) p = let q : (Ok tt) ≡ Err u = sym e ∙ order_refused o false u (refuse (overlong n) Overlong (Ok tt)) p in let z : ◌≡◌ {A = ℕ} 0 1 = cc in absurd (omega arith)

  pub fine_received : Taken o → n ≤ most_letters → received_test o n (Ok tt) ≡ Ok tt
  fine_received t h = order_then o false (refuse (overlong n) Overlong (Ok tt)) t ∙ rw (le-ltb most_letters n h)

  -- a further test behind tests 1 to 4 that are not met
  pub received_then : (next : Result (Unit {0}) Refusal) → received_test o n (Ok tt) ≡ Ok tt → received_test o n next ≡ next
  received_then next e =
      let p = received_fine e in
      order_then o false (refuse (overlong n) Overlong next) p.0 ∙ rw (le-ltb most_letters n p.1)

  -- a further test behind tests 1 to 4 of which one is met
  pub received_refused : (u : Refusal) (next : Result (Unit {0}) Refusal) → received_test o n (Ok tt) ≡ Err u → received_test o n next ≡ Err u
  received_refused u next e = go (order_test o false (Ok tt)) refl
    where
      go : (c : Result (Unit {0}) Refusal) → order_test o false (Ok tt) ≡ c → received_test o n next ≡ Err u
      go (Ok _) p = order_then o false (refuse (overlong n) Overlong next) p ∙ refused (overlong n) Overlong u next (sym (order_then o false (refuse (overlong n) Overlong (Ok tt)) p) ∙ e)
      go (Err v) p = order_refused o false v (refuse (overlong n) Overlong next) p ∙ (sym (order_refused o false v (refuse (overlong n) Overlong (Ok tt)) p) ∙ e)

-- The tests behind 1 to 4, in their order

module _ (o : Order) (cs : List ℕ) (received : received_test o (length cs) (Ok tt) ≡ Ok tt) where
  module _ (n m : ℕ) where
    pub read_short : short_buffers o n m ≡ true → read_test o cs n m ≡ Err ShortBuffer
    read_short e = received_then o (length cs) _ received ∙ rw e

    pub read_foreign : (i : ℕ) → short_buffers o n m ≡ false → decoded cs ≡ D.Foreign i → read_test o cs n m ≡ Err (ForeignLetter i)
    read_foreign i e d = received_then o (length cs) _ received ∙ rw (e, d)

    pub read_fine : (b : Bool) → short_buffers o n m ≡ false → decoded cs ≡ D.Whole b → read_test o cs n m ≡ Ok tt
    read_fine b e d = received_then o (length cs) _ received ∙ rw (e, d)

  module _ (i : ℕ) where
    pub piece_foreign : (j : ℕ) → decoded cs ≡ D.Foreign j → piece_test o cs i ≡ Err (ForeignLetter j)
    piece_foreign j d = received_then o (length cs) _ received ∙ rw d

    pub piece_outside : (b : Bool) → decoded cs ≡ D.Whole b → outside 1 (length o.lengths) i ≡ true → piece_test o cs i ≡ Err NoSuchSegment
    piece_outside b d e = received_then o (length cs) _ received ∙ rw (d, e)

    pub piece_fine : (b : Bool) → decoded cs ≡ D.Whole b → outside 1 (length o.lengths) i ≡ false → piece_test o cs i ≡ Ok tt
    piece_fine b d e = received_then o (length cs) _ received ∙ rw (d, e)

not_foreign : (d : Decoded) (next : Result (Unit {0}) Refusal) → foreign_test d next ≡ Ok tt → (b : Bool) × (d ≡ D.Whole b)
not_foreign (D.Whole b) next e = (b, refl)
not_foreign (D.Foreign j) next e = let z : ◌≡◌ {A = ℕ} 0 1 = cc in absurd (omega arith)

-- what holds of a call that is taken: tests 1 to 4 are not met, and neither is what follows
pub received_taken : (o : Order) (n : ℕ) (next : Result (Unit {0}) Refusal) → received_test o n next ≡ Ok tt → (received_test o n (Ok tt) ≡ Ok tt) × (next ≡ Ok tt)
received_taken o n next e = go (received_test o n (Ok tt)) refl
  where
    go : (c : Result (Unit {0}) Refusal) → received_test o n (Ok tt) ≡ c → (received_test o n (Ok tt) ≡ Ok tt) × (next ≡ Ok tt)
    go (Ok _) p = (p, sym (received_then o n next p) ∙ e)
    go (Err u) p = let q : (Ok tt) ≡ Err u = sym e ∙ received_refused o n u next p in let z : ◌≡◌ {A = ℕ} 0 1 = cc in absurd (omega arith)

-- a piece call that is taken has an order that is taken and letters alone
pub piece_Taken : (o : Order) (cs : List ℕ) (i : ℕ) → piece_test o cs i ≡ Ok tt → (Taken o) × ((b : Bool) × (decoded cs ≡ D.Whole b))
piece_Taken o cs i e =
    let p = received_taken o (length cs) _ e in
    ((received_fine o (length cs) p.0).0, not_foreign (decoded cs) _ p.1)

-- the sheet of marks has a byte for four of them or fewer
pub length_sheet : (marks : List ℕ) → length (sheet_of marks) ≡ sheet_bytes (length marks)
length_sheet marks =
    let p : length (marks ++ replicate ((4 - length marks % 4) % 4) 0) ≡ 4 * ((length marks + 3) / 4) = simp (length-append, length-replicate) (omega arith) in
    length-bytes (marks ++ replicate ((4 - length marks % 4) % 4) 0) ∙ omega arith

-- The piece call

-- a part of joined lists, by their lengths
part : (ps : List (List ℕ)) (i : ℕ) → take (get_or (map length ps) i 0) (drop (sum (take i (map length ps))) (joined ps)) ≡ get_or ps i []
unfolding sum joined
part [] i = refl
part (p ∷ ps) zero = take_at p (joined ps) (length p) refl
part (p ∷ ps) (suc i) = rw (drop-append-add p (joined ps) (sum (take i (map length ps)))) (part ps i)

part_inside : (ps : List (List ℕ)) (i : ℕ) → sum (take i (map length ps)) + get_or (map length ps) i 0 ≤ length (joined ps)
unfolding sum joined
part_inside [] zero = omega arith
part_inside [] (suc i) = omega arith
part_inside (p ∷ ps) zero = simp length-append (omega arith)
part_inside (p ∷ ps) (suc i) = simp length-append (omega (arith, part_inside ps i))

letters-take : (n : ℕ) (s : List ℕ) → take n (letters s) ≡ letters (take n s)
letters-take zero s = refl
letters-take (suc n) [] = refl
letters-take (suc n) (x ∷ s) = ap (◌∷◌ (letter_of x)) (letters-take n s)

letters-drop : (n : ℕ) (s : List ℕ) → drop n (letters s) ≡ letters (drop n s)
letters-drop zero s = refl
letters-drop (suc n) [] = refl
letters-drop (suc n) (x ∷ s) = letters-drop n s

module _ (o : Order) (cs : List ℕ) (t : Taken o) (b : Bool) (w : decoded cs ≡ D.Whole b) where
  pieces_legible : joined (pieces_of (outcomes_of o cs)) ≡ legible cs
  pieces_legible = joined_pieces o.lengths (legible cs) (order_fine o false t).some_segments

  -- the piece behind the first i pieces lies inside the caller's letters
  pub piece_inside : (i : ℕ) → piece_start (outcomes_of o cs) i + piece_length (outcomes_of o cs) i ≤ length cs
  piece_inside i = omega (arith, part_inside (pieces_of (outcomes_of o cs)) i, ap length pieces_legible, whole_length cs b w)

  -- the letters of the i-th piece, from 1, are those of its outcome
  pub piece_letters : (i : ℕ) → piece_of (outcomes_of o cs) cs i ≡ letters (get_or (pieces_of (outcomes_of o cs)) (i - 1) [])
  piece_letters i =
      let ps = pieces_of (outcomes_of o cs) in
      let n = sum (take (i - 1) (map length ps)) in
      let x = get_or (map length ps) (i - 1) 0 in
      let same : cs ≡ letters (joined ps) = sym (whole_letters cs b w) ∙ ap letters (sym pieces_legible) in
      ap (λ (c : List ℕ). take x (drop n c)) same ∙ ap (take x) (letters-drop n (joined ps)) ∙ letters-take x (drop n (joined ps)) ∙ ap letters (part ps (i - 1))
