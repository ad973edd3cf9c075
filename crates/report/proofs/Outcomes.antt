-- What is reported from the numbers and ends that a walk leaves is what is reported of the outcomes.
--   reports_are, reportable, reports_room   the verdicts of all segments
--   Stands, reported_stands, found_at       the verdict of one
--   reported_count, ends_count, numbers_count   how many there are
use mathlib.Core.Path.{◌≡◌, refl, sym, ap, subst, ◌∙◌}
use mathlib.Core.Bool.{false}
use mathlib.Core.List.{List, [], ◌∷◌, ◌++◌, map}
use Prim.Native.Nat.{ℕ, zero, suc, ◌+◌, ◌-◌, ◌≤◌, ◌<◌}
use native.Mathlib.Omega.{arith}
use lib.ListN.{length, get_or, drop, length-append, length-drop}
use lib.Seq.{take_at, drop_at, drop-drop}
use Rattle.code.specs.Symbols.{Below, letter_kinds, legible}
use Rattle.code.proofs.laws.Symbols.{legible-Below}
use Rattle.code.specs.Order.{Order, Taken}
use Rattle.code.proofs.laws.Order.{Ordered, order_fine}
use Rattle.code.proofs.laws.Layout.{Lengths-within}
use Rattle.code.specs.Layout.{Lengths, joined}
use Rattle.code.specs.Bounds.{longest}
use Rattle.code.specs.Verdicts.{verdict_number, verdict_of}
use Rattle.code.proofs.laws.Verdicts.{verdict_back, AllNumbered, outcomes_numbered}
use Rattle.code.specs.Strands.{Outcome, outcomes, verdicts_of}
use Rattle.code.proofs.laws.Strands.{joined_pieces}
use Rattle.code.specs.ReadCall.{pieces_of}
use Rattle.code.specs.declared.Verdict.{Verdict}
use Rattle.code.specs.declared.Verdict.TheVariants.{NoStart}
use Rattle.reading.specs.Walks.{ends_from, start_in}
use Rattle.reading.proofs.Fronts.{numbers_length}
use Rattle.lines.specs.Report.{in_letters, reported, lines_of, most_report}
use Rattle.report.specs.Walked.{Inside, part, reported_from, Reportable}
use Rattle.report.proofs.laws.Named.{AllName, outcomes_name, lines_room}

-- The pieces

-- outcomes whose pieces, joined, are the letters from q on
module _ (letters : List ℕ) where
  piece_part : (q : ℕ) (piece rest : List ℕ) → piece ++ rest ≡ drop q letters → part q (q + length piece) letters ≡ piece
  piece_part q piece rest e =
      let n : q + length piece - q ≡ length piece = omega arith in
      rw (n, ← e) (take_at piece rest (length piece) refl)

  behind_part : (q : ℕ) (piece rest : List ℕ) → piece ++ rest ≡ drop q letters → rest ≡ drop (q + length piece) letters
  behind_part q piece rest e = sym (drop_at piece rest (length piece) refl) ∙ ap (drop (length piece)) e ∙ drop-drop (length piece) q letters

  walk_reports : (q : ℕ) (os : List Outcome) → joined (pieces_of os) ≡ drop q letters → AllNumbered (verdicts_of os) → reported_from q (map verdict_number (verdicts_of os)) (ends_from q os) letters ≡ map reported os
  unfolding joined ends_from reported_from
  walk_reports q [] e h = refl
  walk_reports q (o ∷ os) e h =
      rw (verdict_back o.verdict h.0, piece_part q o.piece (joined (pieces_of os)) e)
      (ap (◌∷◌ (reported o)) (walk_reports (q + length o.piece) os (behind_part q o.piece (joined (pieces_of os)) e) h.1))

  walk_Reportable : (q : ℕ) (os : List Outcome) → q ≤ length letters → joined (pieces_of os) ≡ drop q letters → AllNumbered (verdicts_of os) → AllName os → Reportable q (map verdict_number (verdicts_of os)) (ends_from q os) letters
  unfolding joined ends_from
  walk_Reportable q [] l e h n = tt
  walk_Reportable q (o ∷ os) l e h n =
      let rest = joined (pieces_of os) in
      let inside : q + length o.piece ≤ length letters = omega (arith, ap length e, length-append o.piece rest, length-drop q letters) in
      rw (verdict_back o.verdict h.0, piece_part q o.piece rest e)
      (omega arith, inside, n.0.inside, walk_Reportable (q + length o.piece) os inside (behind_part q o.piece rest e) h.1 n.1)

-- One of the segments

-- where the piece behind the first i starts, that of the first being q
abbrev start_from : ℕ → List ℕ → ℕ → ℕ
start_from q ends zero = q
start_from q ends (suc i) = get_or ends i 0

-- what is reported of the segment behind the first i, from its number and its piece
pub record Stands (letters : List ℕ) (all : List Verdict) (i number from to : ℕ) : Type 0 where
  pub starts : from ≤ to
  pub ends : to ≤ length letters
  pub inside : Inside (verdict_of number) (part from to letters)
  pub is : in_letters (verdict_of number) (part from to letters) ≡ get_or all i NoStart

stands_at_lem : (q : ℕ) (vs es letters : List ℕ) (i : ℕ) → Reportable q vs es letters → i < length vs → Stands letters (reported_from q vs es letters) i (get_or vs i 0) (start_from q es i) (get_or es i 0)
unfolding reported_from
stands_at_lem q [] es letters i r h = absurd (omega arith)
stands_at_lem q (v ∷ vs) [] letters i r h = absurd r
stands_at_lem q (v ∷ vs) (e ∷ es) letters zero r h = record { starts = r.0; ends = r.1; inside = r.2; is = refl }
stands_at_lem q (v ∷ vs) (e ∷ es) letters (suc i) r h = later i (stands_at_lem e vs es letters i r.3 (omega arith))
  where
    later : (i : ℕ) → Stands letters (reported_from e vs es letters) i (get_or vs i 0) (start_from e es i) (get_or es i 0) → Stands letters (in_letters (verdict_of v) (part q e letters) ∷ reported_from e vs es letters) (suc i) (get_or vs i 0) (get_or (e ∷ es) i 0) (get_or es i 0)
    later zero s = record { starts = s.starts; ends = s.ends; inside = s.inside; is = s.is }
    later (suc i) s = record { starts = s.starts; ends = s.ends; inside = s.inside; is = s.is }

-- the first piece starts at 0
start_is : (ends : List ℕ) (i : ℕ) → start_from 0 ends i ≡ start_in ends i
start_is ends zero = refl
start_is ends (suc i) = refl

-- there is a verdict for each number
pub reported_count : (q : ℕ) (vs es letters : List ℕ) → Reportable q vs es letters → length (reported_from q vs es letters) ≡ length vs
unfolding reported_from
reported_count q [] es letters r = refl
reported_count q (v ∷ vs) [] letters r = absurd r
reported_count q (v ∷ vs) (e ∷ es) letters r = ap suc (reported_count e vs es letters r.3)

-- and an end
pub ends_count : (q : ℕ) (vs es letters : List ℕ) → Reportable q vs es letters → length es ≡ length vs
ends_count q [] [] letters r = refl
ends_count q [] (e ∷ es) letters r = absurd r
ends_count q (v ∷ vs) [] letters r = absurd r
ends_count q (v ∷ vs) (e ∷ es) letters r = ap suc (ends_count e vs es letters r.3)

-- the segment behind the first i
pub reported_stands : (vs es letters : List ℕ) (i : ℕ) → Reportable 0 vs es letters → i < length vs → Stands letters (reported_from 0 vs es letters) i (get_or vs i 0) (start_in es i) (get_or es i 0)
reported_stands vs es letters i r h = rw (← start_is es i) (stands_at_lem 0 vs es letters i r h)

-- What a walk found, ns being the letters cs as numbers
module _ (o : Order) (t : Taken o) (cs ns numbers ends : List ℕ) (same : ns ≡ legible cs) (n : numbers ≡ map verdict_number (verdicts_of (outcomes o.lengths ns))) (e : ends ≡ ends_from 0 (outcomes o.lengths ns)) where
  abbrev os : List Outcome
  os = outcomes o.lengths ns

  fine : Ordered o false
  fine = order_fine o false t

  lengths : Lengths longest o.lengths
  lengths = Lengths-within fine.lengths (omega arith)

  below : Below letter_kinds ns
  below = subst (Below letter_kinds) (sym same) (legible-Below cs)

  some : 0 < length o.lengths
  some = let h = fine in omega arith

  -- what is reported from what a walk found is what is reported of the outcomes
  pub reports_are : reported_from 0 numbers ends ns ≡ map reported os
  reports_are = rw (n, e) (walk_reports ns 0 os (joined_pieces o.lengths ns some) (outcomes_numbered o.lengths ns lengths))

  pub reportable : Reportable 0 numbers ends ns
  reportable = rw (n, e) (walk_Reportable ns 0 os (omega arith) (joined_pieces o.lengths ns some) (outcomes_numbered o.lengths ns lengths) (outcomes_name o.lengths ns lengths below))

  -- the most bytes of the lines
  pub reports_room : length (lines_of os) ≤ most_report
  reports_room = lines_room o.lengths ns lengths below fine.segments_fit

  -- a number for each segment
  pub numbers_count : length numbers ≡ length o.lengths
  numbers_count = ap length n ∙ numbers_length o t ns

  -- the segment behind the first i
  pub found_at : (i : ℕ) → i < length o.lengths → Stands ns (map reported os) i (get_or numbers i 0) (start_in ends i) (get_or ends i 0)
  found_at i h = rw (← reports_are) (reported_stands numbers ends ns i reportable (omega (arith, numbers_count)))
