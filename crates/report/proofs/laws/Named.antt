-- What is reported names letters of the pieces, has a number, and is short.
--   Names, AllName   a verdict names letters of its piece; all verdicts do
--   outcomes_name    those of a reading do
--   lines_room       the most bytes of a report
use Rattle.std.specs.Prelude.{◌≡◌, List, [], ◌∷◌, map, ℕ, zero, suc, ◌≤◌, length}
use Rattle.std.proofs.Common.{arith}
use Rattle.std.proofs.lemmas.List.{length-map}
use Rattle.code.specs.Symbols.{Below, letter_kinds}
use Rattle.code.specs.Layout.{Lengths}
use Rattle.code.specs.Bounds.{longest}
use Rattle.code.specs.Limits.{most_segments}
use Rattle.code.specs.Verdicts.{Numbered}
use Rattle.code.proofs.laws.Verdicts.{AllNumbered, outcomes_numbered}
use Rattle.code.specs.Strands.{Outcome, outcomes, verdicts_of}
use Rattle.code.proofs.laws.Strands.{length-outcomes}
use Rattle.code.specs.declared.Edit.TheVariants.{None, Sub, Del, Ins}
use Rattle.code.specs.declared.Verdict.{Verdict}
use Rattle.code.specs.declared.Verdict.TheVariants.{Read, Unknown, Lost, NoStart}
use Rattle.lines.specs.Report.{in_letters, reported, lines_of, most_report}
use Rattle.lines.specs.Truth.{Site, Lettered, Says, Onward, at, nowhere, TrueFrom}
use Rattle.report.specs.Walked.{Inside}
use Rattle.lines.proofs.laws.Lines.{lines_most}
use Rattle.lines.proofs.laws.Steps.{anew-Below}
use Rattle.lines.proofs.laws.Truth.{true_lines}

-- a verdict names letters of its piece
pub record Names (piece : List ℕ) (v : Verdict) : Type 0 where
  pub inside : Inside v piece
  pub lettered : Lettered (in_letters v piece)

Says-Names : (p : Site) (k : ℕ) (ks piece m : List ℕ) (v : Verdict) → Says p k ks piece m (in_letters v piece) → Names piece v
Says-Names p k ks piece m (Read None) h = record { inside = tt; lettered = tt }
Says-Names p k ks piece m (Read (Sub i x)) h = record { inside = h.1.letter.0; lettered = h.1.turns.0.1 }
Says-Names p k ks piece m (Read (Del i x)) h = record { inside = tt; lettered = omega (arith, h.1.letter, anew-Below p k m h.0 i) }
Says-Names p k ks piece m (Read (Ins i x)) h = record { inside = h.1.letter.0; lettered = h.1.turns.0.1 }
Says-Names p k ks piece m Unknown h = record { inside = tt; lettered = tt }
Says-Names p k ks piece m (Lost step) h = record { inside = tt; lettered = tt }
Says-Names p k ks piece m NoStart h = absurd h

unfound_Names : (piece : List ℕ) (v : Verdict) → in_letters v piece ≡ NoStart → Names piece v
unfound_Names piece (Read None) e = let z : ◌≡◌ {A = ℕ} 0 1 = cc in absurd (omega arith)
unfound_Names piece (Read (Sub i x)) e = let z : ◌≡◌ {A = ℕ} 0 1 = cc in absurd (omega arith)
unfound_Names piece (Read (Del i x)) e = let z : ◌≡◌ {A = ℕ} 0 1 = cc in absurd (omega arith)
unfound_Names piece (Read (Ins i x)) e = let z : ◌≡◌ {A = ℕ} 0 1 = cc in absurd (omega arith)
unfound_Names piece Unknown e = record { inside = tt; lettered = tt }
unfound_Names piece (Lost step) e = record { inside = tt; lettered = tt }
unfound_Names piece NoStart e = record { inside = tt; lettered = tt }

abbrev pub AllName : List Outcome → Type 0
AllName [] = Unit {0}
AllName (o ∷ os) = Names o.piece o.verdict × AllName os

true_names : (x : Onward) (ks : List ℕ) (os : List Outcome) → TrueFrom x ks os → AllName os
true_names x [] [] t = tt
true_names x [] (o ∷ os) t = absurd t
true_names x (k ∷ ks) [] t = absurd t
true_names (at zero p) (k ∷ ks) (o ∷ os) t = (Says-Names p k ks o.piece o.message o.verdict t.0.says, true_names _ ks os t.1)
true_names (at (suc n) p) (k ∷ ks) (o ∷ os) t = (unfound_Names o.piece o.verdict t.0, true_names (at n p) ks os t.2)
true_names nowhere (k ∷ ks) (o ∷ os) t = (unfound_Names o.piece o.verdict t.0, true_names nowhere ks os t.2)

-- what is reported has a number
reported_Numbered : (piece : List ℕ) (v : Verdict) → Numbered v → Names piece v → Numbered (in_letters v piece)
reported_Numbered piece (Read None) h n = tt
reported_Numbered piece (Read (Sub i x)) h n = (h.0, omega (arith, n.lettered))
reported_Numbered piece (Read (Del i x)) h n = h
reported_Numbered piece (Read (Ins i x)) h n = (h.0, omega (arith, n.lettered))
reported_Numbered piece Unknown h n = tt
reported_Numbered piece (Lost step) h n = h
reported_Numbered piece NoStart h n = tt

all_numbered : (os : List Outcome) → AllNumbered (verdicts_of os) → AllName os → AllNumbered (map reported os)
all_numbered [] h n = tt
all_numbered (o ∷ os) h n = (reported_Numbered o.piece o.verdict h.0 n.0, all_numbered os h.1 n.1)

-- A reading

module _ (ks letters : List ℕ) (lengths : Lengths longest ks) (legible : Below letter_kinds letters) where
  pub outcomes_name : AllName (outcomes ks letters)
  outcomes_name = true_names _ ks (outcomes ks letters) (true_lines longest ks letters lengths legible)

  -- the lines have at most 15 bytes each
  pub lines_room : length ks ≤ most_segments → length (lines_of (outcomes ks letters)) ≤ most_report
  lines_room l =
      let os = outcomes ks letters in
      let n = length-outcomes ks letters in
      let m : length (map reported os) ≡ length os = simp length-map in
      omega (arith, lines_most 1 (map reported os) (omega arith) (all_numbered os (outcomes_numbered ks letters lengths) outcomes_name), m)
