-- What is reported, from the numbers and the ends that a walk leaves.
--   Inside          the place of a received letter is one of the piece's
--   part            a part of letters
--   reported_from   what is reported of the segments from one on
--   Reportable      the pieces are parts of the letters, with the places of received letters in them
use Rattle.std.specs.Prelude.{List, [], ◌∷◌, ℕ, ◌-◌, ◌<◌, ◌≤◌, length, take, drop}
use Rattle.code.specs.Verdicts.{verdict_of}
use Rattle.code.specs.declared.Edit.TheVariants.{None, Sub, Del, Ins}
use Rattle.code.specs.declared.Verdict.{Verdict}
use Rattle.code.specs.declared.Verdict.TheVariants.{Read, Unknown, Lost, NoStart}
use Rattle.lines.specs.Report.{in_letters}

-- the place of a substitution or an insertion is one of the piece's
abbrev pub Inside : Verdict → List ℕ → Type 0
Inside (Read None) piece = Unit {0}
Inside (Read (Sub i x)) piece = i < length piece
Inside (Read (Del i x)) piece = Unit {0}
Inside (Read (Ins i x)) piece = i < length piece
Inside Unknown piece = Unit {0}
Inside (Lost step) piece = Unit {0}
Inside NoStart piece = Unit {0}

-- the letters from one place to another
abbrev pub part : ℕ → ℕ → List ℕ → List ℕ
part from to letters = take (to - from) (drop from letters)

-- what is reported of segments by the numbers of their verdicts, the piece of the first starting at `from`, and each where the one before it ends
unfoldable pub reported_from : ℕ → List ℕ → List ℕ → List ℕ → List Verdict
reported_from from [] ends letters = []
reported_from from (v ∷ vs) [] letters = []
reported_from from (v ∷ vs) (e ∷ ends) letters = in_letters (verdict_of v) (part from e letters) ∷ reported_from e vs ends letters

-- there are as many ends as verdicts, the pieces are parts of the letters, and the places of received letters are in them
abbrev pub Reportable : ℕ → List ℕ → List ℕ → List ℕ → Type 0
Reportable from [] [] letters = Unit {0}
Reportable from [] (e ∷ ends) letters = ⊥
Reportable from (v ∷ vs) [] letters = ⊥
Reportable from (v ∷ vs) (e ∷ ends) letters =
    (from ≤ e) × (e ≤ length letters) × Inside (verdict_of v) (part from e letters) × Reportable e vs ends letters
