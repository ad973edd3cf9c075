-- The one-edit conditions (SPECIFICATION.md, section 6): they speak of the written and the received strand only.
--   received       the stretches of the edited segments, joined in order
--   hits           an edit hits separator or syndrome
--   NextUntouched  a hit segment is last, or an untouched one follows it
--   Allowed        one edit at most for each segment, and each hit one is spared
--   OneEdit        a strand keeps the conditions: some cut and naming of edits does
use Rattle.std.specs.Prelude.{◌≡◌, Bool, true, false, List, [], ◌∷◌, ◌++◌, ℕ, ◌+◌, leb, length}
use Rattle.code.specs.Symbols.{letter_kinds}
use Rattle.code.specs.Segment.{segment, last_of, data_at}
use Rattle.code.specs.Edits.{applied, Fits}
use Rattle.code.specs.declared.Edit.{Edit}
use Rattle.code.specs.declared.Edit.TheVariants.{None, Sub, Del, Ins}

-- one stretch for each segment, its edit applied, joined in order
unfoldable pub received : Bool → ℕ → List (List ℕ) → List Edit → List ℕ
received marked f [] es = []
received marked f (m ∷ ms) [] = []
received marked f (m ∷ ms) (e ∷ es) = applied e (segment marked f m) ++ received true (last_of m) ms es

-- the place of the separator's first letter in a segment of k message symbols
abbrev pub separator_place : Bool → ℕ → ℕ
separator_place marked k = data_at marked + (k + 1)

-- the letter left out or replaced is one of separator and syndrome, or the letter put in stands directly before, between or after them
abbrev pub hits : Bool → ℕ → Edit → Bool
hits marked k None = false
hits marked k (Sub i x) = leb (separator_place marked k) i
hits marked k (Del i x) = leb (separator_place marked k) i
hits marked k (Ins i x) = leb (separator_place marked k) i

-- the segments that follow are none, or the first of them is untouched: its stretch equals it, letter by letter
abbrev pub NextUntouched : ℕ → List (List ℕ) → List Edit → Type 0
NextUntouched f [] es = Unit {0}
NextUntouched f (m ∷ ms) [] = ⊥
NextUntouched f (m ∷ ms) (e ∷ es) = applied e (segment true f m) ≡ segment true f m

-- an edit for each segment, whose letter may be an N, and each segment that is hit in separator or syndrome is last or directly followed by an untouched one
abbrev pub Allowed : Bool → ℕ → List (List ℕ) → List Edit → Type 0
Allowed marked f [] [] = Unit {0}
Allowed marked f [] (e ∷ es) = ⊥
Allowed marked f (m ∷ ms) [] = ⊥
Allowed marked f (m ∷ ms) (e ∷ es) =
    Fits letter_kinds e (length (segment marked f m)) × (hits marked (length m) e ≡ true → NextUntouched (last_of m) ms es) × Allowed true (last_of m) ms es

-- the letters s come from the written strand of the messages within the conditions
pub record OneEdit (ms : List (List ℕ)) (s : List ℕ) : Type 0 where
  pub edits : List Edit
  pub allowed : Allowed false 0 ms edits
  pub stretches : received false 0 ms edits ≡ s
