-- Reading a whole strand (SPECIFICATION.md, section 4): step 10, and what the outcomes of the segments tell.
--   window        the starts about a centre, from P
--   tries         what a scan tries, in order
--   scan          step 10: which later segment stands where
--   told          what is said of a segment, by its piece
--   Outcome       what is found of a segment
--   reading       the outcomes of all segments of a layout
--   verdicts_of   what is said of the segments
use Rattle.std.specs.Prelude.{Bool, true, false, cond, List, [], ◌∷◌, ◌++◌, map, ℕ, zero, suc, ◌+◌, ◌-◌, ◌*◌, ltb, get_or, take, drop, replicate}
use Rattle.std.proofs.Math.Option.{Option, some, none}
use Rattle.code.specs.Symbols.{as_symbols, has_unknown}
use Rattle.code.specs.Segment.{last_of, size}
use Rattle.code.specs.Layout.{joined}
use Rattle.code.specs.Reading.{clean, SegmentResult, read, lost, read_segment}
use Rattle.code.specs.declared.Edit.TheVariants.{None, Sub, Del, Ins}
use Rattle.code.specs.declared.Verdict.{Verdict}
use Rattle.code.specs.declared.Verdict.TheVariants.{Read, Unknown, Lost, NoStart}

-- the starts above P among those of a list
unfoldable pub above : List ℕ → List ℕ
above [] = []
above (o ∷ os) = cond (ltb 0 o) (o ∷ above os) (above os)

-- n − d, n + d, n − (d + 1), n + (d + 1), .., c pairs
unfoldable pub pairs : ℕ → ℕ → ℕ → List ℕ
pairs n d zero = []
pairs n d (suc c) = (n - d) ∷ (n + d) ∷ pairs n (suc d) c

-- the starts of a window about n, from P: n + d above 0, with d = 0, −1, +1, and on to −c, +c
abbrev pub window : ℕ → ℕ → List ℕ
window n c = above (n ∷ pairs n 1 c)

-- a start that is tried: how many segments are passed, the length of the one sought, and the start, from P
pub record Try : Type 0 where
  pub passed : ℕ
  pub sought : ℕ
  pub start : ℕ

-- the try at the start o for a segment of length k
abbrev pub try_at : ℕ → ℕ → ℕ → Try
try_at passed k o = record { passed = passed; sought = k; start = o }

-- what is tried for the segments of the lengths ks, n being the centre of the first of them: its window, 8 to each side and 8 more for each
-- segment that is passed; then those behind it, a segment further on
unfoldable pub tries : ℕ → ℕ → List ℕ → List Try
tries passed n [] = []
tries passed n (k ∷ ks) = map (try_at passed k) (window n (8 * (passed + 1))) ++ tries (passed + 1) (n + size true k) ks

-- a clean segment of the length sought stands at the start, f being the received symbol before it
abbrev pub stands : List ℕ → List ℕ → Try → Bool
stands s letters t = clean t.sought (get_or s (t.start - 1) 0) (drop t.start s) (drop t.start letters)

-- the first try that stands
unfoldable pub first_standing : List ℕ → List ℕ → List Try → Option Try
first_standing s letters [] = none
first_standing s letters (t ∷ ts) = cond (stands s letters t) (some t) (first_standing s letters ts)

-- step 10: which segment stands where behind a lost one of length n, if any; ks are the lengths behind it
unfoldable pub scan : ℕ → List ℕ → List ℕ → List ℕ → Option Try
scan n ks s letters = first_standing s letters (tries 0 n ks)

-- a piece with an N is never clean: where it is read with no edit, unknown is said of its segment
abbrev pub told : Verdict → List ℕ → Verdict
told (Read None) piece = cond (has_unknown piece) Unknown (Read None)
told (Read (Sub i x)) piece = Read (Sub i x)
told (Read (Del i x)) piece = Read (Del i x)
told (Read (Ins i x)) piece = Read (Ins i x)
told Unknown piece = Unknown
told (Lost step) piece = Lost step
told NoStart piece = NoStart

-- what is found of a segment: its stretch of the received letters, its message, and what is said of it
pub record Outcome : Type 0 where
  pub piece : List ℕ
  pub message : List ℕ
  pub verdict : Verdict

-- a lost segment's symbols are zeros
abbrev pub lost_outcome : List ℕ → ℕ → Verdict → Outcome
lost_outcome piece k v = record { piece = piece; message = replicate k 0; verdict = v }

-- a segment that is lost for want of a start, with an empty piece
abbrev pub unfound : ℕ → Outcome
unfound k = lost_outcome [] k NoStart

-- a lost segment, and those after it: from the start that the scan found, some of them passed, or lost too; `next` reads them from how many are
-- passed, f and the start, counted from P
abbrev pub lost_and_rest : ℕ → List ℕ → List ℕ → List ℕ → ℕ → (ℕ → ℕ → ℕ → List Outcome) → Option Try → List Outcome
lost_and_rest k ks s letters step next (some t) = lost_outcome (take t.start letters) k (Lost step) ∷ next t.passed (get_or s (t.start - 1) 0) t.start
lost_and_rest k ks s letters step next none = lost_outcome letters k (Lost step) ∷ map unfound ks

-- a segment and those after it; `found` is what a scan behind it finds
abbrev pub segment_and_rest : ℕ → List ℕ → List ℕ → List ℕ → (ℕ → ℕ → ℕ → List Outcome) → Option Try → SegmentResult → List Outcome
segment_and_rest k ks s letters next found (read m e o) = record { piece = take o letters; message = m; verdict = told (Read e) (take o letters) } ∷ next 0 (last_of m) o
segment_and_rest k ks s letters next found (lost step) = lost_and_rest k ks s letters step next found

-- how a scan answers: what is found behind a lost segment of length n, ks being the lengths behind it
abbrev pub Scan : Type 0
Scan = ℕ → List ℕ → List ℕ → List ℕ → Option Try

-- the outcomes of the segments of a layout, from the left, by a scan; the first `passed` of them are lost for want of a start
unfoldable pub reading : Scan → ℕ → Bool → ℕ → List ℕ → List ℕ → List ℕ → List Outcome
reading look passed marked f [] s letters = []
reading look (suc passed) marked f (k ∷ ks) s letters = unfound k ∷ reading look passed true f ks s letters
reading look zero marked f (k ∷ ks) s letters =
    segment_and_rest k ks s letters (λ n g o. reading look n true g ks (drop o s) (drop o letters)) (look (size marked k) ks s letters)
    (read_segment marked f k ks s letters)

-- the outcomes of the received letters of a strand, whose first segment has no marker
abbrev pub outcomes : List ℕ → List ℕ → List Outcome
outcomes ks letters = reading scan 0 false 0 ks (as_symbols letters) letters

-- the symbols that the outcomes give
abbrev pub messages_of : List Outcome → List ℕ
messages_of os = joined (map (λ (o : Outcome). o.message) os)

-- what is said of the segments
abbrev pub verdicts_of : List Outcome → List Verdict
verdicts_of os = map (λ (o : Outcome). o.verdict) os
