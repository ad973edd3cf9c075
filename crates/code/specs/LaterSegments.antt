-- What step 10 promises of the segments behind a lost one, in one page. What it tries is `tries` (Strands.antt). The statements are proved in
-- proofs/laws/LaterSegments.antt, each under its name in small letters.
--   LostAt        a step loses a segment of a strand
--   StandsFirst   a later segment stands clean in its window, and nothing that is tried before it stands
--   ComesBack     it is read from its start, clean, and reading goes on behind it
--   NeverScans    a strand that keeps the one-edit conditions is read without a scan
--   next_scan     a scan for the next segment alone
--   StaysFound    what it finds, step 10 finds
--   StaysRead     nothing that is read by it is read otherwise, unless all behind a lost segment was lost
use Rattle.std.specs.Prelude.{◌≡◌, Bool, true, false, List, [], ◌∷◌, ◌++◌, map, ℕ, ◌+◌, ◌-◌, ◌*◌, ◌<◌, ◌≤◌, length, get_or, take, drop}
use Rattle.std.proofs.Math.Option.{some, none}
use Rattle.code.specs.Symbols.{as_symbols}
use Rattle.code.specs.Segment.{last_of, size}
use Rattle.code.specs.Layout.{cut, joined, extent, Lengths}
use Rattle.code.specs.Conditions.{OneEdit}
use Rattle.code.specs.Strands.{window, Try, try_at, tries, stands, first_standing, scan, Outcome, lost_outcome, unfound, Scan, reading, outcomes}
use Rattle.code.specs.Demand3.{Message}
use Rattle.code.specs.declared.Edit.TheVariants.{None}
use Rattle.code.specs.declared.Verdict.TheVariants.{Read, Lost, NoStart}

-- Comes back

-- of the segments of the lengths before, k and behind, a step loses the one of length k
pub record LostAt (before : List ℕ) (k : ℕ) (behind letters : List ℕ) : Type 0 where
  pub earlier : List Outcome
  pub piece : List ℕ
  pub step : ℕ
  pub later : List Outcome
  pub is : outcomes (before ++ k ∷ behind) letters ≡ earlier ++ lost_outcome piece k (Lost step) ∷ later
  pub as_many : length earlier ≡ length before

-- where the pieces of outcomes end
abbrev pub place_behind : List Outcome → ℕ
place_behind os = length (joined (map (λ (o : Outcome). o.piece) os))

-- a segment behind others has a marker
abbrev pub marked_behind : List ℕ → Bool
marked_behind [] = false
marked_behind (k ∷ ks) = true

-- t stands before x in a list of tries
pub record Before (t x : Try) (ts : List Try) : Type 0 where
  pub front : List Try
  pub between : List Try
  pub behind : List Try
  pub is : ts ≡ front ++ t ∷ (between ++ x ∷ behind)

-- behind a lost segment of length n, at whose start s and letters begin, and behind segments of the lengths ks, one of the length j stands clean
-- at o, in its window, and nothing that is tried before it stands; the lengths js follow
pub record StandsFirst (n : ℕ) (ks : List ℕ) (j : ℕ) (js s letters : List ℕ) (o : ℕ) : Type 0 where
  pub above : 0 < o
  pub near : (n + extent true ks ≤ o + 8 * (length ks + 1)) × (o ≤ n + extent true ks + 8 * (length ks + 1))
  pub clean : stands s letters (try_at (length ks) j o) ≡ true
  pub first : (t : Try) → Before t (try_at (length ks) j o) (tries 0 n (ks ++ j ∷ js)) → stands s letters t ≡ false

-- the segment of length j at the front of s and letters is clean, and the segments of the lengths js are read behind it
abbrev pub clean_and_rest : ℕ → List ℕ → List ℕ → List ℕ → List Outcome
clean_and_rest j js s letters =
    let m = take j (drop 2 s) in
    record { piece = take (size true j) letters; message = m; verdict = Read None }
    ∷ reading scan 0 true (last_of m) js (drop (size true j) s) (drop (size true j) letters)

-- for every layout, all letters and every segment that a step loses, P being its start: the lost segment keeps the letters up to the later one that
-- stands first, those between are lost for want of a start, and that one is read there; it is clean, unless it is the last and letters follow it
abbrev pub ComesBack : Type 0
ComesBack =
    (most : ℕ) (before : List ℕ) (k : ℕ) (ks : List ℕ) (j : ℕ) (js letters : List ℕ) (lost : LostAt before k (ks ++ j ∷ js) letters) (o : ℕ)
    → Lengths most (before ++ k ∷ (ks ++ j ∷ js))
    → let L = drop (place_behind lost.earlier) letters in
    let s = as_symbols L in
    StandsFirst (size (marked_behind before) k) ks j js s L o
    → (lost.piece ≡ take o L)
    × (lost.later ≡ map unfound ks ++ reading scan 0 true (get_or s (o - 1) 0) (j ∷ js) (drop o s) (drop o L))
    × ((js ≡ [] → length (drop o L) ≡ size true j) → lost.later ≡ map unfound ks ++ clean_and_rest j js (drop o s) (drop o L))

-- Never scans

-- whatever a scan would find: what keeps the one-edit conditions is read the same
abbrev pub NeverScans : Type 0
NeverScans =
    (most : ℕ) (ks x s : List ℕ) → Message most ks x → OneEdit (cut ks x) s
    → (look : Scan) → reading look 0 false 0 ks (as_symbols s) s ≡ outcomes ks s

-- The next segment alone

-- only the next segment is sought, 8 to each side
unfoldable pub next_scan : Scan
next_scan n [] s letters = none
next_scan n (k ∷ ks) s letters = first_standing s letters (map (try_at 0 k) (window n 8))

-- what it finds, step 10 finds
abbrev pub StaysFound : Type 0
StaysFound = (n : ℕ) (ks s letters : List ℕ) (t : Try) → next_scan n ks s letters ≡ some t → scan n ks s letters ≡ some t

-- two readings agree; or they agree up to a segment that a step loses in both, behind which all were lost for want of a start in the first, and which
-- keeps a front of its piece in the second
pub data Kept : List Outcome → List Outcome → Type 0 where
  all : (os : List Outcome) → Kept os os
  same : (o : Outcome) {os ps : List Outcome} → Kept os ps → Kept (o ∷ os) (o ∷ ps)
  tail : (k j : ℕ) (ks letters : List ℕ) (step n : ℕ) (ps : List Outcome) → length ps ≡ length (j ∷ ks)
      → Kept (lost_outcome letters k (Lost step) ∷ map unfound (j ∷ ks)) (lost_outcome (take n letters) k (Lost step) ∷ ps)

-- a start was found for every segment
abbrev pub AllFound : List Outcome → Type 0
AllFound [] = Unit {0}
AllFound (o ∷ os) = (o.verdict ≡ NoStart → ⊥) × AllFound os

-- for every layout and all letters: where a scan for the next segment alone finds all starts, step 10 reads the same; otherwise it reads the same up
-- to the segment behind which none was found
abbrev pub StaysRead : Type 0
StaysRead =
    (ks letters : List ℕ)
    → let os = reading next_scan 0 false 0 ks (as_symbols letters) letters in
    Kept os (outcomes ks letters) × (AllFound os → os ≡ outcomes ks letters)
