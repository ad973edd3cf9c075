-- What step 10 promises of the segments behind a lost one: the proof of LaterSegments.antt.
--   comes_back    a later segment that stands first is read from its start
--   never_scans   a strand that keeps the one-edit conditions is read without a scan
--   stays_found   what a scan for the next segment alone finds, step 10 finds
--   stays_read    what is read by it stays
use Rattle.std.specs.Prelude.{◌≡◌, Bool, true, false, ℕ, zero, suc, ◌+◌, ◌-◌, ◌≤◌, length, get_or, take, drop}
use Rattle.std.proofs.Math.Path.{refl, ap}
use Rattle.std.proofs.Common.{◌∙◌, arith}
use mathlib.Core.List.{List, [], ◌∷◌, ◌++◌, map, append_assoc}
use Rattle.std.proofs.Math.Option.{Option, some, none}
use Rattle.code.specs.Symbols.{as_symbols}
use Rattle.code.proofs.laws.Letters.{as_drop}
use Rattle.code.specs.Segment.{last_of, size}
use Rattle.code.specs.Layout.{Lengths, more}
use Rattle.code.specs.Reading.{SegmentResult, read, read_segment}
use Rattle.code.specs.Sheet.{marks_of, count_of}
use Rattle.code.specs.Strands.{window, Try, try_at, tries, stands, first_standing, scan, told, Outcome, lost_outcome, unfound, lost_and_rest, segment_and_rest, Scan, reading, verdicts_of}
use Rattle.code.proofs.laws.Scan.{standing_append, scan_passes, sought_Among}
use Rattle.code.proofs.laws.Strands.{length-reading}
use Rattle.code.proofs.laws.Demand3.{demand_3}
use Rattle.code.specs.LaterSegments.{place_behind, marked_behind, Before, StandsFirst, clean_and_rest, ComesBack, NeverScans, next_scan, StaysFound, Kept, all, same, tail, AllFound, StaysRead}
use Rattle.code.proofs.laws.LostSegments.{heads, tails, has-false, at_loss_lem, clean_rest}
use Rattle.code.specs.declared.Verdict.TheVariants.{Read, Lost}

-- What stands first is found

module _ (s letters : List ℕ) (x : Try) (clean : stands s letters x ≡ true) where
  first_stands : (front behind : List Try) → ((t : Try) → Before t x (front ++ x ∷ behind) → stands s letters t ≡ false) → first_standing s letters (front ++ x ∷ behind) ≡ some x
  unfolding first_standing
  first_stands [] behind h = rw clean
  first_stands (t ∷ front) behind h =
      rw (h t (record { front = []; between = front; behind = behind; is = refl })) (first_stands front behind (λ u b. h u (record { front = t ∷ b.front; between = b.between; behind = b.behind; is = ap (◌∷◌ t) b.is })))

found_first : (n : ℕ) (ks : List ℕ) (j : ℕ) (js s letters : List ℕ) (o : ℕ) → StandsFirst n ks j js s letters o → scan n (ks ++ j ∷ js) s letters ≡ some (try_at (length ks) j o)
unfolding scan
found_first n ks j js s letters o h =
    let a = sought_Among n ks j js o h.above h.near.0 h.near.1 in
    rw a.is (first_stands s letters (try_at (length ks) j o) h.clean a.front a.behind (rw a.is at h.first))

-- The segments that are passed
passed_reading : (marked : Bool) (f : ℕ) (ks : List ℕ) (j : ℕ) (js s letters : List ℕ) → marked ≡ true → reading scan (length ks) marked f (ks ++ j ∷ js) s letters ≡ map unfound ks ++ reading scan 0 true f (j ∷ js) s letters
unfolding reading
passed_reading marked f [] j js s letters e = rw e
passed_reading marked f (k ∷ ks) j js s letters e = ap (◌∷◌ (unfound k)) (passed_reading true f ks j js s letters refl)

-- a length behind others
length_behind : {most : ℕ} (ks : List ℕ) (j : ℕ) (js : List ℕ) → Lengths most (ks ++ j ∷ js) → 2 ≤ j
length_behind [] j js (more h _ _) = h
length_behind (k ∷ ks) j js (more _ _ ls) = length_behind ks j js ls

pub comes_back : ComesBack
comes_back most before k ks j js letters lost o lengths h = (ap (λ (x : Outcome). x.piece) (heads all_of), tails all_of, λ last. tails all_of ∙ ap (λ (os : List Outcome). map unfound ks ++ os) (rest last))
  where
    L : List ℕ
    L = drop (place_behind lost.earlier) letters

    M : List ℕ
    M = drop o L

    f : ℕ
    f = get_or (as_symbols L) (o - 1) 0

    all_of : lost_outcome lost.piece k (Lost lost.step) ∷ lost.later ≡ lost_outcome (take o L) k (Lost lost.step) ∷ (map unfound ks ++ reading scan 0 true f (j ∷ js) (drop o (as_symbols L)) M)
    all_of =
        at_loss_lem k (ks ++ j ∷ js) lost.piece lost.step lost.later before 0 false 0 letters lost.earlier lost.as_many lost.is ∙ rw (has-false before, found_first (size (marked_behind before) k) ks j js (as_symbols L) L o h)
        (ap (◌∷◌ (lost_outcome (take o L) k (Lost lost.step))) (passed_reading true f ks j js (drop o (as_symbols L)) M refl))

    rest : (js ≡ [] → length M ≡ size true j) → reading scan 0 true f (j ∷ js) (drop o (as_symbols L)) M ≡ clean_and_rest j js (drop o (as_symbols L)) M
    rest last =
        let e : as_symbols M ≡ drop o (as_symbols L) = as_drop o L in
        let two = length_behind {most = most} (before ++ k ∷ ks) j js (rw (append_assoc before (k ∷ ks) (j ∷ js)) lengths) in
        rw e at (clean_rest f j js M two (rw e h.clean) last)

-- A reading in which no step loses a segment does not ask for a scan

unscanned : (look other : Scan) (passed : ℕ) (marked : Bool) (f : ℕ) (ks s letters : List ℕ) → count_of 2 (marks_of (verdicts_of (reading look passed marked f ks s letters))) ≡ 0 → reading other passed marked f ks s letters ≡ reading look passed marked f ks s letters
unfolding reading count_of
unscanned look other passed marked f [] s letters h = refl
unscanned look other (suc passed) marked f (k ∷ ks) s letters h = absurd (omega arith)
unscanned look other zero marked f (k ∷ ks) s letters h =
    go (read_segment marked f k ks s letters) (look (size marked k) ks s letters) h (λ g o. unscanned look other 0 true g ks (drop o s) (drop o letters))
  where
    by : Scan → ℕ → ℕ → ℕ → List Outcome
    by scanner n g o = reading scanner n true g ks (drop o s) (drop o letters)

    lost_in : List Outcome → ℕ
    lost_in os = count_of 2 (marks_of (verdicts_of os))

    go : (r : SegmentResult) (x : Option Try) → lost_in (segment_and_rest k ks s letters (by look) x r) ≡ 0 → ((g o : ℕ) → lost_in (by look 0 g o) ≡ 0 → by other 0 g o ≡ by look 0 g o) → segment_and_rest k ks s letters (by other) (other (size marked k) ks s letters) r ≡ segment_and_rest k ks s letters (by look) x r
    go (read m e o) x z later = ap (◌∷◌ (record { piece = take o letters; message = m; verdict = told (Read e) (take o letters) })) (later (last_of m) o (omega arith))
    go (SegmentResult.lost step) (some t) z later = absurd (omega arith)
    go (SegmentResult.lost step) none z later = absurd (omega arith)

pub never_scans : NeverScans
never_scans most ks x s m o look = unscanned scan look 0 false 0 ks (as_symbols s) s (demand_3 most ks x s m o).none_lost

-- The next segment alone

pub stays_found : StaysFound
unfolding scan next_scan tries
stays_found n [] s letters t e = let z : ◌≡◌ {A = ℕ} 0 1 = cc in absurd (omega arith)
stays_found n (k ∷ ks) s letters t e =
    let w = map (try_at 0 k) (window n 8) in
    standing_append s letters w (tries 1 (n + size true k) ks) ∙ rw e

kept : (passed : ℕ) (marked : Bool) (f : ℕ) (ks s letters : List ℕ) → Kept (reading next_scan passed marked f ks s letters) (reading scan passed marked f ks s letters)
unfolding reading
kept passed marked f [] s letters = all []
kept (suc passed) marked f (k ∷ ks) s letters = same (unfound k) (kept passed true f ks s letters)
kept zero marked f (k ∷ ks) s letters = go (read_segment marked f k ks s letters) (λ n g o. kept n true g ks (drop o s) (drop o letters))
  where
    by : Scan → ℕ → ℕ → ℕ → List Outcome
    by look n g o = reading look n true g ks (drop o s) (drop o letters)

    Later : Type 0
    Later = (n g o : ℕ) → Kept (by next_scan n g o) (by scan n g o)

    -- a scan for the next segment finds nothing
    tailed : (qs : List ℕ) (step : ℕ) (x : Option Try) → qs ≡ ks → scan (size marked k) qs s letters ≡ x → Kept (lost_outcome letters k (Lost step) ∷ map unfound ks) (lost_and_rest k ks s letters step (by scan) x)
    tailed qs step none e q = all (lost_outcome letters k (Lost step) ∷ map unfound ks)
    tailed [] step (some t) e q = absurd (omega (arith, scan_passes (size marked k) [] s letters t q))
    tailed (j ∷ qs) step (some t) e q =
        rw (← e) (tail k j qs letters step t.start (reading scan t.passed true (get_or s (t.start - 1) 0) (j ∷ qs) (drop t.start s) (drop t.start letters)) (length-reading scan t.passed true (get_or s (t.start - 1) 0) (j ∷ qs) (drop t.start s) (drop t.start letters)))

    scanned : (step : ℕ) (x : Option Try) → next_scan (size marked k) ks s letters ≡ x → Later → Kept (lost_and_rest k ks s letters step (by next_scan) x) (lost_and_rest k ks s letters step (by scan) (scan (size marked k) ks s letters))
    scanned step (some t) q h = rw (stays_found (size marked k) ks s letters t q) (same (lost_outcome (take t.start letters) k (Lost step)) (h t.passed (get_or s (t.start - 1) 0) t.start))
    scanned step none q h = tailed ks step (scan (size marked k) ks s letters) refl refl

    go : (r : SegmentResult) → Later → Kept (segment_and_rest k ks s letters (by next_scan) (next_scan (size marked k) ks s letters) r) (segment_and_rest k ks s letters (by scan) (scan (size marked k) ks s letters) r)
    go (read m e o) h = same (record { piece = take o letters; message = m; verdict = told (Read e) (take o letters) }) (h 0 (last_of m) o)
    go (SegmentResult.lost step) h = scanned step (next_scan (size marked k) ks s letters) refl h

-- where a start was found for every segment, nothing is read otherwise
Kept-all : {os ps : List Outcome} → Kept os ps → AllFound os → os ≡ ps
Kept-all (all os) h = refl
Kept-all (same o r) h = ap (◌∷◌ o) (Kept-all r h.1)
Kept-all (tail k j ks letters step n ps l) h = absurd (h.1.0 refl)

pub stays_read : StaysRead
stays_read ks letters = let r = kept 0 false 0 ks (as_symbols letters) letters in (r, Kept-all r)
