-- Laws of reading a whole strand, whatever was received.
use Rattle.std.specs.Prelude.{◌≡◌, refl, Bool, true, false, cond, ℕ, zero, suc, ◌+◌, ◌-◌, ◌<◌, ◌≤◌, length, get_or, take, drop, eqb}
use Rattle.std.proofs.Common.{sym, ap, ◌∙◌, arith, take-append-drop, take_at}
use mathlib.Core.List.{List, [], ◌∷◌, ◌++◌, map, append-nil, cons≢nil, append_assoc}
use Rattle.std.proofs.Math.Option.{Option, some, none}
use Rattle.std.proofs.lemmas.List.{length-map}
use Rattle.std.proofs.Math.Seq.{take-length}
use Rattle.code.specs.Symbols.{Below, as_symbols, has_unknown}
use Rattle.code.specs.Segment.{check, marker, block, segment, last_of, size}
use Rattle.code.proofs.laws.Segment.{length-segment}
use Rattle.code.specs.Layout.{joined}
use Rattle.code.specs.Edits.{judged}
use Rattle.code.proofs.laws.Edits.{same_refl}
use Rattle.code.specs.Reading.{message, SegmentResult, read, read_message, end_of, read_segment}
use Rattle.code.proofs.laws.ReadSegment.{read_parts}
use Rattle.code.proofs.laws.SegmentSteps.{pre, Sees, Final, Sees-end, reads_settled}
use Rattle.code.proofs.laws.EditedSegment.{ending, message_edit}
use Rattle.code.specs.Sheet.{mark_of, marks_of, count_of}
use Rattle.code.specs.Strands.{Try, scan, told, Outcome, unfound, lost_and_rest, segment_and_rest, Scan, reading, outcomes, verdicts_of}
use Rattle.code.proofs.laws.Scan.{scan_passes}
use Rattle.code.specs.declared.Edit.{Edit}
use Rattle.code.specs.declared.Edit.TheVariants.{None, Sub, Del, Ins}
use Rattle.code.specs.declared.Verdict.{Verdict}
use Rattle.code.specs.declared.Verdict.TheVariants.{Read, Unknown, Lost, NoStart}

-- there are as many outcomes as segments
pub length-reading : (look : Scan) (passed : ℕ) (marked : Bool) (f : ℕ) (ks s letters : List ℕ) → length (reading look passed marked f ks s letters) ≡ length ks
unfolding reading
length-reading look passed marked f [] s letters = refl
length-reading look (suc passed) marked f (k ∷ ks) s letters = ap suc (length-reading look passed true f ks s letters)
length-reading look zero marked f (k ∷ ks) s letters = go (read_segment marked f k ks s letters) (λ n g o. length-reading look n true g ks (drop o s) (drop o letters))
  where
    next : ℕ → ℕ → ℕ → List Outcome
    next n g o = reading look n true g ks (drop o s) (drop o letters)

    Later : Type 0
    Later = (n g o : ℕ) → length (next n g o) ≡ length ks

    scanned : (step : ℕ) (x : Option Try) → Later → length (lost_and_rest k ks s letters step next x) ≡ suc (length ks)
    scanned step (some t) h = ap suc (h t.passed (get_or s (t.start - 1) 0) t.start)
    scanned step none h = ap suc (simp length-map)

    go : (r : SegmentResult) → Later → length (segment_and_rest k ks s letters next (look (size marked k) ks s letters) r) ≡ suc (length ks)
    go (read m e o) h = ap suc (h 0 (last_of m) o)
    go (SegmentResult.lost step) h = scanned step (look (size marked k) ks s letters) h

pub length-outcomes : (ks letters : List ℕ) → length (outcomes ks letters) ≡ length ks
length-outcomes ks letters = length-reading scan 0 false 0 ks (as_symbols letters) letters

-- the last segment ends with the strand
last_end : (marked : Bool) (f k : ℕ) (s letters m : List ℕ) (e : Edit) (o : ℕ) → read_segment marked f k [] s letters ≡ read m e o → o ≡ length letters
unfolding end_of
last_end marked f k s letters m e o h = let q = (read_parts marked f k [] s letters m e o h).ends in cc

pieces : List Outcome → List ℕ
pieces os = joined (map (λ (o : Outcome). o.piece) os)

empty_pieces : (ks : List ℕ) → pieces (map unfound ks) ≡ []
unfolding pieces joined
empty_pieces [] = refl
empty_pieces (k ∷ ks) = empty_pieces ks

-- from a start on, fewer segments being passed than there are, the pieces joined are the letters
pieces_reading : (passed : ℕ) (marked : Bool) (f : ℕ) (ks s letters : List ℕ) → passed < length ks → pieces (reading scan passed marked f ks s letters) ≡ letters
unfolding reading pieces joined
pieces_reading passed marked f [] s letters few = absurd (omega arith)
pieces_reading (suc passed) marked f (k ∷ ks) s letters few = pieces_reading passed true f ks s letters (omega arith)
pieces_reading zero marked f (k ∷ ks) s letters few =
    go (read_segment marked f k ks s letters) refl (λ n g o l. pieces_reading n true g ks (drop o s) (drop o letters) l)
  where
    next : ℕ → ℕ → ℕ → List Outcome
    next n g o = reading scan n true g ks (drop o s) (drop o letters)

    Later : Type 0
    Later = (n g o : ℕ) → n < length ks → pieces (next n g o) ≡ drop o letters

    both : (o : ℕ) (w : List ℕ) → w ≡ drop o letters → take o letters ++ w ≡ letters
    both o w e = rw e (take-append-drop o letters)

    scanned : (step : ℕ) (x : Option Try) → scan (size marked k) ks s letters ≡ x → Later → pieces (lost_and_rest k ks s letters step next x) ≡ letters
    scanned step (some t) q h = both t.start _ (h t.passed (get_or s (t.start - 1) 0) t.start (scan_passes (size marked k) ks s letters t q))
    scanned step none q h = rw (empty_pieces ks) (append-nil letters)

    ended : (qs : List ℕ) (m : List ℕ) (e : Edit) (o : ℕ) → qs ≡ ks → read_segment marked f k qs s letters ≡ read m e o → Later → take o letters ++ pieces (next 0 (last_of m) o) ≡ letters
    ended [] m e o z q h = rw (← z, last_end marked f k s letters m e o q, take-length letters) (append-nil letters)
    ended (x ∷ qs) m e o z q h = both o _ (h 0 (last_of m) o (omega (arith, ap length z)))

    go : (r : SegmentResult) → read_segment marked f k ks s letters ≡ r → Later → pieces (segment_and_rest k ks s letters next (scan (size marked k) ks s letters) r) ≡ letters
    go (read m e o) q h = ended ks m e o refl q h
    go (SegmentResult.lost step) q h = scanned step (scan (size marked k) ks s letters) refl h

-- the pieces joined are the received strand
pub joined_pieces : (ks letters : List ℕ) → 0 < length ks → joined (map (λ (o : Outcome). o.piece) (outcomes ks letters)) ≡ letters
unfolding pieces
joined_pieces ks letters some_segment = pieces_reading 0 false 0 ks (as_symbols letters) letters some_segment

-- clean, corrected and lost segments are all
mark_counts : (v : Verdict) → cond (eqb (mark_of v) 0) 1 0 + (cond (eqb (mark_of v) 1) 1 0 + cond (eqb (mark_of v) 2) 1 0) ≡ 1
mark_counts (Read None) = refl
mark_counts (Read (Sub i x)) = refl
mark_counts (Read (Del i x)) = refl
mark_counts (Read (Ins i x)) = refl
mark_counts Unknown = refl
mark_counts (Lost step) = refl
mark_counts NoStart = refl

pub counts_add_up : (os : List Outcome) → count_of 0 (marks_of (verdicts_of os)) + (count_of 1 (marks_of (verdicts_of os)) + count_of 2 (marks_of (verdicts_of os))) ≡ length os
unfolding count_of
counts_add_up [] = refl
counts_add_up (o ∷ os) = omega (arith, mark_counts o.verdict, counts_add_up os)

-- a piece without an N changes nothing of what is said
pub told_known : (v : Verdict) (piece : List ℕ) → has_unknown piece ≡ false → told v piece ≡ v
told_known (Read None) piece h = rw h
told_known (Read (Sub i x)) piece h = refl
told_known (Read (Del i x)) piece h = refl
told_known (Read (Ins i x)) piece h = refl
told_known Unknown piece h = refl
told_known (Lost step) piece h = refl
told_known NoStart piece h = refl

-- A clean segment is read

-- a segment, its marker or nothing before it, in the parts that an edit may hit
segment-pre : (marked : Bool) (f : ℕ) (m : List ℕ) → segment marked f m ≡ pre marked f m ++ ((m ++ check m ∷ []) ++ ending m)
unfolding segment block
segment-pre true f m = ap (λ (l : List ℕ). marker f m ∷ marker f m ∷ l) (sym (append_assoc m (check m ∷ []) (ending m)))
segment-pre false f m = sym (append_assoc m (check m ∷ []) (ending m))

-- a written segment is read, and it ends where it was written, with nothing behind it if it is the last
clean_reads : (marked : Bool) (f : ℕ) (m r ks : List ℕ) → 2 ≤ length m → Below 4 m → Final ks r → Sees marked m ks (segment marked f m ++ r) (size marked (length m))
clean_reads marked f m r ks two small last =
    let v = (m ++ check m ∷ []) ++ ending m in
    let t = message_edit m two small r None tt (λ q. q) in
    let whole : pre marked f m ++ (v ++ r) ≡ segment marked f m ++ r = sym (append_assoc (pre marked f m) v r) ∙ ap (λ (l : List ℕ). l ++ r) (sym (segment-pre marked f m)) in
    let long : length (pre marked f m ++ v) ≡ size marked (length m) = ap length (sym (segment-pre marked f m)) ∙ length-segment marked f m in
    rw (← whole, ← long) (reads_settled m marked f ks v r t.shift t.settles t.size_is last)

-- its message is read
pub clean_read_message : (marked : Bool) (f : ℕ) (m r : List ℕ) → 2 ≤ length m → Below 4 m → read_message marked (length m) (segment marked f m ++ r) ≡ message m
clean_read_message marked f m r two small = (clean_reads marked f m r (0 ∷ []) two small (λ q. absurd (cons≢nil q))).reads.read_message_is

-- it is read with no edit, whatever letters its symbols were
pub clean_read : (marked : Bool) (f : ℕ) (m r ks letters : List ℕ) → 2 ≤ length m → Below 4 m → Final ks r → length letters ≡ length (segment marked f m ++ r) → read_segment marked f (length m) ks (segment marked f m ++ r) letters ≡ read m None (size marked (length m))
unfolding read_segment judged
clean_read marked f m r ks letters two small last same =
    let w = segment marked f m in
    let g = clean_reads marked f m r ks two small last in
    let end = Sees-end marked m ks (w ++ r) letters (size marked (length m)) g same in
    rw (g.reads.read_message_is, end, take_at w r (size marked (length m)) (length-segment marked f m), same_refl w)
