-- How many starts the scans of a reading try: the proof of Starts.antt.
--   in_numbers_lem    how many the most are
--   most_starts_lem   at most 32,319 on 64 segments
--   at_most           no strand makes a reading try more
--   empty_tries       the empty strand makes it try as many
--   same_starts       what is counted and how the reading goes on are of one list
--   none_tried        a strand that keeps the one-edit conditions makes it try none
use Rattle.std.specs.Prelude.{◌≡◌, refl, Bool, true, false, cond, List, [], ◌∷◌, ◌++◌, map, ℕ, suc, ◌+◌, ◌-◌, ◌*◌, ◌≤◌, ◌<◌, eqb, length, get_or, drop}
use Rattle.std.proofs.Common.{ap, arith, ne_eqb, length-append, drop-drop}
use Rattle.std.proofs.Math.Option.{none}
use Rattle.std.proofs.Math.Decide.{dec_le}
use Rattle.std.proofs.Math.Seq.{drop-nil}
use Rattle.code.specs.Symbols.{as_symbols}
use Rattle.code.specs.Layers.{first_power, width}
use Rattle.code.specs.Segment.{segment, size}
use Rattle.code.proofs.laws.Segment.{width_two}
use Rattle.code.specs.Layout.{sum, joined, Lengths, more}
use Rattle.code.specs.Reading.{is_prefix, three_equal, separator_at, check_agrees, message_without, read_message, clean, SegmentResult, read_segment}
use Rattle.code.specs.Sheet.{mark_of, marks_of, count_of}
use Rattle.code.specs.Strands.{window, Try, tries, stands, first_standing, scan, Outcome, lost_outcome, reading, outcomes, verdicts_of}
use Rattle.code.proofs.laws.Demand3.{demand_3}
use Rattle.code.specs.LaterSegments.{place_behind, marked_behind}
use Rattle.code.proofs.laws.LostSegments.{has, has-false, at_loss_lem}
use Rattle.code.proofs.laws.Windows.{full, full_more, full_number, window_most, first_window, length_scan, scan_of_8}
use Rattle.code.proofs.laws.TriedStarts.{gone_through, counted, unfound_tries, counted_segment, counted_most}
use Rattle.code.specs.Starts.{up_to_standing, tried_behind, tried_by, most_starts, SameStarts, AtMost, EmptyTries, not_above, InNumbers, NoneTried}
use Rattle.code.specs.declared.Verdict.{Verdict}
use Rattle.code.specs.declared.Verdict.TheVariants.{Read, Unknown, Lost, NoStart}

-- The most

-- a first segment has 8 letters, or more where its length is above 2
first_far : (k : ℕ) → 2 < k → 8 < size false k
unfolding size
first_far k h = omega (arith, width_two k (omega arith))

first_near : size false 2 ≡ 8
unfolding size width first_power
first_near = refl

-- with the start that is not above P they are all of so many windows
most_full : {most : ℕ} (k : ℕ) (ks : List ℕ) → Lengths most (k ∷ ks) → most_starts (k ∷ ks) + not_above (k ∷ ks) ≡ full (length ks)
unfolding most_starts full tries
most_full k [] (more two m ls) = refl
most_full k (i ∷ ks) (more two m ls) = go (dec_le k 2)
  where
    go : Dec (k ≤ 2) → length (tries 0 (size false k) (i ∷ ks)) + cond (eqb k 2) 1 0 ≡ full (suc (length ks))
    go (yes h) = let e : k ≡ 2 = omega arith in rw (e, first_near) (scan_of_8 i ks ls)
    go (no h) = rw (ne_eqb k 2 (omega arith)) (omega (arith, length_scan (size false k) (i ∷ ks) ls (first_far k (omega arith))))

pub in_numbers_lem : InNumbers
unfolding most_starts
in_numbers_lem most [] ls = refl
in_numbers_lem most (k ∷ ks) ls = let e : suc (length ks) - 1 ≡ length ks = omega arith in rw e (omega (arith, most_full k ks ls, full_number (length ks)))

-- at most 32,319 on 64 segments
pub most_starts_lem : {most : ℕ} (ks : List ℕ) → Lengths most ks → length ks ≤ 64 → most_starts ks ≤ 32319
unfolding most_starts
most_starts_lem [] ls h = omega arith
most_starts_lem (k ∷ ks) ls h = omega (arith, most_full k ks ls, full_more (length ks) 63 (omega arith), full_number 63)

-- such a start is the last of the first window
not_above_lem : (k : ℕ) (ks : List ℕ) → 2 ≤ k → length (window (size false k) 8) + not_above (k ∷ ks) ≤ 17
not_above_lem k [] h = omega (arith, window_most (size false k) 8)
not_above_lem k (i ∷ ks) h = go (dec_le k 2)
  where
    go : Dec (k ≤ 2) → length (window (size false k) 8) + cond (eqb k 2) 1 0 ≤ 17
    go (yes l) = let e : k ≡ 2 = omega arith in rw (e, first_near) (omega (arith, first_window 7))
    go (no l) = rw (ne_eqb k 2 (omega arith)) (omega (arith, window_most (size false k) 8))

-- and one window fewer has fewer starts without it
one_fewer : (k : ℕ) (ks : List ℕ) → full (length ks - 1) + not_above (k ∷ ks) ≤ full (length ks)
unfolding full
one_fewer k [] = omega arith
one_fewer k (i ∷ ks) = let e : suc (length ks) - 1 ≡ length ks = omega arith in rw e (go (eqb k 2))
  where
    go : (b : Bool) → full (length ks) + cond b 1 0 ≤ full (length ks) + (16 * suc (length ks) + 1)
    go true = omega arith
    go false = omega arith

pub at_most : AtMost
unfolding reading tried_by sum most_starts
at_most most [] letters ls = omega arith
at_most most (k ∷ ks) letters (more two m ls) =
    let all = most_full k ks (more two m ls) in
    counted_segment k ks letters false 0 (not_above (k ∷ ks)) (length ks) (most_starts (k ∷ ks)) (omega arith) (not_above_lem k ks two)
    (omega arith)
    (omega arith)
    (λ g o. omega (arith, one_fewer k ks, counted_most 0 g ks (drop o letters) (length ks - 1) ls (omega arith)))
    (λ n g o i l. counted_most n g ks (drop o letters) i ls l)

-- The empty strand

-- its first segment is lost in step 6
empty_lost : (f k : ℕ) (ks : List ℕ) → read_segment false f k ks [] [] ≡ SegmentResult.lost 6
unfolding read_segment read_message separator_at three_equal message_without check_agrees is_prefix
empty_lost f k ks = simp drop-nil

-- nothing stands in it, and all is tried
module _ (t : Try) where
  empty_stands : stands [] [] t ≡ false
  unfolding clean segment is_prefix
  empty_stands = simp drop-nil

empty_up : (ts : List Try) → up_to_standing [] [] ts ≡ ts
unfolding up_to_standing
empty_up [] = refl
empty_up (t ∷ ts) = rw (empty_stands t) (ap (◌∷◌ t) (empty_up ts))

empty_standing : (ts : List Try) → first_standing [] [] ts ≡ none
unfolding first_standing
empty_standing [] = refl
empty_standing (t ∷ ts) = rw (empty_stands t) (empty_standing ts)

pub empty_tries : EmptyTries
unfolding reading tried_by sum most_starts scan as_symbols
empty_tries [] = refl
empty_tries (k ∷ ks) =
    rw (empty_lost 0 k ks, empty_standing (tries 0 (size false k) ks), empty_up (tries 0 (size false k) ks))
    (omega (arith, unfound_tries true ks []))

-- Both of one list

has-true : (ks : List ℕ) → has true ks ≡ true
has-true [] = refl
has-true (k ∷ ks) = refl

-- what is counted behind a segment that stands behind others
tried_at_lem : (earlier later : List Outcome) (o : Outcome) (marked : Bool) (before : List ℕ) (k : ℕ) (behind letters : List ℕ) → length earlier ≡ length before → get_or (tried_by (earlier ++ o ∷ later) marked (before ++ k ∷ behind) letters) (length before) [] ≡ tried_behind o.verdict (size (has marked before) k) behind (drop (place_behind earlier) letters)
unfolding tried_by joined
tried_at_lem [] later o marked [] k behind letters e = refl
tried_at_lem [] later o marked (b ∷ before) k behind letters e = absurd (omega arith)
tried_at_lem (x ∷ earlier) later o marked [] k behind letters e = absurd (omega arith)
tried_at_lem (x ∷ earlier) later o marked (b ∷ before) k behind letters e =
    let h = tried_at_lem earlier later o true before k behind (drop (length x.piece) letters) (omega arith) in
    rw (length-append x.piece (joined (map (λ (y : Outcome). y.piece) earlier)), ← drop-drop (place_behind earlier) (length x.piece) letters)
    (rw (has-true before) at h)

pub same_starts : SameStarts
unfolding scan
same_starts before k behind letters lost =
    let L = drop (place_behind lost.earlier) letters in
    let at = tried_at_lem lost.earlier lost.later (lost_outcome lost.piece k (Lost lost.step)) false before k behind letters lost.as_many in
    let go_on = at_loss_lem k behind lost.piece lost.step lost.later before 0 false 0 letters lost.earlier lost.as_many lost.is in
    (rw (lost.is, at, has-false before) (gone_through (as_symbols L) L (tries 0 (size (marked_behind before) k) behind)), rw (has-false before) at go_on)

-- One edit in each segment

-- nothing is tried behind a segment that is not lost
kept_tries : (v : Verdict) (n : ℕ) (ks letters : List ℕ) → cond {A = ℕ} (eqb (mark_of v) 2) 1 0 ≡ 0 → tried_behind v n ks letters ≡ []
kept_tries (Read e) n ks letters h = refl
kept_tries Unknown n ks letters h = refl
kept_tries (Lost step) n ks letters h = absurd (omega arith)
kept_tries NoStart n ks letters h = refl

-- nor in a reading that loses none
none_lost : (os : List Outcome) (marked : Bool) (ks letters : List ℕ) → count_of 2 (marks_of (verdicts_of os)) ≡ 0 → counted os marked ks letters ≡ 0
unfolding tried_by sum count_of
none_lost [] marked ks letters h = refl
none_lost (o ∷ os) marked [] letters h = refl
none_lost (o ∷ os) marked (k ∷ ks) letters h =
    rw (kept_tries o.verdict (size marked k) ks letters (omega arith)) (omega (arith, none_lost os true ks (drop (length o.piece) letters) (omega arith)))

pub none_tried : NoneTried
none_tried most ks x s m o = none_lost (outcomes ks s) false ks s (demand_3 most ks x s m o).none_lost
