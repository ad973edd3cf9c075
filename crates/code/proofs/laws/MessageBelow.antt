-- Every symbol that a reading gives is below 4, and every mark, whatever symbols were received.
--   read_message-Below  the message of steps 3 to 7
--   messages_Below      all messages of a reading
--   marks_Below         all marks of a reading
use Rattle.std.specs.Prelude.{◌≡◌, refl, Bool, true, false, cond, List, [], ◌∷◌, map, ℕ, zero, suc, ◌-◌, ◌<◌, ltb, length, get_or, take, drop, replicate}
use Rattle.std.proofs.Common.{subst, arith}
use Rattle.std.proofs.Math.Option.{Option, some, none}
use Rattle.code.specs.declared.Edit.TheVariants.{None, Sub, Del, Ins}
use Rattle.code.specs.declared.Link.{Link}
use Rattle.code.specs.declared.Verdict.{Verdict}
use Rattle.code.specs.declared.Verdict.TheVariants.{Read, Unknown, Lost, NoStart}
use Rattle.code.specs.Symbols.{Below, as_symbols}
use Rattle.code.proofs.laws.Letters.{as_Below}
use Rattle.code.proofs.laws.Below.{Below-cons, Below-append, Below-take, Below-drop}
use Rattle.code.specs.Layers.{Word, layer, pair, width, number}
use Rattle.code.proofs.laws.Layers.{pair-Below}
use Rattle.code.specs.Repair.{repair}
use Rattle.code.specs.Segment.{last_of, size, data_at}
use Rattle.code.specs.Layout.{joined}
use Rattle.code.specs.Reading.{Shift, moved, whole, separator_at, after_separator, check_agrees, MessageResult, message, both_layers, repaired, link_of, taken, message_at, message_without, read_whole, read_hit, read_message, SegmentResult, read, read_segment}
use Rattle.code.specs.Sheet.{mark_of, marks_of}
use Rattle.code.specs.Strands.{Try, scan, Outcome, unfound, Scan, lost_and_rest, segment_and_rest, reading, outcomes, messages_of, verdicts_of}
use Rattle.code.proofs.laws.ReadSegment.{read_parts}

-- two layers make symbols
repaired-Below : (l : Link) (t : ℕ) (r w m : List ℕ) → repaired l t r w ≡ message m → Below 4 m
unfolding repaired
repaired-Below l t r w m e = go (ltb (length w) t) (repair l (number (layer 1 (take t w))) (layer 1 r)) (repair l (number (layer 0 (take t w))) (layer 0 r)) e
  where
    go : (b : Bool) (x y : Option Word) → cond b (MessageResult.lost 7) (both_layers x y) ≡ message m → Below 4 m
    go true x y h = let z : ◌≡◌ {A = ℕ} 0 1 = cc in absurd (omega arith)
    go false (some u) (some v) h = let i : pair u v ≡ m = cc in subst (Below 4) i (pair-Below u v)
    go false (some u) none h = let z : ◌≡◌ {A = ℕ} 0 1 = cc in absurd (omega arith)
    go false none (some v) h = let z : ◌≡◌ {A = ℕ} 0 1 = cc in absurd (omega arith)
    go false none none h = let z : ◌≡◌ {A = ℕ} 0 1 = cc in absurd (omega arith)

at_Below : (j : Shift) (k : ℕ) (d m : List ℕ) → Below 4 d → message_at j k d ≡ message m → Below 4 m
unfolding message_at
at_Below j k d m small e = go (taken j k d (take k d)) e
  where
    go : (b : Bool) → cond b (message (take k d)) (repaired (link_of j) (width k) (take (moved j k) d) (after_separator j k d)) ≡ message m → Below 4 m
    go true q = let i : take k d ≡ m = cc in subst (Below 4) i (Below-take k d small)
    go false q = repaired-Below (link_of j) (width k) (take (moved j k) d) (after_separator j k d) m q

without_Below : (k : ℕ) (d m : List ℕ) → Below 4 d → message_without k d ≡ message m → Below 4 m
unfolding message_without
without_Below k d m small e = go (check_agrees k d (take k d)) e
  where
    go : (b : Bool) → cond b (message (take k d)) (MessageResult.lost 6) ≡ message m → Below 4 m
    go true q = let i : take k d ≡ m = cc in subst (Below 4) i (Below-take k d small)
    go false q = let z : ◌≡◌ {A = ℕ} 0 1 = cc in absurd (omega arith)

-- the message of steps 3 to 7 is symbols
pub read_message-Below : (marked : Bool) (k : ℕ) (s m : List ℕ) → Below 4 s → read_message marked k s ≡ message m → Below 4 m
unfolding read_message
read_message-Below marked k s m small e = go (whole marked s) (separator_at k d) e
  where
    d : List ℕ
    d = drop (data_at marked) s

    go : (b : Bool) (o : Option Shift) → cond b (read_whole k d o) (read_hit k s o) ≡ message m → Below 4 m
    go true (some j) q = at_Below j k d m (Below-drop (data_at marked) s small) q
    go true none q = without_Below k d m (Below-drop (data_at marked) s small) q
    go false (some j) q = let i : take k (drop (moved j 2) s) ≡ m = cc in subst (Below 4) i (Below-take k (drop (moved j 2) s) (Below-drop (moved j 2) s small))
    go false none q = let z : ◌≡◌ {A = ℕ} 0 1 = cc in absurd (omega arith)

-- The whole strand

zeros_Below : (k : ℕ) → Below 4 (replicate k 0)
zeros_Below zero = λ i. omega arith
zeros_Below (suc k) = Below-cons 0 (replicate k 0) (omega arith) (zeros_Below k)

unfound-Below : (ks : List ℕ) → Below 4 (messages_of (map unfound ks))
unfolding joined
unfound-Below [] = λ i. omega arith
unfound-Below (k ∷ ks) = Below-append (replicate k 0) (messages_of (map unfound ks)) (zeros_Below k) (unfound-Below ks)

-- the messages of a reading are symbols
reading-Below : (look : Scan) (passed : ℕ) (marked : Bool) (f : ℕ) (ks s letters : List ℕ) → Below 4 s → Below 4 (messages_of (reading look passed marked f ks s letters))
unfolding reading joined
reading-Below look passed marked f [] s letters small = λ i. omega arith
reading-Below look (suc passed) marked f (k ∷ ks) s letters small = Below-append (replicate k 0) _ (zeros_Below k) (reading-Below look passed true f ks s letters small)
reading-Below look zero marked f (k ∷ ks) s letters small = go (read_segment marked f k ks s letters) refl (λ n g o. reading-Below look n true g ks (drop o s) (drop o letters) (Below-drop o s small))
  where
    next : ℕ → ℕ → ℕ → List Outcome
    next n g o = reading look n true g ks (drop o s) (drop o letters)

    Later : Type 0
    Later = (n g o : ℕ) → Below 4 (messages_of (next n g o))

    scanned : (step : ℕ) (x : Option Try) → Later → Below 4 (messages_of (lost_and_rest k ks s letters step next x))
    scanned step (some t) h = Below-append (replicate k 0) _ (zeros_Below k) (h t.passed (get_or s (t.start - 1) 0) t.start)
    scanned step none h = Below-append (replicate k 0) _ (zeros_Below k) (unfound-Below ks)

    go : (r : SegmentResult) → read_segment marked f k ks s letters ≡ r → Later → Below 4 (messages_of (segment_and_rest k ks s letters next (look (size marked k) ks s letters) r))
    go (read m e o) q h = Below-append m _ (read_message-Below marked k s m small (read_parts marked f k ks s letters m e o q).gives) (h 0 (last_of m) o)
    go (SegmentResult.lost step) q h = scanned step (look (size marked k) ks s letters) h

pub messages_Below : (ks letters : List ℕ) → Below 4 (messages_of (outcomes ks letters))
messages_Below ks letters = reading-Below scan 0 false 0 ks (as_symbols letters) letters (as_Below letters)

mark_below : (v : Verdict) → mark_of v < 4
mark_below (Read None) = omega arith
mark_below (Read (Sub i x)) = omega arith
mark_below (Read (Del i x)) = omega arith
mark_below (Read (Ins i x)) = omega arith
mark_below Unknown = omega arith
mark_below (Lost step) = omega arith
mark_below NoStart = omega arith

-- the marks of outcomes fit two bits
pub marks_Below : (os : List Outcome) → Below 4 (marks_of (verdicts_of os))
marks_Below [] = λ i. omega arith
marks_Below (o ∷ os) = Below-cons (mark_of o.verdict) (marks_of (verdicts_of os)) (mark_below o.verdict) (marks_Below os)
