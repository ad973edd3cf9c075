-- A strand that keeps the conditions is read whole: the induction over its segments.
use Rattle.std.specs.Prelude.{◌≡◌, refl, Bool, true, false, cond, List, [], ◌∷◌, map, ℕ, zero, suc, ◌+◌, ◌≤◌, eqb, length, take, drop}
use Rattle.std.proofs.Common.{ap, subst, arith}
use Rattle.std.proofs.Math.Option.{Option, some, none}
use Rattle.code.specs.Symbols.{as_symbols, has_unknown}
use Rattle.code.proofs.laws.Letters.{as_drop}
use Rattle.code.specs.Segment.{segment, last_of}
use Rattle.code.proofs.laws.Layout.{Each}
use Rattle.code.proofs.laws.Layout as L
use Rattle.code.specs.Edits.{judged}
use Rattle.code.proofs.laws.Judged.{judged-none}
use Rattle.code.specs.Reading.{read, read_message, with_message, read_segment}
use Rattle.code.specs.Conditions.{received, Allowed}
use Rattle.code.specs.Sheet.{mark_of, marks_of, count_of}
use Rattle.code.specs.Strands.{told, Outcome, Scan, reading, verdicts_of}
use Rattle.code.proofs.laws.OneSegment.{Proper}
use Rattle.code.proofs.laws.ReceivedSegment.{Step, step}
use Rattle.code.specs.declared.Edit.{Edit}
use Rattle.code.specs.declared.Edit.TheVariants.{None, Sub, Del, Ins}
use Rattle.code.specs.declared.Verdict.TheVariants.{Read, Unknown}

-- an outcome for each message, with the message, and said to be read
pub data Whole : List (List ℕ) → List Outcome → Type 0 where
  end : Whole [] []
  next : {ms : List (List ℕ)} {os : List Outcome} (m : List ℕ) (e : Edit) (p : List ℕ) → Whole ms os → Whole (m ∷ ms) (record { piece = p; message = m; verdict = told (Read e) p } ∷ os)

-- steps 1 to 9 read the segment
one_read : (marked : Bool) (f : ℕ) (m : List ℕ) (ms : List (List ℕ)) (l : List ℕ) (t : Step marked f m ms l) → (e : Edit) × (read_segment marked f (length m) (map length ms) (as_symbols l) l ≡ read m e t.stop)
unfolding read_segment
one_read marked f m ms l t = go (judged (segment marked f m) (take t.stop s)) refl
  where
    s : List ℕ
    s = as_symbols l

    go : (o : Option Edit) → judged (segment marked f m) (take t.stop s) ≡ o → (e : Edit) × (with_message marked f (length m) (map length ms) s l (read_message marked (length m) s) ≡ read m e t.stop)
    go none q = absurd (judged-none (segment marked f m) (take t.stop s) q t.edit t.fits t.piece)
    go (some e) q = (e, rw (t.read_message_is, t.end_is, q))

-- by any scan
pub regained : (look : Scan) (marked : Bool) (f : ℕ) (ms : List (List ℕ)) (es : List Edit) (l : List ℕ) → Each Proper ms → Allowed marked f ms es → received marked f ms es ≡ l → Whole ms (reading look 0 marked f (map length ms) (as_symbols l) l)
unfolding reading
regained look marked f [] [] l ps h q = end
regained look marked f [] (e ∷ es) l ps h q = absurd h
regained look marked f (m ∷ ms) [] l ps h q = absurd h
regained look marked f (m ∷ ms) (e ∷ es) l (L.both p ps) h q =
    let t : Step marked f m ms l = subst (λ (x : List ℕ). Step marked f m ms x) q (step marked f m ms e es p ps h) in
    let r = one_read marked f m ms l t in
    rw (r.1, ← as_drop t.stop l) (next m r.0 (take t.stop l) (regained look true (last_of m) ms t.edits (drop t.stop l) ps t.allowed t.rest))

-- What whole outcomes tell

pub whole_messages : {ms : List (List ℕ)} {os : List Outcome} → Whole ms os → map (λ (o : Outcome). o.message) os ≡ ms
whole_messages end = refl
whole_messages (next m e p w) = ap (λ (l : List (List ℕ)). m ∷ l) (whole_messages w)

-- no mark is 2, and the marks 0 and 1 are those of all segments
pub record Found (n : ℕ) (marks : List ℕ) : Type 0 where
  pub none_lost : count_of 2 marks ≡ 0
  pub all_found : count_of 0 marks + count_of 1 marks ≡ n

-- what is said of a segment that is read counts as clean or corrected
told_mark : (e : Edit) (p : List ℕ) → mark_of (told (Read e) p) ≤ 1
told_mark None p = go (has_unknown p)
  where
    go : (b : Bool) → mark_of (cond b Unknown (Read None)) ≤ 1
    go true = omega arith
    go false = omega arith
told_mark (Sub i x) p = omega arith
told_mark (Del i x) p = omega arith
told_mark (Ins i x) p = omega arith

one_mark : (x : ℕ) → x ≤ 1 → (◌≡◌ {A = ℕ} (cond (eqb x 2) 1 0) 0) × (◌≡◌ {A = ℕ} (cond (eqb x 0) 1 0 + cond (eqb x 1) 1 0) 1)
one_mark zero h = (refl, refl)
one_mark (suc zero) h = (refl, refl)
one_mark (suc (suc x)) h = absurd (omega arith)

pub whole_marks : {ms : List (List ℕ)} {os : List Outcome} → Whole ms os → Found (length ms) (marks_of (verdicts_of os))
unfolding count_of
whole_marks end = record { none_lost = refl; all_found = refl }
whole_marks (next m e p w) =
    let f = whole_marks w in
    let o = one_mark (mark_of (told (Read e) p)) (told_mark e p) in
    record { none_lost = omega (arith, o.0); all_found = omega (arith, o.1) }
