-- Laws of verdicts as numbers: a number gives its verdict back, and every verdict of a reading has one.
--   verdict_back       the verdict of its number
--   mark_back          its mark, whatever the number holds besides
--   marks_back         the marks of verdicts that stand as numbers
--   number_fits        a number fits 24 bits
--   judged-Numbered    the edit that step 9 names
--   read-Numbered      what is said of a segment that is read
--   told-Numbered      what is said of its piece
--   lost_Numbered      the step that loses a segment
--   AllNumbered        verdicts that their numbers give back
--   outcomes_numbered  those of a reading
--   verdicts_back      the numbers of a reading's verdicts give the verdicts back
use Rattle.std.proofs.Math.Path.{◌≡◌, subst}
use Rattle.std.specs.Prelude.{refl, List, [], ◌∷◌, map, length, get_or, take, drop}
use Rattle.std.proofs.Math.Bool.{Bool, true, false, cond}
use Rattle.std.proofs.Math.Option.{Option, some, none}
use Prim.Native.Nat.{ℕ, zero, suc, ◌+◌, ◌-◌, ◌/◌, ◌%◌, ◌^◌, ◌≤◌, ◌<◌}
use Rattle.std.proofs.Common.{arith}
use Rattle.code.specs.declared.Edit.{Edit}
use Rattle.code.specs.declared.Edit.TheVariants.{None, Sub, Del, Ins}
use Rattle.code.specs.declared.Verdict.{Verdict}
use Rattle.code.specs.declared.Verdict.TheVariants.{Read, Unknown, Lost, NoStart}
use Rattle.code.specs.Symbols.{Below, as_symbols, has_unknown}
use Rattle.code.proofs.laws.Letters.{as_Below}
use Rattle.code.proofs.laws.Below.{Below-take, Below-drop}
use Rattle.code.proofs.laws.Layers.{width-Least}
use Rattle.code.specs.Segment.{segment, last_of, size}
use Rattle.code.proofs.laws.Segment.{length-segment, segment-Below}
use Rattle.code.specs.Layout.{Lengths, done, more}
use Rattle.code.specs.Bounds.{longest, reach}
use Rattle.code.specs.Verdicts.{numbered, verdict_number, verdict_of, Numbered}
use Rattle.code.specs.Edits.{applied, same, first_edit, judged}
use Rattle.code.specs.Reading.{MessageResult, message, read_message, end_of, SegmentResult, read, with_edit, with_end, with_message, read_segment}
use Rattle.code.specs.Sheet.{mark_of, marks_of}
use Rattle.code.specs.Strands.{Try, scan, told, Outcome, unfound, Scan, lost_and_rest, segment_and_rest, reading, outcomes, verdicts_of}
use Rattle.code.proofs.laws.ReadSegment.{read_parts}
use Rattle.code.proofs.laws.MessageLengths.{read-length}
use Rattle.code.proofs.laws.MessageBelow.{read_message-Below}
use Rattle.code.proofs.laws.LostSteps.{KnownStep, read_message_stepped}

-- A number and its verdict

-- the kind, the symbol and the place of a number
parts : (kind x i : ℕ) → kind < 8 → x < 16 → (numbered kind x i % 8 ≡ kind) × (numbered kind x i / 8 % 16 ≡ x) × (numbered kind x i / 128 ≡ i)
parts kind x i h l = (omega arith, omega arith, omega arith)

kind_of_lem : (kind x i : ℕ) → kind < 8 → numbered kind x i % 8 ≡ kind
kind_of_lem kind x i h = omega arith

-- a number gives its verdict back
pub verdict_back : (v : Verdict) → Numbered v → verdict_of (verdict_number v) ≡ v
verdict_back (Read None) h = refl
verdict_back (Read (Sub i x)) h = let p = parts 2 x i (omega arith) h.1 in rw (p.0, p.1, p.2)
verdict_back (Read (Del i x)) h = let p = parts 3 x i (omega arith) h.1 in rw (p.0, p.1, p.2)
verdict_back (Read (Ins i x)) h = let p = parts 4 x i (omega arith) h.1 in rw (p.0, p.1, p.2)
verdict_back Unknown h = refl
verdict_back (Lost step) h = let p = parts 5 step 0 (omega arith) h in rw (p.0, p.1)
verdict_back NoStart h = refl

-- a number gives the mark of its verdict, whatever symbol or step it holds
pub mark_back : (v : Verdict) → mark_of (verdict_of (verdict_number v)) ≡ mark_of v
mark_back (Read None) = refl
mark_back (Read (Sub i x)) = rw (kind_of_lem 2 x i (omega arith))
mark_back (Read (Del i x)) = rw (kind_of_lem 3 x i (omega arith))
mark_back (Read (Ins i x)) = rw (kind_of_lem 4 x i (omega arith))
mark_back Unknown = refl
mark_back (Lost step) = rw (kind_of_lem 5 step 0 (omega arith))
mark_back NoStart = refl

pub marks_back : (vs : List Verdict) → marks_of (map verdict_of (map verdict_number vs)) ≡ marks_of vs
marks_back [] = refl
marks_back (v ∷ vs) = rw (mark_back v, marks_back vs)

-- a number fits 24 bits
pub number_fits : (v : Verdict) → Numbered v → verdict_number v < 2 ^ 24
number_fits (Read None) h = omega arith
number_fits (Read (Sub i x)) h = omega (arith, h.0, h.1)
number_fits (Read (Del i x)) h = omega (arith, h.0, h.1)
number_fits (Read (Ins i x)) h = omega (arith, h.0, h.1)
number_fits Unknown h = omega arith
number_fits (Lost step) h = omega arith
number_fits NoStart h = omega arith

-- The edit that step 9 names

module _ (w v : List ℕ) (w4 : Below 4 w) (v4 : Below 4 v) where
  first_Numbered : (i n : ℕ) (e : Edit) → i + n ≤ reach → first_edit w v i n ≡ some e → Numbered (Read e)
  unfolding first_edit
  first_Numbered i zero e h q = let z : ◌≡◌ {A = ℕ} 0 1 = cc in absurd (omega arith)
  first_Numbered i (suc n) e h q = go (turns sub_at) (turns del_at) (turns ins_at) q (λ r. first_Numbered (suc i) n e (omega arith) r)
    where
      turns : Edit → Bool
      turns d = same (applied d w) v

      sub_at : Edit
      sub_at = Sub i (get_or v i 0)

      del_at : Edit
      del_at = Del i (get_or w i 0)

      ins_at : Edit
      ins_at = Ins i (get_or v i 0)

      found : (d : Edit) → Numbered (Read d) → some d ≡ some e → Numbered (Read e)
      found d t r = let y : d ≡ e = cc in subst (λ (x : Edit). Numbered (Read x)) y t

      go : (a b c : Bool) → cond a (some sub_at) (cond b (some del_at) (cond c (some ins_at) (first_edit w v (suc i) n))) ≡ some e → (first_edit w v (suc i) n ≡ some e → Numbered (Read e)) → Numbered (Read e)
      go true b c r next = found sub_at (omega arith, omega (arith, v4 i)) r
      go false true c r next = found del_at (omega arith, omega (arith, w4 i)) r
      go false false true r next = found ins_at (omega arith, omega (arith, v4 i)) r
      go false false false r next = next r

  pub judged-Numbered : (e : Edit) → suc (length w) ≤ reach → judged w v ≡ some e → Numbered (Read e)
  unfolding judged
  judged-Numbered e h q = go (same w v) q
    where
      go : (b : Bool) → cond b (some None) (first_edit w v 0 (suc (length w))) ≡ some e → Numbered (Read e)
      go true r = let y : None ≡ e = cc in subst (λ (x : Edit). Numbered (Read x)) y tt
      go false r = first_Numbered 0 (suc (length w)) e (omega arith) r

-- One segment

-- a segment's places are within reach
size_within : (marked : Bool) (k : ℕ) → k ≤ longest → suc (size marked k) ≤ reach
unfolding size
size_within true k h = omega (arith, (width-Least k).least 9 (omega arith))
size_within false k h = omega (arith, (width-Least k).least 9 (omega arith))

-- what is said of a segment that is read
pub read-Numbered : (marked : Bool) (f k : ℕ) (ks s letters m : List ℕ) (e : Edit) (o : ℕ) → Below 4 s → 1 ≤ k → k ≤ longest → read_segment marked f k ks s letters ≡ read m e o → Numbered (Read e)
read-Numbered marked f k ks s letters m e o small some_symbols short t =
    let n : length m ≡ k = read-length marked f k ks s letters m e o some_symbols t in
    let room : suc (length (segment marked f m)) ≤ reach = rw (length-segment marked f m, n) (size_within marked k short) in
    let parts = read_parts marked f k ks s letters m e o t in
    let below = read_message-Below marked k s m small parts.gives in
    judged-Numbered (segment marked f m) (take o s) (segment-Below marked f m below) (Below-take o s small) e room parts.named

-- the step that loses a segment
pub lost_Numbered : (marked : Bool) (f k : ℕ) (ks s letters : List ℕ) (step : ℕ) → read_segment marked f k ks s letters ≡ SegmentResult.lost step → Numbered (Lost step)
unfolding read_segment
lost_Numbered marked f k ks s letters step t = go (read_message marked k s) (read_message_stepped marked k s) t
  where
    judging : (m : List ℕ) (o : ℕ) (j : Option Edit) → with_edit m o j ≡ SegmentResult.lost step → step < 16
    judging m o (some d) q = let z : ◌≡◌ {A = ℕ} 0 1 = cc in absurd (omega arith)
    judging m o none q = let e : 9 ≡ step = cc in omega arith

    ending : (m : List ℕ) (p : Option ℕ) → with_end marked f s m p ≡ SegmentResult.lost step → step < 16
    ending m (some o) q = judging m o (judged (segment marked f m) (take o s)) q
    ending m none q = let e : 8 ≡ step = cc in omega arith

    go : (g : MessageResult) → KnownStep g → with_message marked f k ks s letters g ≡ SegmentResult.lost step → step < 16
    go (message m) h q = ending m (end_of marked k ks s letters m) q
    go (MessageResult.lost n) h q = let e : n ≡ step = cc in omega arith

-- The whole strand

-- verdicts that their numbers give back
abbrev pub AllNumbered : List Verdict → Type 0
AllNumbered [] = Unit {0}
AllNumbered (v ∷ vs) = Numbered v × AllNumbered vs

unfound_numbered : (ks : List ℕ) → AllNumbered (verdicts_of (map unfound ks))
unfound_numbered [] = tt
unfound_numbered (k ∷ ks) = (tt, unfound_numbered ks)

-- so is what is said of its piece
pub told-Numbered : (v : Verdict) (piece : List ℕ) → Numbered v → Numbered (told v piece)
told-Numbered (Read None) piece h = go (has_unknown piece)
  where
    go : (b : Bool) → Numbered (cond b Unknown (Read None))
    go true = tt
    go false = tt
told-Numbered (Read (Sub i x)) piece h = h
told-Numbered (Read (Del i x)) piece h = h
told-Numbered (Read (Ins i x)) piece h = h
told-Numbered Unknown piece h = h
told-Numbered (Lost step) piece h = h
told-Numbered NoStart piece h = h

reading_numbered : (look : Scan) (passed : ℕ) (marked : Bool) (f : ℕ) (ks s letters : List ℕ) → Below 4 s → Lengths longest ks → AllNumbered (verdicts_of (reading look passed marked f ks s letters))
unfolding reading
reading_numbered look passed marked f [] s letters small done = tt
reading_numbered look (suc passed) marked f (k ∷ ks) s letters small (more two short ls) = (tt, reading_numbered look passed true f ks s letters small ls)
reading_numbered look zero marked f (k ∷ ks) s letters small (more two short ls) =
    go (read_segment marked f k ks s letters) refl (λ n g o. reading_numbered look n true g ks (drop o s) (drop o letters) (Below-drop o s small) ls)
  where
    next : ℕ → ℕ → ℕ → List Outcome
    next n g o = reading look n true g ks (drop o s) (drop o letters)

    Later : Type 0
    Later = (n g o : ℕ) → AllNumbered (verdicts_of (next n g o))

    scanned : (step : ℕ) (x : Option Try) → step < 16 → Later → AllNumbered (verdicts_of (lost_and_rest k ks s letters step next x))
    scanned step (some t) l h = (l, h t.passed (get_or s (t.start - 1) 0) t.start)
    scanned step none l h = (l, unfound_numbered ks)

    go : (r : SegmentResult) → read_segment marked f k ks s letters ≡ r → Later → AllNumbered (verdicts_of (segment_and_rest k ks s letters next (look (size marked k) ks s letters) r))
    go (read m e o) q h = (told-Numbered (Read e) (take o letters) (read-Numbered marked f k ks s letters m e o small (omega arith) short q), h 0 (last_of m) o)
    go (SegmentResult.lost step) q h = scanned step (look (size marked k) ks s letters) (lost_Numbered marked f k ks s letters step q) h

-- every verdict of a reading has a number
pub outcomes_numbered : (ks letters : List ℕ) → Lengths longest ks → AllNumbered (verdicts_of (outcomes ks letters))
outcomes_numbered ks letters lengths = reading_numbered scan 0 false 0 ks (as_symbols letters) letters (as_Below letters) lengths

all_back : (vs : List Verdict) → AllNumbered vs → map verdict_of (map verdict_number vs) ≡ vs
all_back [] h = refl
all_back (v ∷ vs) h = rw (verdict_back v h.0, all_back vs h.1)

-- the numbers of a reading's verdicts give the verdicts back
pub verdicts_back : (ks letters : List ℕ) → Lengths longest ks → map verdict_of (map verdict_number (verdicts_of (outcomes ks letters))) ≡ verdicts_of (outcomes ks letters)
verdicts_back ks letters lengths = all_back (verdicts_of (outcomes ks letters)) (outcomes_numbered ks letters lengths)
