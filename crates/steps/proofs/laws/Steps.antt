-- A step carries the reading on: its outcome, followed by those from the next start.
--   going_step     the outcomes from a start are those of its step
--   step_length    a message has k symbols
--   step_end       the next start is where the piece ends
--   step_piece     the piece is the letters between the two starts
--   step_Numbered  the verdict has a number
use Rattle.std.specs.Prelude.{◌≡◌, Bool, true, List, ◌∷◌, take, drop}
use Rattle.std.proofs.Math.Path.{refl, sym}
use Rattle.std.proofs.Math.Option.{Option, some, none}
use Prim.Native.Nat.{ℕ, zero, suc, ◌+◌, ◌-◌, ◌≤◌, ◌<◌}
use native.Mathlib.Omega.{arith}
use Rattle.std.proofs.Math.ListN.{length, length-drop}
use Rattle.std.proofs.lemmas.List.{length-replicate}
use Rattle.std.proofs.Math.Seq.{drop-drop, length-take-le}
use Rattle.std.proofs.Common.{take_all}
use Rattle.code.proofs.laws.Below.{Below-drop}
use Rattle.code.specs.Bounds.{Length, Received}
use Rattle.code.specs.Segment.{size}
use Rattle.code.specs.Reading.{read_segment}
use Rattle.code.specs.Reading as R
use Rattle.code.proofs.laws.MessageLengths.{read-length}
use Rattle.code.specs.Strands.{Try, scan, Outcome, lost_and_rest, segment_and_rest, reading}
use Rattle.code.specs.Verdicts.{Numbered}
use Rattle.code.proofs.laws.Verdicts.{read-Numbered, told-Numbered, lost_Numbered}
use Rattle.code.specs.declared.Verdict.TheVariants.{Read}
use Rattle.scan.specs.declared.Next.{Next}
use Rattle.scan.specs.declared.Next.TheVariants.{At, Clean, Nowhere}
use Rattle.scan.specs.Scans.{Ahead, start_of, next_place, Known}
use Rattle.steps.specs.Steps.{Step, after_lost, after_one, step_at, step_past, step_of, going}

module _ (marked : Bool) (k : ℕ) (ks s letters : List ℕ) where
  -- the outcomes after a step
  abbrev on : Step → List Outcome
  on t = t.outcome ∷ going t.next true ks s letters

  module _ (f p : ℕ) where
    abbrev S : List ℕ
    S = drop p s

    abbrev L : List ℕ
    L = drop p letters

    after_scan : (step : ℕ) (x : Option Try) → lost_and_rest k ks S L step (λ n g o. reading scan n true g ks (drop o S) (drop o L)) x ≡ on (after_lost k p s letters step x)
    unfolding going
    after_scan step (some t) = rw (drop-drop t.start p s, drop-drop t.start p letters)
    after_scan step none = refl

    after_one_lem : (x : R.SegmentResult) → segment_and_rest k ks S L (λ n g o. reading scan n true g ks (drop o S) (drop o L)) (scan (size marked k) ks S L) x ≡ on (after_one marked k ks p s letters x)
    unfolding going
    after_one_lem (R.SegmentResult.read m e o) = rw (drop-drop o p s, drop-drop o p letters)
    after_one_lem (R.SegmentResult.lost step) = after_scan step (scan (size marked k) ks S L)

    lost_length : (step : ℕ) (x : Option Try) → length (after_lost k p s letters step x).outcome.message ≡ k
    lost_length step (some t) = length-replicate k 0
    lost_length step none = length-replicate k 0

    one_length : 1 ≤ k → length (step_at marked f k ks p s letters).outcome.message ≡ k
    unfolding step_at
    one_length l = go (read_segment marked f k ks S L) refl
      where
        go : (x : R.SegmentResult) → read_segment marked f k ks S L ≡ x → length (after_one marked k ks p s letters x).outcome.message ≡ k
        go (R.SegmentResult.read m e o) q = read-length marked f k ks S L m e o l q
        go (R.SegmentResult.lost step) q = lost_length step (scan (size marked k) ks S L)

  -- the outcomes from a start are those of its step
  pub going_step : (x : Option Ahead) → going x marked (k ∷ ks) s letters ≡ on (step_of x marked k ks s letters)
  unfolding going step_at reading
  going_step (some x) = go x.passed
    where
      go : (n : ℕ) → reading scan n marked x.before (k ∷ ks) (drop x.place s) (drop x.place letters) ≡ on (step_past n x.place x.before marked k ks s letters)
      go zero = after_one_lem x.before x.place (read_segment marked x.before k ks (drop x.place s) (drop x.place letters))
      go (suc n) = refl
  going_step none = refl

  -- a message has k symbols
  pub step_length : (x : Option Ahead) → 1 ≤ k → length (step_of x marked k ks s letters).outcome.message ≡ k
  step_length (some x) l = go x.passed
    where
      go : (n : ℕ) → length (step_past n x.place x.before marked k ks s letters).outcome.message ≡ k
      go zero = one_length x.before x.place l
      go (suc n) = length-replicate k 0
  step_length none l = length-replicate k 0

-- where a start is, n where there is none
abbrev pub start_place : Option Ahead → ℕ → ℕ
start_place (some x) n = x.place
start_place none n = n

pub place_start : (r : Next) (n : ℕ) → next_place r n ≡ start_place (start_of r) n
place_start (At p f) n = refl
place_start (Clean p f passed) n = refl
place_start Nowhere n = refl

pub place_inside : (s letters ks : List ℕ) (r : Next) → Known s letters ks r → start_place (start_of r) (length s) ≤ length s
place_inside s letters ks (At p f) k = k.inside
place_inside s letters ks (Clean p f n) k = k.0.inside
place_inside s letters ks Nowhere k = omega arith

-- The next start is where the piece ends

module _ (marked : Bool) (k : ℕ) (ks s letters : List ℕ) (same : length s ≡ length letters) where
  Ends : ℕ → Step → Type 0
  Ends p t = start_place t.next (length s) ≤ length s → start_place t.next (length s) ≡ p + length t.outcome.piece

  lost_Ends : (p step : ℕ) (x : Option Try) → p ≤ length s → Ends p (after_lost k p s letters step x)
  unfolding Ends
  lost_Ends p step (some t) h l = let o = t.start in let q : length (take o (drop p letters)) ≡ o = length-take-le o (drop p letters) (simp length-drop (omega arith)) in rw q
  lost_Ends p step none h l = simp length-drop (omega arith)

  one_Ends : (f p : ℕ) → p ≤ length s → Ends p (step_at marked f k ks p s letters)
  unfolding Ends step_at
  one_Ends f p h l = go (read_segment marked f k ks (drop p s) (drop p letters)) l
    where
      go : (x : R.SegmentResult) → Ends p (after_one marked k ks p s letters x)
      go (R.SegmentResult.read m e o) l = let q : length (take o (drop p letters)) ≡ o = length-take-le o (drop p letters) (simp length-drop (omega arith)) in rw q
      go (R.SegmentResult.lost step) l = lost_Ends p step (scan (size marked k) ks (drop p s) (drop p letters)) h l

  pub step_end : (x : Option Ahead) → start_place x (length s) ≤ length s → start_place (step_of x marked k ks s letters).next (length s) ≤ length s → start_place (step_of x marked k ks s letters).next (length s) ≡ start_place x (length s) + length (step_of x marked k ks s letters).outcome.piece
  unfolding Ends
  step_end (some x) h l = go x.passed l
    where
      go : (n : ℕ) → Ends x.place (step_past n x.place x.before marked k ks s letters)
      go zero l = one_Ends x.before x.place h l
      go (suc n) l = omega arith
  step_end none h l = omega arith

-- The piece is the letters between the two starts

module _ (marked : Bool) (k : ℕ) (ks s letters : List ℕ) (same : length s ≡ length letters) where
  Between : ℕ → Step → Type 0
  Between p t = t.outcome.piece ≡ take (start_place t.next (length s) - p) (drop p letters)

  lost_Between : (p step : ℕ) (x : Option Try) → Between p (after_lost k p s letters step x)
  unfolding Between
  lost_Between p step (some t) = let o = t.start in let q : p + o - p ≡ o = omega arith in rw q
  lost_Between p step none = sym (take_all (length s - p) (drop p letters) (simp length-drop (omega arith)))

  one_Between : (f p : ℕ) → Between p (step_at marked f k ks p s letters)
  unfolding Between step_at
  one_Between f p = go (read_segment marked f k ks (drop p s) (drop p letters))
    where
      go : (x : R.SegmentResult) → Between p (after_one marked k ks p s letters x)
      go (R.SegmentResult.read m e o) = let q : p + o - p ≡ o = omega arith in rw q
      go (R.SegmentResult.lost step) = lost_Between p step (scan (size marked k) ks (drop p s) (drop p letters))

  pub step_piece : (x : Option Ahead) → (step_of x marked k ks s letters).outcome.piece ≡ take (start_place (step_of x marked k ks s letters).next (length s) - start_place x (length s)) (drop (start_place x (length s)) letters)
  unfolding Between
  step_piece (some x) = go x.passed
    where
      go : (n : ℕ) → Between x.place (step_past n x.place x.before marked k ks s letters)
      go zero = one_Between x.before x.place
      go (suc n) = let q : x.place - x.place ≡ 0 = omega arith in rw q
  step_piece none = let q : length s - length s ≡ 0 = omega arith in rw q

-- Verdicts as numbers

module _ (marked : Bool) (k : ℕ) (ks s letters : List ℕ) (received : Received s) (fits : Length k) where
  NumberedStep : Step → Type 0
  NumberedStep t = Numbered t.outcome.verdict

  lost_step_numbered : (p step : ℕ) (x : Option Try) → step < 16 → NumberedStep (after_lost k p s letters step x)
  unfolding NumberedStep
  lost_step_numbered p step (some t) h = h
  lost_step_numbered p step none h = h

  one_numbered : (f p : ℕ) → NumberedStep (step_at marked f k ks p s letters)
  unfolding NumberedStep step_at
  one_numbered f p = go (read_segment marked f k ks (drop p s) (drop p letters)) refl
    where
      go : (x : R.SegmentResult) → read_segment marked f k ks (drop p s) (drop p letters) ≡ x → NumberedStep (after_one marked k ks p s letters x)
      go (R.SegmentResult.read m e o) q = told-Numbered (Read e) (take o (drop p letters)) (read-Numbered marked f k ks (drop p s) (drop p letters) m e o (Below-drop p s received.symbols) (omega arith) fits.1 q)
      go (R.SegmentResult.lost step) q = lost_step_numbered p step (scan (size marked k) ks (drop p s) (drop p letters)) (lost_Numbered marked f k ks (drop p s) (drop p letters) step q)

  -- the verdict has a number
  pub step_Numbered : (x : Option Ahead) → Numbered (step_of x marked k ks s letters).outcome.verdict
  unfolding NumberedStep
  step_Numbered (some x) = go x.passed
    where
      go : (n : ℕ) → NumberedStep (step_past n x.place x.before marked k ks s letters)
      go zero = one_numbered x.before x.place
      go (suc n) = tt
  step_Numbered none = tt
