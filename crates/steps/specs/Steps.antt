-- A segment, and where reading goes on.
--   Step              what is found of a segment, and the next start
--   after_lost        the step of a lost segment
--   after_one         the step of a segment that was read or lost
--   step_at           the step of the segment at a start
--   step_of           the same, or that of a segment that is passed, or whose start was not found
--   going             the outcomes of the segments from a start on
--   is_whole          whether the marker at a start is whole
--   message_from      the message at a start
--   step_from         the step of the segment at a start
--   lost_from         the same, where a step loses it
--   AtStart           what is given of a segment
--   CleanAt           a clean segment stands at a start
--   Marked            a known start has a marker
--   standing_answer   the answer of a segment that stands in its place
--   unfound_answer    that of one that is lost for want of a start
--   IsStep            what a call answers of a step, and leaves in the buffer
--   Stepped           the same of the segment at a start
--   SteppedLost       the same of a segment that a step loses
--   SteppedFrom       the same of the next segment, where a start was found
use Rattle.std.specs.Prelude.{◌≡◌, Bool, true, List, map, ℕ, zero, suc, ◌+◌, ◌-◌, ◌≤◌, length, get_or, take, drop}
use Rattle.std.proofs.Math.Option.{Option, some, none}
use Rattle.code.specs.Bounds.{longest, Length}
use Rattle.code.specs.Layers.{width}
use Rattle.code.specs.Segment.{last_of, size}
use Rattle.code.specs.Layout.{Lengths}
use Rattle.code.specs.Reading as R
use Rattle.code.specs.Reading.{message, read_segment}
use Rattle.code.specs.Strands.{Try, scan, told, Outcome, lost_outcome, unfound, reading}
use Rattle.code.specs.declared.Edit.TheVariants.{None}
use Rattle.code.specs.declared.Verdict.TheVariants.{Read, Lost, NoStart}
use Rattle.scan.specs.declared.Next.{Next}
use Rattle.scan.specs.declared.Next.TheVariants.{At, Clean, Nowhere}
use Rattle.scan.specs.Scans.{Ahead, ahead, start_of, Known}
use Rattle.steps.specs.declared.Answer.{Answer}
use Rattle.steps.specs.declared.strand.Strand.{Strand}
use Rattle.steps.specs.declared.strand.Start.{Start}

-- the outcome of a segment, and where reading goes on
pub record Step : Type 0 where
  pub outcome : Outcome
  pub next : Option Ahead

-- a segment of k message symbols at p was lost, and the scan found t, or nothing
abbrev pub after_lost : ℕ → ℕ → List ℕ → List ℕ → ℕ → Option Try → Step
after_lost k p s letters step (some t) =
    let o = t.start in
    record { outcome = lost_outcome (take o (drop p letters)) k (Lost step); next = some (ahead t.passed (p + o) (get_or (drop p s) (o - 1) 0)) }
after_lost k p s letters step none = record { outcome = lost_outcome (drop p letters) k (Lost step); next = none }

-- the step of a segment of k message symbols at p that a step loses; ks are the lengths behind it
abbrev pub lost_at : Bool → ℕ → List ℕ → ℕ → List ℕ → List ℕ → ℕ → Step
lost_at marked k ks p s letters step = after_lost k p s letters step (scan (size marked k) ks (drop p s) (drop p letters))

-- a segment of k message symbols at p was read or lost; ks are the lengths behind it
abbrev pub after_one : Bool → ℕ → List ℕ → ℕ → List ℕ → List ℕ → R.SegmentResult → Step
after_one marked k ks p s letters (R.SegmentResult.read m e o) =
    let piece = take o (drop p letters) in
    record { outcome = record { piece = piece; message = m; verdict = told (Read e) piece }; next = some (ahead 0 (p + o) (last_of m)) }
after_one marked k ks p s letters (R.SegmentResult.lost step) = lost_at marked k ks p s letters step

-- the step of the segment at p, f being the symbol before it
unfoldable pub step_at : Bool → ℕ → ℕ → List ℕ → ℕ → List ℕ → List ℕ → Step
step_at marked f k ks p s letters = after_one marked k ks p s letters (read_segment marked f k ks (drop p s) (drop p letters))

-- the step of the segment at a start, or of one that is passed before it
abbrev pub step_past : ℕ → ℕ → ℕ → Bool → ℕ → List ℕ → List ℕ → List ℕ → Step
step_past zero p f marked k ks s letters = step_at marked f k ks p s letters
step_past (suc n) p f marked k ks s letters = record { outcome = unfound k; next = some (ahead n p f) }

-- the step of the next segment where reading goes on, or of one whose start was not found
abbrev pub step_of : Option Ahead → Bool → ℕ → List ℕ → List ℕ → List ℕ → Step
step_of (some x) marked k ks s letters = step_past x.passed x.place x.before marked k ks s letters
step_of none marked k ks s letters = record { outcome = unfound k; next = none }

-- the outcomes of the segments from where reading goes on, or of those whose start was not found
unfoldable pub going : Option Ahead → Bool → List ℕ → List ℕ → List ℕ → List Outcome
going (some x) marked ks s letters = reading scan x.passed marked x.before ks (drop x.place s) (drop x.place letters)
going none marked ks s letters = map unfound ks

-- the marker of the segment at a start is whole
abbrev pub is_whole : Strand → Start → Bool
is_whole strand start = R.whole start.marked (drop start.at strand.symbols.now)

-- the message of k symbols of the segment at a start
abbrev pub message_from : Strand → Start → ℕ → R.MessageResult
message_from strand start k = R.read_message start.marked k (drop start.at strand.symbols.now)

-- the step of the segment of k message symbols at a start
abbrev pub step_from : Strand → Start → ℕ → List ℕ → Step
step_from strand start k ks = step_at start.marked start.before k ks start.at strand.symbols.now strand.letters.now

-- the same, where `step` loses it
abbrev pub lost_from : Strand → Start → ℕ → List ℕ → ℕ → Step
lost_from strand start k ks step = lost_at start.marked k ks start.at strand.symbols.now strand.letters.now step

-- a segment of k message symbols may start there, and the lengths ks follow
pub record AtStart (strand : Strand) (start : Start) (ks : List ℕ) (k : ℕ) : Type 0 where
  pub inside : start.at ≤ length strand.symbols.now
  pub message : Length k
  pub behind : Lengths longest ks

-- a clean segment of k message symbols stands there, and has a marker
abbrev pub CleanAt : Strand → Start → ℕ → Type 0
CleanAt strand start k = (start.marked ≡ true) × (R.clean k start.before (drop start.at strand.symbols.now) (drop start.at strand.letters.now) ≡ true)

-- a start where a clean segment is known to stand is one behind the first segment
abbrev pub Marked : Next → Bool → Type 0
Marked (At p f) marked = Unit {0}
Marked (Clean p f n) marked = marked ≡ true
Marked Nowhere marked = Unit {0}

-- the answer of a segment that stands in its place, its message of k symbols at d: no edit, and the next one starts behind its syndrome
abbrev pub standing_answer : ℕ → ℕ → List ℕ → Answer
standing_answer k d s = let end = d + k + (4 + width k) in record { verdict = Read None; next = At end (get_or s (end - 1) 0) }

-- the answer of a segment that is lost for want of a start
abbrev pub unfound_answer : Next → Answer
unfound_answer next = record { verdict = NoStart; next = next }

-- r tells next start and verdict of a step, but for what is said of its piece, before the lengths ks, and the buffer has its message
pub record IsStep (t : Step) (strand : Strand) (ks out : List ℕ) (r : Answer) : Type 0 where
  pub verdict : told r.verdict t.outcome.piece ≡ t.outcome.verdict
  pub next : start_of r.next ≡ t.next
  pub message : out ≡ t.outcome.message
  pub known : Known strand.symbols.now strand.letters.now ks r.next

-- r tells the step of the segment at a start, whose message goes from `before` to `after` in the buffer
abbrev pub Stepped : Strand → Start → List ℕ → List ℕ → List ℕ → Answer → Type 0
Stepped strand start ks before after r = IsStep (step_from strand start (length before) ks) strand ks after r

-- r tells the step of the segment at a start, which `step` loses
abbrev pub SteppedLost : Strand → Start → ℕ → List ℕ → List ℕ → List ℕ → Answer → Type 0
SteppedLost strand start step ks before after r = IsStep (lost_from strand start (length before) ks step) strand ks after r

-- r tells the step of the next segment where reading goes on at x
abbrev pub SteppedFrom : Strand → Next → Bool → List ℕ → List ℕ → List ℕ → Answer → Type 0
SteppedFrom strand x marked ks before after r = IsStep (step_of (start_of x) marked (length before) ks strand.symbols.now strand.letters.now) strand ks after r
