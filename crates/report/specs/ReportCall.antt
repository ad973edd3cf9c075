-- What the report calls test, answer and write (SPECIFICATION.md, section 7, tables 5 and 6).
--   report_of      the lines of letters, for an order
--   strand_test    the tests of a received strand
--   short_for      test 5 of a report
--   report_test    the tests of a report
--   report_as      a report's answer and its buffer, from its lines
--   report_call    the answer of a report, and the lent buffer afterwards
--   reported_at    what is reported of one segment
--   verdict_call   the same, or the refusal
--   RefusesAlike   a report refuses as a reading does
use Rattle.std.specs.Prelude.{Result, Ok, Err, ◌≡◌, Bool, List, map, ℕ, ◌-◌, ltb, length, get_or}
use Rattle.code.specs.declared.Refusal.{Refusal}
use Rattle.code.specs.declared.Refusal.TheVariants.{ShortBuffer}
use Rattle.code.specs.declared.Verdict.{Verdict}
use Rattle.code.specs.declared.Verdict.TheVariants.{NoStart}
use Rattle.code.specs.Symbols.{decoded}
use Rattle.code.specs.Refusals.{refuse, unless_refused}
use Rattle.code.specs.Limits.{most_bytes, most_segments}
use Rattle.code.specs.Order.{Order}
use Rattle.code.specs.Buffers.{over_front}
use Rattle.code.specs.Sheet.{sheet_bytes}
use Rattle.code.specs.ReadCall.{foreign_test, received_test, read_test, piece_test, outcomes_of}
use Rattle.code.specs.Strands.{Outcome}
use Rattle.lines.specs.Report.{reported, lines_of, most_report}

-- the lines of letters cs, for an order
abbrev pub report_of : Order → List ℕ → List ℕ
report_of o cs = lines_of (outcomes_of o cs)

-- the tests of a received strand: letters cs for an order
abbrev pub strand_test : Order → List ℕ → Result (Unit {0}) Refusal
strand_test o cs = received_test o (length cs) (foreign_test (decoded cs) (Ok tt))

-- a buffer of n bytes is too short for lines
abbrev pub short_for : List ℕ → ℕ → Bool
short_for lines n = ltb n (length lines)

-- the tests of a report: letters cs for an order, and a buffer of n bytes; letters with a foreign byte have no lines, so 6 stands before 5
abbrev pub report_test : Order → List ℕ → ℕ → Result (Unit {0}) Refusal
report_test o cs n =
    received_test o (length cs)
    (foreign_test (decoded cs)
    (refuse (short_for (report_of o cs) n) ShortBuffer (Ok tt)))

-- what a report of lines answers, and leaves in the lent buffer, if nothing is against it
abbrev pub report_as : Result (Unit {0}) Refusal → List ℕ → List ℕ → Result ℕ Refusal × List ℕ
report_as tested lines out = unless_refused tested (Ok (length lines), over_front lines out) (λ r. (Err r, out))

-- what reporting letters cs for an order answers, and the lent buffer afterwards: unchanged where it is refused
abbrev pub report_call : Order → List ℕ → List ℕ → Result ℕ Refusal × List ℕ
report_call o cs out = report_as (report_test o cs (length out)) (report_of o cs) out

-- what is reported of the segment behind the first i
abbrev pub reported_at : List Outcome → ℕ → Verdict
reported_at os i = get_or (map reported os) i NoStart

-- what is reported of segment i, from 1, or the refusal
abbrev pub verdict_call : Order → List ℕ → ℕ → Result Verdict Refusal
verdict_call o cs i = unless_refused (piece_test o cs i) (Ok (reported_at (outcomes_of o cs) (i - 1))) Err

-- with room for every answer a report refuses as a reading does
abbrev pub RefusesAlike : Type 0
RefusesAlike = (o : Order) (cs : List ℕ) → report_test o cs most_report ≡ read_test o cs most_bytes (sheet_bytes most_segments)
