use Rattle.std.proofs.Common.{◌≡◌, ap, ◌∙◌, arith, List, ℕ, length}
use Rattle.code.specs.Order.{Taken}
use Rattle.code.specs.Strands.{outcomes}
use Rattle.code.proofs.laws.ReadCall.{received_fine}
use Rattle.code.proofs.laws.Lists.{put_first}
use Rattle.text.proofs.laws.Put.{Grown-first}
use Rattle.lines.specs.Report.{lines_from, lines_of}
use Rattle.report.specs.ReportCall.{report_of}
use Rattle.report.specs.Walked.{reported_from}
use Rattle.report.proofs.Calls.{short_report, whole_report, report_whole}
use Rattle.report.proofs.Outcomes.{reports_are, reportable, reports_room}
use Rattle.report.proofs.write_within.Given.{Over}
use Rattle.report.proofs.write_within.Goals.{After-numbers, After-bytes-bytes}
use Rattle.report.proofs.write_within.Goals as goal

-- the lines that are put are those of the reading
lines : (g : Over) (c : After-numbers g) → Taken c.args.order.now → lines_from 1 (reported_from 0 c.read-segments.result.numbers c.read-segments.result.ends c.numbers.result.now) ≡ lines_of (outcomes c.args.order.now.lengths c.in_ok-letters.letters)
lines g c t =
    let s = c.read-segments in
    let l = c.in_ok-letters in
    rw c.numbers.ensures.value (ap (lines_from 1) (reports_are c.args.order.now t c.args.letters.now l.letters s.result.numbers s.result.ends l.ensures.ok.0 s.ensures.numbers s.ensures.places))

pub put_lines-requires-clause-reportable : goal.put_lines-requires-clause-reportable
put_lines-requires-clause-reportable g c =
    let s = c.read-segments in
    let l = c.in_ok-letters in
    rw c.numbers.ensures.value
    (reportable c.args.order.now (received_fine c.args.order.now (length c.args.letters.now) c.requires.received).0 c.args.letters.now l.letters s.result.numbers s.result.ends l.ensures.ok.0 s.ensures.numbers s.ensures.places)

pub put_lines-requires-clause-room : goal.put_lines-requires-clause-room
put_lines-requires-clause-room g c =
    let o = c.args.order.now in
    let s = c.read-segments in
    let l = c.in_ok-letters in
    let t = (received_fine c.args.order.now (length c.args.letters.now) c.requires.received).0 in
    omega (arith, ap length c.new-lines.ensures.text, c.new-lines.ensures.room, ap length (lines g c t), reports_room o t c.args.letters.now l.letters s.result.numbers s.result.ends l.ensures.ok.0 s.ensures.numbers s.ensures.places)

-- the bytes are the lines of the reading
formed : (g : Over) (c : After-bytes-bytes g) → Taken c.args.order.now → c.bytes-bytes.result.now ≡ report_of c.args.order.now c.args.letters.now
formed g c t =
    let o = c.args.order.now in
    let s = c.read-segments in
    let l = c.in_ok-letters in
    c.bytes-bytes.ensures
    ∙ Grown-first c.new-lines.ensures.text c.put_lines.ensures
    ∙ ap (λ (ns : List ℕ). lines_from 1 (reported_from 0 s.result.numbers s.result.ends ns)) c.numbers.ensures.value
    ∙ ap (lines_from 1) (reports_are o t c.args.letters.now l.letters s.result.numbers s.result.ends l.ensures.ok.0 s.ensures.numbers s.ensures.places)
    ∙ ap (λ (ns : List ℕ). lines_of (outcomes o.lengths ns)) l.ensures.ok.0

pub returns-then-out-n : goal.returns-then-out-n
returns-then-out-n g c =
    let o = c.args.order.now in
    let cs = c.args.letters.now in
    let h = goal.at.returns-then-out-n g c in
    let e = formed g h.After-bytes-bytes (received_fine c.args.order.now (length c.args.letters.now) c.requires.received).0 in
    rw (report_whole o cs c.requires.received (length c.args.out.now) _ c.in_ok-letters.ensures.ok.1)
    (short_report (report_of o cs) c.args.out.now (omega (arith, ap length e, c.if-out-n.true)))

pub returns : goal.returns
returns g c =
    let o = c.args.order.now in
    let cs = c.args.letters.now in
    let h = goal.at.returns g c in
    let e = formed g h.After-bytes-bytes (received_fine c.args.order.now (length c.args.letters.now) c.requires.received).0 in
    rw (report_whole o cs c.requires.received (length c.args.out.now) _ c.in_ok-letters.ensures.ok.1, c.put.ensures, put_first c.args.out.now c.bytes-bytes.result.now, e)
    (whole_report (report_of o cs) c.args.out.now (omega (arith, ap length e, c.if-out-n.false)))
