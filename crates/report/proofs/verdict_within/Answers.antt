use Rattle.std.proofs.Common.{◌≡◌, ap, ◌∙◌, arith, le-ltb, Ok, false, List, ℕ, length}
use Rattle.code.specs.Strands.{outcomes}
use Rattle.code.proofs.laws.ReadCall.{received_fine, piece_fine}
use Rattle.std.specs.Prelude.{get_or}
use Rattle.code.specs.Refusals.{outside}
use Rattle.code.specs.ReadCall.{piece_test}
use Rattle.code.specs.declared.Verdict.{Verdict}
use Rattle.code.specs.declared.Verdict.TheVariants.{NoStart}
use Rattle.report.specs.ReportCall.{reported_at}
use Rattle.report.specs.Walked.{reported_from}
use Rattle.report.proofs.Outcomes.{reports_are, reportable, numbers_count}
use Rattle.report.proofs.verdict_within.Goals as goal

pub reported-requires-clause-reportable : goal.reported-requires-clause-reportable
reported-requires-clause-reportable g c =
    let s = c.read-segments in
    rw c.numbers.ensures.value
    (reportable c.args.order.now (received_fine c.args.order.now (length c.args.letters.now) c.requires.received).0 c.args.letters.now c.in_ok-letters.letters s.result.numbers s.result.ends c.in_ok-letters.ensures.ok.0 s.ensures.numbers s.ensures.places)

pub reported-requires-clause-there : goal.reported-requires-clause-there
reported-requires-clause-there g c =
    let s = c.read-segments in
    omega (arith, c.in_ok-i.ensures.ok.2, numbers_count c.args.order.now (received_fine c.args.order.now (length c.args.letters.now) c.requires.received).0 c.args.letters.now c.in_ok-letters.letters s.result.numbers s.result.ends c.in_ok-letters.ensures.ok.0 s.ensures.numbers s.ensures.places)

pub returns : goal.returns
returns g c =
    let o = c.args.order.now in
    let cs = c.args.letters.now in
    let n = c.args.segment in
    let i = c.in_ok-i.ensures.ok in
    let l = c.in_ok-letters in
    let s = c.read-segments in
    let such : outside 1 (length o.lengths) n ≡ false = rw (le-ltb n 1 i.0, le-ltb (length o.lengths) n (omega (arith, i.0, i.1, i.2))) in
    let t : piece_test o cs n ≡ Ok tt = piece_fine o cs c.requires.received n _ l.ensures.ok.1 such in
    let v : c.reported.result ≡ reported_at (outcomes o.lengths l.letters) c.in_ok-i.i =
    c.reported.ensures
    ∙ ap (λ (ns : List ℕ). get_or (reported_from 0 s.result.numbers s.result.ends ns) c.in_ok-i.i NoStart) c.numbers.ensures.value
    ∙ ap (λ (vs : List Verdict). get_or vs c.in_ok-i.i NoStart) (reports_are o (received_fine c.args.order.now (length c.args.letters.now) c.requires.received).0 cs l.letters s.result.numbers s.result.ends l.ensures.ok.0 s.ensures.numbers s.ensures.places) in
    rw t (λ j. Ok ((v ∙ (λ k. reported_at (outcomes o.lengths (l.ensures.ok.0 k)) (i.1 k))) j))
