use Rattle.std.proofs.Common.{◌≡◌, sym, ap, subst, ◌∙◌, arith, List, ℕ, ◌+◌, ◌++◌, ◌<◌, length, take, length-append}
use Rattle.std.proofs.Math.Seq.{take-length}
use native.Mathlib.Numerals.{add-one}
use Rattle.code.specs.declared.Verdict.{Verdict}
use Rattle.text.specs.Put.{Grown}
use Rattle.text.proofs.laws.Put.{Grown-nothing, Grown-both, Grown-length}
use Rattle.lines.specs.Report.{lines_from, segment_line}
use Rattle.report.specs.Walked.{reported_from}
use Rattle.report.proofs.Lines.{lines_next, lines_part}
use Rattle.report.proofs.Outcomes.{reported_count}
use Rattle.report.proofs.put_lines.Goals.{After-reported}
use Rattle.report.proofs.put_lines.Goals as goal

pub loop-i-init : goal.loop-i-init
unfolding lines_from
loop-i-init c = Grown-nothing c.args.out.now

-- the line of the next segment
line : (c : After-reported) → let s = c.args.segments.now in let all = reported_from 0 s.numbers s.ends c.args.letters.now in lines_from 1 (take (c.loop-i.i + 1) all) ≡ lines_from 1 (take c.loop-i.i all) ++ segment_line (c.loop-i.i + 1) c.reported.result
line c =
    let s = c.args.segments.now in
    let all = reported_from 0 s.numbers s.ends c.args.letters.now in
    let i = c.loop-i.i in
    let n : i < length all = omega (arith, c.loop-i-test.true, ap length c.verdicts-i-end.ensures.value, reported_count 0 s.numbers s.ends c.args.letters.now c.requires.reportable) in
    rw (add-one) (lines_next 1 all i n) ∙ (λ j. lines_from 1 (take i all) ++ segment_line ((let e : 1 + i ≡ i + 1 = omega arith in e) j) (sym c.reported.ensures j))

pub put_line-requires : goal.put_line-requires
put_line-requires c =
    let s = c.args.segments.now in
    let all = reported_from 0 s.numbers s.ends c.args.letters.now in
    let l = c.loop-i in
    omega (arith, c.requires.room, Grown-length l.invariant, l.invariant.room, ap length (line c), length-append (lines_from 1 (take l.i all)) (segment_line (l.i + 1) c.reported.result), lines_part 1 all (l.i + 1))

pub loop-i-preserved : goal.loop-i-preserved
loop-i-preserved c = rw (line (goal.at.loop-i-preserved c).After-reported) (Grown-both c.loop-i.invariant c.put_line.ensures)

pub returns : goal.returns
returns c =
    let s = c.args.segments.now in
    let all = reported_from 0 s.numbers s.ends c.args.letters.now in
    let l = c.loop-i in
    let n : l.i ≡ length all = omega (arith, c.loop-i-test.false, ap length c.verdicts-i-end.ensures.value, reported_count 0 s.numbers s.ends c.args.letters.now c.requires.reportable) in
    subst (λ (vs : List Verdict). Grown c.args.out.now (lines_from 1 vs) l.out) (ap (λ (i : ℕ). take i all) n ∙ take-length all) l.invariant
