use Rattle.std.proofs.Common.{◌≡◌, ap, ◌∙◌, arith, get_or}
use Rattle.code.specs.declared.Span.{Span}
use Rattle.reading.specs.Walks.{start_in}
use Rattle.report.specs.Walked.{reported_from}
use Rattle.report.proofs.Outcomes.{Stands, reported_stands, ends_count}
use Rattle.report.proofs.reported.Goals.{Start, After-span-span}
use Rattle.report.proofs.reported.Goals as goal

-- the segment and its piece
stands : (c : Start) → let s = c.args.segments.now in let l = c.args.letters.now in Stands l (reported_from 0 s.numbers s.ends l) c.args.i (get_or s.numbers c.args.i 0) (start_in s.ends c.args.i) (get_or s.ends c.args.i 0)
stands c = reported_stands c.args.segments.now.numbers c.args.segments.now.ends c.args.letters.now c.args.i c.requires.reportable c.requires.there

starts : (c : After-span-span) → c.span-span.result.start ≡ start_in c.args.segments.now.ends c.args.i
starts c = ap (λ (r : Span). r.start) c.span-span.ensures

stops : (c : After-span-span) → c.span-span.result.end ≡ get_or c.args.segments.now.ends c.args.i 0
stops c = ap (λ (r : Span). r.end) c.span-span.ensures

pub span-span-requires : goal.span-span-requires
span-span-requires c =
    let s = c.args.segments.now in
    omega (arith, c.requires.there, ends_count 0 s.numbers s.ends c.args.letters.now c.requires.reportable)

pub slice_bounds-in_letters-count : goal.slice_bounds-in_letters-count
slice_bounds-in_letters-count c =
    let h = goal.at.slice_bounds-in_letters-count c in
    omega (arith, starts h.After-span-span, stops h.After-span-span, (stands h.Start).starts)

pub slice_bounds-in_letters-start : goal.slice_bounds-in_letters-start
slice_bounds-in_letters-start c =
    let h = goal.at.slice_bounds-in_letters-start c in
    omega (arith, starts h.After-span-span, stops h.After-span-span, (stands h.Start).starts)

pub slice_bounds-in_letters-end : goal.slice_bounds-in_letters-end
slice_bounds-in_letters-end c =
    let h = goal.at.slice_bounds-in_letters-end c in
    omega (arith, starts h.After-span-span, stops h.After-span-span, (stands h.Start).ends)

pub in_letters-requires : goal.in_letters-requires
in_letters-requires c =
    let h = goal.at.in_letters-requires c in
    rw (c.verdicts.ensures.value, starts h.After-span-span, stops h.After-span-span) (stands h.Start).inside

pub returns : goal.returns
returns c =
    let h = goal.at.returns c in
    c.in_letters.ensures ∙ rw (c.verdicts.ensures.value, starts h.After-span-span, stops h.After-span-span) (stands h.Start).is
