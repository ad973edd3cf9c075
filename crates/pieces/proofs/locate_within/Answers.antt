use Rattle.std.proofs.Common.{◌≡◌, ap, ◌∙◌, arith, le-ltb, Ok, false, ◌+◌, length}
use Rattle.code.specs.Refusals.{outside}
use Rattle.code.specs.ReadCall.{piece_test, piece_start, piece_length}
use Rattle.code.specs.Strands.{outcomes}
use Rattle.code.proofs.laws.ReadCall.{piece_fine}
use Rattle.reading.proofs.Spans.{ends_count, span_start, span_end}
use Rattle.pieces.proofs.locate_within.Goals as goal

pub span-requires : goal.span-requires
span-requires g c =
    let o = c.args.order.now in
    omega (arith, c.in_ok-i.ensures.ok.2, ends_count o.lengths c.in_ok-letters.letters c.read-segments.result.ends c.read-segments.ensures.places)

pub returns : goal.returns
returns g c =
    let o = c.args.order.now in
    let cs = c.args.letters.now in
    let n = c.args.segment in
    let i = c.in_ok-i.ensures.ok in
    let l = c.in_ok-letters in
    let e = c.read-segments.ensures.places in
    let such : outside 1 (length o.lengths) n ≡ false = rw (le-ltb n 1 i.0, le-ltb (length o.lengths) n (omega (arith, i.0, i.1, i.2))) in
    let t : piece_test o cs n ≡ Ok tt = piece_fine o cs c.requires.received n _ l.ensures.ok.1 such in
    let start = span_start o.lengths l.letters c.read-segments.result.ends e c.in_ok-i.i i.2 ∙ (λ j. piece_start (outcomes o.lengths (l.ensures.ok.0 j)) (i.1 j)) in
    let end = span_end o.lengths l.letters c.read-segments.result.ends e c.in_ok-i.i i.2 ∙ (λ j. piece_start (outcomes o.lengths (l.ensures.ok.0 j)) (i.1 j) + piece_length (outcomes o.lengths (l.ensures.ok.0 j)) (i.1 j)) in
    rw t (ap Ok (c.span.ensures ∙ (λ j. record { start = start j; end = end j })))
