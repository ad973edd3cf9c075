use Rattle.std.proofs.Common.{sym, ◌∙◌, arith, []}
use Rattle.code.specs.Order.{order}
use Rattle.pieces.proofs.Calls.{refused_located, placed}
use Rattle.pieces.proofs.piece.Goals as goal

pub slice_bounds-result-count : goal.slice_bounds-result-count
slice_bounds-result-count c =
    let a = c.args in
    let p = placed (order a.lengths.now a.b) a.letters.now a.segment c.in-Ok.span (sym c.locate.ensures ∙ c.in-Ok.is) in
    omega arith

pub slice_bounds-result-end : goal.slice_bounds-result-end
slice_bounds-result-end c =
    let a = c.args in
    let p = placed (order a.lengths.now a.b) a.letters.now a.segment c.in-Ok.span (sym c.locate.ensures ∙ c.in-Ok.is) in
    omega arith

pub returns-in-Err : goal.returns-in-Err
returns-in-Err c =
    let a = c.args in
    let t = refused_located (order a.lengths.now a.b) a.letters.now a.segment _ (sym c.locate.ensures ∙ c.in-Err.is) in
    rw t (λ i. ([], (c.from.ensures i, c.place.ensures i)))

pub returns-in-Ok : goal.returns-in-Ok
returns-in-Ok c =
    let a = c.args in
    let p = placed (order a.lengths.now a.b) a.letters.now a.segment c.in-Ok.span (sym c.locate.ensures ∙ c.in-Ok.is) in
    rw p.tested (λ i. (p.letters i, (0, 0)))
