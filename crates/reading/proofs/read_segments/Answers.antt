use mathlib.Core.Path.{subst}
use native.Mathlib.Omega.{arith}
use borrow.Author.Rules.{rules}
use lib.ListN.{length-drop}
use Rattle.reading.proofs.Walk.{Walk, part_all, lengths_left, Walk-begin, walk_room, walk_asks, walk_Numbered, walk_piece, walk_known, walk_number, Walk-turn, Walk-end}
use Rattle.reading.proofs.read_segments.Goals as goal

pub loop-i-init : goal.loop-i-init
loop-i-init c =
    let a = c.args in
    Walk-begin a.lengths.now a.strand.now a.symbols.now a.verdicts.now a.ends.now c.requires.lengths c.requires.lent.0 c.requires.lent.1 c.requires.lent.2

pub slice_bounds-read_segment-end : goal.slice_bounds-read_segment-end
slice_bounds-read_segment-end c =
    let a = c.args in
    let l = c.loop-i in
    let first = lengths_left a.lengths.now l.i c.loop-i-test.true in
    let room = walk_room a.lengths.now a.strand.now _ _ _ _ _ _ _ _ l.invariant _ _ first in
    search rules

pub read_segment-answer-requires : goal.read_segment-answer-requires
read_segment-answer-requires c =
    let a = c.args in
    let l = c.loop-i in
    let first = lengths_left a.lengths.now l.i c.loop-i-test.true in
    let asked = walk_asks a.lengths.now a.strand.now _ _ _ _ _ _ _ _ l.invariant _ _ first in
    record { message = (asked.0, asked.1); known = (asked.2, l.invariant.marked) }

pub number_of-number-requires : goal.number_of-number-requires
number_of-number-requires c =
    let a = c.args in
    let l = c.loop-i in
    let first = lengths_left a.lengths.now l.i c.loop-i-test.true in
    let g = c.read_segment-answer in
    walk_Numbered a.lengths.now a.strand.now _ _ _ _ _ _ _ _ l.invariant _ _ first _ g.result g.ensures

-- the piece lies inside the letters
pub slice_bounds-said_of-count : goal.slice_bounds-said_of-count
slice_bounds-said_of-count c =
    let a = c.args in
    let l = c.loop-i in
    let first = lengths_left a.lengths.now l.i c.loop-i-test.true in
    let g = c.read_segment-answer in
    (walk_piece a.lengths.now a.strand.now _ _ _ _ _ _ _ _ l.invariant _ _ first _ g.result g.ensures _ c.place-end.ensures).0

-- the piece lies inside the letters
pub slice_bounds-said_of-start : goal.slice_bounds-said_of-start
slice_bounds-said_of-start c =
    let a = c.args in
    let l = c.loop-i in
    let first = lengths_left a.lengths.now l.i c.loop-i-test.true in
    let g = c.read_segment-answer in
    (walk_piece a.lengths.now a.strand.now _ _ _ _ _ _ _ _ l.invariant _ _ first _ g.result g.ensures _ c.place-end.ensures).0

pub slice_bounds-said_of-end : goal.slice_bounds-said_of-end
slice_bounds-said_of-end c =
    let a = c.args in
    let l = c.loop-i in
    let first = lengths_left a.lengths.now l.i c.loop-i-test.true in
    let g = c.read_segment-answer in
    (walk_piece a.lengths.now a.strand.now _ _ _ _ _ _ _ _ l.invariant _ _ first _ g.result g.ensures _ c.place-end.ensures).1

pub said_of-requires : goal.said_of-requires
said_of-requires c =
    let a = c.args in
    let l = c.loop-i in
    let first = lengths_left a.lengths.now l.i c.loop-i-test.true in
    let g = c.read_segment-answer in
    let e = c.place-end.ensures in
    record { number = walk_number a.lengths.now a.strand.now _ _ _ _ _ _ _ _ l.invariant _ _ first _ g.result g.ensures _ e _ c.number_of-number.ensures; unknown = walk_known a.lengths.now a.strand.now _ _ _ _ _ _ _ _ l.invariant _ _ first _ g.result g.ensures _ e a.unknown c.requires.unknown }

pub loop-i-preserved : goal.loop-i-preserved
loop-i-preserved c =
    let a = c.args in
    let l = c.loop-i in
    let first = lengths_left a.lengths.now l.i c.loop-i-test.true in
    let g = c.read_segment-answer in
    subst (Walk a.lengths.now a.strand.now _ _ _ _ _ _ _) (part_all a.lengths.now l.i) (Walk-turn a.lengths.now a.strand.now _ _ _ _ _ _ _ _ l.invariant _ _ first _ g.result g.ensures _ c.place-end.ensures _ c.number_of-number.ensures _ c.said_of.ensures)

pub returns : goal.returns
returns c =
    let a = c.args in
    Walk-end a.lengths.now a.strand.now _ _ _ _ _ _ _ _ c.loop-i.invariant (simp length-drop (omega (arith, c.loop-i-test.false)))
