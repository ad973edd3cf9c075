use native.Mathlib.Omega.{arith}
use lib.ListN.{get_or}
use Rattle.code.proofs.laws.Layout.{Lengths-at}
use Rattle.writer.proofs.Written.{Step, begin, step, turn, end}
use Rattle.writer.proofs.write_layout.Goals.{In-loop-k}
use Rattle.writer.proofs.write_layout.Goals as goal

-- the numbers of the next segment
next : (c : In-loop-k) → Step c.args.symbols.now c.loop-k.out c.loop-k.from c.loop-k.at (get_or c.args.lengths.now c.loop-k.k-index 0) c.loop-k.marked
next c =
    let a = c.args in
    let l = c.loop-k in
    step a.lengths.now a.symbols.now a.out.now l.k-index l.from l.at l.f l.marked l.out l.invariant c.loop-k-test.true c.requires.room.1

pub loop-k-init : goal.loop-k-init
loop-k-init c = let a = c.args in begin a.lengths.now a.symbols.now a.out.now c.requires.room.0

pub overflow_add-to : goal.overflow_add-to
overflow_add-to c = let g = next (goal.at.overflow_add-to c).In-loop-k in omega arith

pub slice_bounds-write_segment-start : goal.slice_bounds-write_segment-start
slice_bounds-write_segment-start c = let g = next (goal.at.slice_bounds-write_segment-start c).In-loop-k in omega arith

pub slice_bounds-write_segment-end : goal.slice_bounds-write_segment-end
slice_bounds-write_segment-end c = let g = next (goal.at.slice_bounds-write_segment-end c).In-loop-k in g.symbols

pub write_segment-f-requires : goal.write_segment-f-requires
write_segment-f-requires c =
    let g = next (goal.at.write_segment-f-requires c).In-loop-k in
    let k = Lengths-at c.args.lengths.now c.loop-k.k-index c.requires.lengths (omega arith) in
    (omega arith, (omega arith, omega arith), rw g.length_part g.room)

pub size_of-at-requires : goal.size_of-at-requires
size_of-at-requires c = let k = Lengths-at c.args.lengths.now c.loop-k.k-index c.requires.lengths (omega arith) in (omega arith, omega arith)

pub overflow_add-at : goal.overflow_add-at
overflow_add-at c = let g = next (goal.at.overflow_add-at c).In-loop-k in omega (arith, c.size_of-at.ensures)

pub loop-k-preserved : goal.loop-k-preserved
loop-k-preserved c =
    let a = c.args in
    let l = c.loop-k in
    let w = c.write_segment-f in
    rw c.size_of-at.ensures
    (turn a.lengths.now a.symbols.now a.out.now l.k-index l.from l.at l.f l.marked l.out l.invariant c.loop-k-test.true c.requires.room.1 _ _ _ (next (goal.at.loop-k-preserved c).In-loop-k).part w.ensures.0 w.ensures.1)

pub shape_of-out : goal.shape_of-out
shape_of-out c = c.loop-k.invariant.room

pub returns : goal.returns
returns c =
    let a = c.args in
    let l = c.loop-k in
    let both = end a.lengths.now a.symbols.now a.out.now l.k-index l.from l.at l.f l.marked l.out l.invariant c.requires.room.0 (omega arith) in record { ends = both.0; written = both.1 }
