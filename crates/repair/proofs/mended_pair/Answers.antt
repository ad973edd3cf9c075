use mathlib.Core.Path.{◌≡◌, refl, ◌∙◌}
use native.Mathlib.Omega.{arith}
use Prim.Native.Nat.{◌-◌}
use lib.ListN.{length, take, drop, length-take, length-drop, drop_of_length-le}
use lib.Seq.{take_all, length-take-le}
use Rattle.code.specs.Layers.{layer}
use Rattle.code.proofs.laws.Layers.{length-layer}
use Rattle.repair.proofs.Stretches.{put_front, put_rear, rest_few, inside, Places, places, stretch_before, stretch_between, stretch_Behind}
use Rattle.repair.proofs.mended_pair.Goals.{After-max-last}
use Rattle.repair.proofs.mended_pair.Goals as goal

-- where the stretches meet
meet : (c : After-max-last) → let a = c.args in Places a.link (length a.symbols.now) (length a.out.now) a.high.at a.low.at c.min-first.result c.max-last.result
meet c =
    let a = c.args in
    places a.link (length a.symbols.now) (length a.out.now) a.high.at a.low.at c.min.result c.min-first.result c.past.result c.past-2.result c.max.result c.min-2.result c.max-last.result c.requires.room
    (inside a.link (layer 1 a.symbols.now) a.high.at (length a.symbols.now) a.high.bit (length-layer 1 a.symbols.now) (c.requires.high_fits ∙ c.requires.room))
    c.min.ensures c.min-first.ensures c.past.ensures c.past-2.ensures c.max.ensures c.min-2.ensures c.max-last.ensures

pub loop-i-init : goal.loop-i-init
loop-i-init c =
    let p = meet (goal.at.loop-i-init c).After-max-last in
    let a = c.args in
    let l : length (take c.min-first.result a.out.now) ≡ c.min-first.result = length-take-le c.min-first.result a.out.now (omega arith) in
    rw (c.put_symbols.ensures, l, put_front a.symbols.now a.out.now c.min-first.result p.front.2) (stretch_before a.link a.symbols.now a.high a.low (length a.out.now) c.requires.room c.requires.high_fits c.requires.low_fits a.out.now c.min-first.result refl p.front.0 p.front.1 p.front.2 (omega arith))

pub loop-i-preserved : goal.loop-i-preserved
loop-i-preserved c =
    let p = meet (goal.at.loop-i-preserved c).After-max-last in
    let l = c.loop-i in
    let a = c.args in
    stretch_between a.link a.symbols.now a.high a.low (length a.out.now) c.requires.room c.requires.high_fits c.requires.low_fits l.out l.i c.mended_digit-x.result c.mended_digit-y.result (omega arith) (omega arith) l.invariant c.mended_digit-x.ensures.0 c.mended_digit-y.ensures.0

pub slice_bounds-put_symbols-count-2 : goal.slice_bounds-put_symbols-count-2
slice_bounds-put_symbols-count-2 c =
    let p = meet (goal.at.slice_bounds-put_symbols-count-2 c).After-max-last in
    omega (arith, rest_few c.args.link (length c.args.symbols.now) (length c.args.out.now) c.max-last.result c.requires.room p.some)

pub slice_bounds-put_symbols-start-2 : goal.slice_bounds-put_symbols-start-2
slice_bounds-put_symbols-start-2 c = let p = meet (goal.at.slice_bounds-put_symbols-start-2 c).After-max-last in omega (arith, p.end.1)

pub returns : goal.returns
returns c =
    let p = meet (goal.at.returns c).After-max-last in
    let l = c.loop-i in
    let a = c.args in
    let e : l.i ≡ c.max-last.result = omega arith in
    let r = rest_few a.link (length a.symbols.now) (length a.out.now) c.max-last.result c.requires.room p.some in
    let from = length a.symbols.now - (length a.out.now - c.max-last.result) in
    let w = take_all (length a.symbols.now - from) (drop from a.symbols.now) (rw length-drop (omega arith)) in
    let m : length (take (length l.out - c.max-last.result) (drop c.max-last.result l.out)) ≡ length a.out.now - c.max-last.result = simp (length-take, length-drop) (omega arith) in
    let t = drop_of_length-le (drop c.max-last.result l.out) {i = length l.out - c.max-last.result} (rw length-drop (omega arith)) in
    rw c.put_symbols-2.ensures (put_rear a.symbols.now l.out _ _ from c.max-last.result (length a.out.now - c.max-last.result) _ w m t (omega (arith, r)) (omega (arith, p.end.1)) ∙
    stretch_Behind a.link a.symbols.now a.high a.low (length a.out.now) c.requires.room c.requires.high_fits c.requires.low_fits l.out c.max-last.result (omega arith) p.end.1 p.some p.rear (rw e at l.invariant))
