use mathlib.Core.Path.{◌≡◌, sym}
use mathlib.Core.Bool.{true, false}
use Prim.Native.Nat.{◌-◌, ◌+◌, suc}
use native.Mathlib.Omega.{arith}
use lib.ListN.{length}
use Rattle.code.specs.Layers.{layer}
use Rattle.code.proofs.laws.Layers.{length-layer}
use Rattle.code.specs.Repair.{mended}
use Rattle.code.proofs.laws.Repair.{repair_overlarge}
use Rattle.code.specs.declared.Link.TheVariants.{Less}
use Rattle.layers.specs.LayerSums.{shift_of}
use Rattle.repair.proofs.TriedPlaces.{less_begin, less_counted, less_turn, ones_few}
use Rattle.repair.proofs.Repairs.{less_found, less_none}
use Rattle.repair.proofs.repair_less.Goals as goal

pub returns-then-m-written : goal.returns-then-m-written
unfolding mended
returns-then-m-written c =
    let a = c.args in
    let n = length-layer (shift_of a.summed.now.layer) a.summed.now.symbols.now in
    sym (repair_overlarge Less a.written (layer (shift_of a.summed.now.layer) a.summed.now.symbols.now) (omega arith) (omega arith))

pub loop-i-init : goal.loop-i-init
loop-i-init c = let a = c.args in less_begin (shift_of a.summed.now.layer) a.summed.now.symbols.now c.ahead_of-d.result

pub returns-then-ones-d : goal.returns-then-ones-d
unfolding mended
returns-then-ones-d c =
    let a = c.args in
    let m = a.summed.now.symbols.now in
    let n = length-layer (shift_of a.summed.now.layer) m in
    let k = c.loop-i.invariant.counted in
    less_found (layer (shift_of a.summed.now.layer) m) (length m + 1) a.summed.now.sum a.written c.ahead_of-d.result (omega arith) c.args.summed.now.summed c.if-m-written.false c.ahead_of-d.ensures (c.loop-i.i - 1) false (omega arith) (omega arith)

pub overflow_add-ones : goal.overflow_add-ones
overflow_add-ones c = omega (arith, ones_few (shift_of c.args.summed.now.layer) c.args.summed.now.symbols.now (c.loop-i.i - 1) c.loop-i.ones c.loop-i.invariant.counted)

pub overflow_add-ones-in-loop-i : goal.overflow_add-ones-in-loop-i
overflow_add-ones-in-loop-i c = omega (arith, ones_few (shift_of c.args.summed.now.layer) c.args.summed.now.symbols.now (c.loop-i.i - 1) c.loop-i.ones c.loop-i.invariant.counted)

pub returns-then-ones-i : goal.returns-then-ones-i
unfolding mended
returns-then-ones-i c =
    let a = c.args in
    let m = a.summed.now.symbols.now in
    let n = length-layer (shift_of a.summed.now.layer) m in
    let k = c.loop-i.invariant.counted in
    less_found (layer (shift_of a.summed.now.layer) m) (length m + 1) a.summed.now.sum a.written c.ahead_of-d.result (omega arith) c.args.summed.now.summed c.if-m-written.false c.ahead_of-d.ensures (c.loop-i.i - 1) true (omega arith) (omega arith)

pub overflow_add-ones-then-i-gt0 : goal.overflow_add-ones-then-i-gt0
overflow_add-ones-then-i-gt0 c = omega (arith, ones_few (shift_of c.args.summed.now.layer) c.args.summed.now.symbols.now (c.loop-i.i - 1) c.loop-i.ones c.loop-i.invariant.counted)

pub loop-i-preserved-then-i-gt0 : goal.loop-i-preserved-then-i-gt0
loop-i-preserved-then-i-gt0 c =
    let r = layer (shift_of c.args.summed.now.layer) c.args.summed.now.symbols.now in
    let l = c.loop-i in
    let next : suc (l.i - 1) ≡ l.i = omega arith in
    let o = less_counted (shift_of c.args.summed.now.layer) c.args.summed.now.symbols.now c.ahead_of-d.result (l.i - 1) (l.i - 1 - 1) l.ones c.digit-ones.result (omega arith) (omega arith) c.digit-ones.ensures.0 l.invariant.counted in
    less_turn r c.ahead_of-d.result (l.i - 1) l.ones _ (rw next l.invariant) o c.if-ones-d.false c.if-ones-i.false

pub returns : goal.returns
unfolding mended
returns c =
    let a = c.args in
    let m = a.summed.now.symbols.now in
    let n = length-layer (shift_of a.summed.now.layer) m in
    less_none (layer (shift_of a.summed.now.layer) m) (length m + 1) a.summed.now.sum a.written c.ahead_of-d.result (omega arith) c.args.summed.now.summed c.if-m-written.false c.ahead_of-d.ensures
    (λ j b h. c.loop-i.invariant.tried j b (omega arith) h)
