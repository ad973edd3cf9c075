use mathlib.Core.Path.{sym, ◌∙◌}
use Prim.Native.Nat.{◌-◌}
use native.Mathlib.Omega.{arith}
use lib.Dec.{eqb}
use lib.ListN.{length}
use Rattle.code.specs.Layers.{layer}
use Rattle.code.proofs.laws.Layers.{length-layer}
use Rattle.code.specs.Repair.{mended}
use Rattle.code.proofs.laws.Repair.{repair_overlarge}
use Rattle.code.specs.declared.Link.TheVariants.{More}
use Rattle.repair.proofs.TriedPlaces.{more_begin, more_few, more_loss, more_turn, ones_few}
use Rattle.repair.proofs.Repairs.{more_found, more_none}
use Rattle.layers.specs.LayerSums.{shift_of}
use Rattle.repair.proofs.repair_more.Goals as goal

pub returns-then-m-written : goal.returns-then-m-written
unfolding mended
returns-then-m-written c =
    let a = c.args in
    let n = length-layer (shift_of a.summed.now.layer) a.summed.now.symbols.now in
    sym (repair_overlarge More a.written (layer (shift_of a.summed.now.layer) a.summed.now.symbols.now) (omega arith) (omega arith))

pub loop-i-init : goal.loop-i-init
unfolding mended
loop-i-init c = let a = c.args in (more_begin (shift_of a.summed.now.layer) a.summed.now.symbols.now c.ahead_of-d.result)

pub overflow_add-ones : goal.overflow_add-ones
unfolding mended
overflow_add-ones c =
    let a = c.args in
    let l = c.loop-i in
    let b = c.digit-b in
    omega (arith, more_few (shift_of a.summed.now.layer) a.summed.now.symbols.now c.ahead_of-d.result l.i (l.i - 1) l.ones b.result (omega arith) (omega arith) b.ensures.0 _ c.place_if_one.ensures l.invariant)

pub returns-then-ones-place_if_one : goal.returns-then-ones-place_if_one
unfolding mended
returns-then-ones-place_if_one c =
    let a = c.args in
    let m = a.summed.now.symbols.now in
    let d = c.ahead_of-d in
    let l = c.loop-i in
    let b = c.digit-b in
    let n = length-layer (shift_of a.summed.now.layer) m in
    more_found (layer (shift_of a.summed.now.layer) m) (length m - 1) a.summed.now.sum a.written d.result (omega arith) (omega arith) c.args.summed.now.summed c.if-m-written.false d.ensures (l.i - 1) (eqb b.result 1) (omega arith)
    (sym (more_loss (shift_of a.summed.now.layer) m d.result l.i (l.i - 1) l.ones b.result (omega arith) (omega arith) b.ensures.0 _ c.place_if_one.ensures l.invariant) ∙ c.if-ones-place_if_one.true)

pub overflow_add-ones-in-loop-i : goal.overflow_add-ones-in-loop-i
unfolding mended
overflow_add-ones-in-loop-i c = let l = c.loop-i in let a = c.args in omega (arith, ones_few (shift_of a.summed.now.layer) a.summed.now.symbols.now l.i l.ones l.invariant.counted)

pub loop-i-preserved : goal.loop-i-preserved
unfolding mended
loop-i-preserved c =
    let a = c.args in
    let l = c.loop-i in
    let b = c.digit-b in
    (more_turn (shift_of a.summed.now.layer) a.summed.now.symbols.now c.ahead_of-d.result l.i (l.i - 1) l.ones b.result (omega arith) (omega arith) b.ensures.0 _ c.place_if_one.ensures l.invariant c.if-ones-place_if_one.false)

pub returns : goal.returns
unfolding mended
returns c =
    let a = c.args in
    let m = a.summed.now.symbols.now in
    let l = c.loop-i in
    let n = length-layer (shift_of a.summed.now.layer) m in
    more_none (layer (shift_of a.summed.now.layer) m) (length m - 1) a.summed.now.sum a.written c.ahead_of-d.result (omega arith) (omega arith) c.args.summed.now.summed c.if-m-written.false c.ahead_of-d.ensures
    (λ j h. l.invariant.tried j (omega arith) h)
