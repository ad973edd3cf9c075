use mathlib.Core.Path.{◌≡◌, refl, sym, ◌∙◌}
use mathlib.Core.Bool.{true≢false}
use Prim.Native.Nat.{ℕ, zero, suc, ◌-◌, ◌*◌, ◌<◌}
use native.Mathlib.Omega.{arith}
use lib.ListN.{length}
use Rattle.code.specs.Layers.{layer}
use Rattle.code.proofs.laws.Layers.{length-layer}
use Rattle.code.specs.Repair.{mended}
use Rattle.code.proofs.laws.Repair.{repair_overlarge}
use Rattle.code.specs.declared.Link.TheVariants.{Changed}
use Rattle.repair.proofs.Remainders.{ahead_below}
use Rattle.repair.proofs.TriedPlaces.{reads_zero, reads_one}
use Rattle.repair.proofs.Repairs.{changed_same, changed_raised, changed_lowered, changed_none}
use Rattle.layers.specs.LayerSums.{shift_of}
use Rattle.repair.proofs.repair_changed.Goals as goal

at_most_one : (n : ℕ) → n < 2 → (n ≡ 1 → ⊥) → n ≡ 0
at_most_one zero h ne = refl
at_most_one (suc zero) h ne = absurd (ne refl)
at_most_one (suc (suc n)) h ne = absurd (omega arith)

pub returns-then-k-written : goal.returns-then-k-written
unfolding mended
returns-then-k-written c =
    let a = c.args in
    let n = length-layer (shift_of a.summed.now.layer) a.summed.now.symbols.now in
    sym (repair_overlarge Changed a.written (layer (shift_of a.summed.now.layer) a.summed.now.symbols.now) (omega arith) (omega arith))

pub returns-then-d-eq0 : goal.returns-then-d-eq0
unfolding mended
returns-then-d-eq0 c =
    let a = c.args in
    let m = a.summed.now.symbols.now in
    changed_same (layer (shift_of a.summed.now.layer) m) (length m) a.summed.now.sum a.written c.ahead_of-d.result (length-layer (shift_of a.summed.now.layer) m) c.args.summed.now.summed c.if-k-written.false c.ahead_of-d.ensures (length m) _ (omega arith) c.if-d-eq0.true

pub returns-then-digit-eq0 : goal.returns-then-digit-eq0
unfolding mended
returns-then-digit-eq0 c =
    let a = c.args in
    let m = a.summed.now.symbols.now in
    let d = c.ahead_of-d.result in
    let b = ahead_below a.summed.now.sum a.written (2 * length m) (omega arith) in
    let f = c.ahead_of-d.ensures in
    let i = d - 1 in
    let z = reads_zero (shift_of a.summed.now.layer) m i c.digit.result (omega arith) c.digit.ensures.0 c.if-digit-eq0.true in
    changed_raised (layer (shift_of a.summed.now.layer) m) (length m) a.summed.now.sum a.written d (length-layer (shift_of a.summed.now.layer) m) c.args.summed.now.summed c.if-k-written.false f i (omega arith) z (omega arith)

pub returns-then-d-k : goal.returns-then-d-k
unfolding mended
returns-then-d-k c =
    let a = c.args in
    let m = a.summed.now.symbols.now in
    let d = c.ahead_of-d.result in
    let b = ahead_below a.summed.now.sum a.written (2 * length m) (omega arith) in
    let f = c.ahead_of-d.ensures in
    let i = d - 1 in
    let z = reads_one (shift_of a.summed.now.layer) m i c.digit.result (omega arith) c.digit.ensures.0 c.if-digit-eq0.false in
    changed_none (layer (shift_of a.summed.now.layer) m) (length m) a.summed.now.sum a.written d (length-layer (shift_of a.summed.now.layer) m) c.args.summed.now.summed c.if-k-written.false f
    c.if-d-eq0.false
    (λ j h q e. let g : j ≡ i = omega arith in true≢false (sym z ∙ rw (← g) q))
    (λ j h q e. omega arith)

pub returns-then-digit-eq1 : goal.returns-then-digit-eq1
unfolding mended
returns-then-digit-eq1 c =
    let a = c.args in
    let m = a.summed.now.symbols.now in
    let d = c.ahead_of-d.result in
    let b = ahead_below a.summed.now.sum a.written (2 * length m) (omega arith) in
    let f = c.ahead_of-d.ensures in
    let i = 2 * length m - d - 1 in
    let g = c.if-digit-eq1.true in
    let z = reads_one (shift_of a.summed.now.layer) m i c.digit-2.result (omega arith) c.digit-2.ensures.0 (λ e. omega arith) in
    changed_lowered (layer (shift_of a.summed.now.layer) m) (length m) a.summed.now.sum a.written d (length-layer (shift_of a.summed.now.layer) m) c.args.summed.now.summed c.if-k-written.false f i (omega arith) z (omega arith)

pub returns-then-d-k-2 : goal.returns-then-d-k-2
unfolding mended
returns-then-d-k-2 c =
    let a = c.args in
    let m = a.summed.now.symbols.now in
    let d = c.ahead_of-d.result in
    let b = ahead_below a.summed.now.sum a.written (2 * length m) (omega arith) in
    let f = c.ahead_of-d.ensures in
    let i = 2 * length m - d - 1 in
    let z = reads_zero (shift_of a.summed.now.layer) m i c.digit-2.result (omega arith) c.digit-2.ensures.0 (at_most_one _ c.digit-2.ensures.1 c.if-digit-eq1.false) in
    changed_raised (layer (shift_of a.summed.now.layer) m) (length m) a.summed.now.sum a.written d (length-layer (shift_of a.summed.now.layer) m) c.args.summed.now.summed c.if-k-written.false f i (omega arith) z (omega arith)

pub returns : goal.returns
unfolding mended
returns c =
    let a = c.args in
    let m = a.summed.now.symbols.now in
    let d = c.ahead_of-d.result in
    let b = ahead_below a.summed.now.sum a.written (2 * length m) (omega arith) in
    let f = c.ahead_of-d.ensures in
    let i = 2 * length m - d - 1 in
    let z = reads_zero (shift_of a.summed.now.layer) m i c.digit-2.result (omega arith) c.digit-2.ensures.0 (at_most_one _ c.digit-2.ensures.1 c.if-digit-eq1.false) in
    changed_none (layer (shift_of a.summed.now.layer) m) (length m) a.summed.now.sum a.written d (length-layer (shift_of a.summed.now.layer) m) c.args.summed.now.summed c.if-k-written.false f
    c.if-d-eq0.false
    (λ j h q e. c.if-d-k-2.false (omega arith))
    (λ j h q e. let g : j ≡ i = omega arith in true≢false (sym (rw (← g) q) ∙ z))
