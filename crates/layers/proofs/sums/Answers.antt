use mathlib.Core.Path.{◌≡◌, ap, ◌∙◌}
use Prim.Native.Nat.{ℕ, ◌-◌}
use native.Mathlib.Omega.{arith}
use lib.ListN.{drop}
use Rattle.code.specs.Layers.{ones, sum_of_places}
use Rattle.layers.specs.declared.Running.{Running}
use Rattle.layers.specs.SideBySide.{sides}
use Rattle.layers.proofs.OneSymbol.{one_before, turn_fits, ones_small, check_of, high_of, low_of}
use Rattle.layers.proofs.sums.Goals as goal

pub block_sums-block-requires : goal.block_sums-block-requires
block_sums-block-requires c = c.block_start-i.ensures

pub loop-i-init : goal.loop-i-init
loop-i-init c =
    record {
      inside = c.block_start-i.ensures.inside;
      n_is = ap (λ (x : Running). x.ones) c.block_sums-block.ensures;
      p_is = ap (λ (x : Running). x.places) c.block_sums-block.ensures;
    }

pub bounds-symbols-i : goal.bounds-symbols-i
bounds-symbols-i c = omega (arith, c.loop-i.invariant.inside)

pub overflow_cast-symbols : goal.overflow_cast-symbols
overflow_cast-symbols c = omega (arith, c.shared_slice_known-in-loop-i-1.given (c.loop-i.i - 1))

pub layer_bits-bits-requires : goal.layer_bits-bits-requires
layer_bits-bits-requires c = omega (arith, c.shared_slice_known-in-loop-i-1.given (c.loop-i.i - 1))

pub overflow_add-ones : goal.overflow_add-ones
overflow_add-ones c =
    let l = c.loop-i in
    omega (arith, turn_fits l.invariant c.loop-i-test.true (c.shared_slice_known-in-loop-i-1.given (l.i - 1)).fits c.layer_bits-bits.ensures c.requires)

pub overflow_add-places : goal.overflow_add-places
overflow_add-places c =
    let l = c.loop-i in
    omega (arith, turn_fits l.invariant c.loop-i-test.true (c.shared_slice_known-in-loop-i-1.given (l.i - 1)).fits c.layer_bits-bits.ensures c.requires)

pub loop-i-preserved : goal.loop-i-preserved
loop-i-preserved c = let l = c.loop-i in one_before l.invariant c.loop-i-test.true (c.shared_slice_known-in-loop-i-1.given (l.i - 1)).fits c.layer_bits-bits.ensures

pub overflow_add-result : goal.overflow_add-result
overflow_add-result c =
    let l = c.loop-i in
    omega (arith, l.invariant.n_is, ones_small c.args.symbols.now l.i c.requires 0, ones_small c.args.symbols.now l.i c.requires 1)

pub returns : goal.returns
returns c =
    let l = c.loop-i in
    let m = c.args.symbols.now in
    let none : l.i ≡ 0 = omega arith in
    let n : l.ones ≡ sides ones m = l.invariant.n_is ∙ ap (λ (j : ℕ). sides ones (drop j m)) none in
    let p : l.places ≡ sides sum_of_places m = l.invariant.p_is ∙ ap (λ (j : ℕ). sides sum_of_places (drop j m)) none in
    let ch = check_of m c.requires l.ones n in
    let hi = high_of m c.requires l.places p in
    let lo = low_of m c.requires l.places p in
    λ i. record { check = ch i; places = record { high = hi i; low = lo i } }
