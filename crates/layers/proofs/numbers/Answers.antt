use mathlib.Core.Path.{refl}
use native.Mathlib.Omega.{arith}
use Rattle.code.specs.Layers.{number}
use Rattle.layers.proofs.LastSymbol.{bit_more, bit_fits}
use Rattle.layers.proofs.numbers.Goals as goal

pub loop-x-init : goal.loop-x-init
unfolding number
loop-x-init c = (refl, refl)

pub overflow_mul-high : goal.overflow_mul-high
overflow_mul-high c = let l = c.loop-x in omega (arith, bit_fits c.args.symbols.now l.x-index (omega arith) 1 _ refl l.high c.requires l.invariant.0)

pub overflow_add-high : goal.overflow_add-high
overflow_add-high c = let l = c.loop-x in omega (arith, bit_fits c.args.symbols.now l.x-index (omega arith) 1 _ c.digit.ensures.0 l.high c.requires l.invariant.0)

pub overflow_mul-low : goal.overflow_mul-low
overflow_mul-low c = let l = c.loop-x in omega (arith, bit_fits c.args.symbols.now l.x-index (omega arith) 0 _ refl l.low c.requires l.invariant.1)

pub overflow_add-low : goal.overflow_add-low
overflow_add-low c = let l = c.loop-x in omega (arith, bit_fits c.args.symbols.now l.x-index (omega arith) 0 _ c.digit-in-loop-x.ensures.0 l.low c.requires l.invariant.1)

pub loop-x-preserved : goal.loop-x-preserved
loop-x-preserved c =
    let l = c.loop-x in
    let s = c.args.symbols.now in
    (bit_more s l.x-index (omega arith) 1 _ c.digit.ensures.0 l.high l.invariant.0, bit_more s l.x-index (omega arith) 0 _ c.digit-in-loop-x.ensures.0 l.low l.invariant.1)
