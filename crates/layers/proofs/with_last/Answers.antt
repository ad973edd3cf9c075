use native.Mathlib.Omega.{arith}
use Rattle.layers.specs.LayerSums.{highs, lows}
use Rattle.layers.proofs.LastSymbol.{with_place, with_fits}
use Rattle.layers.proofs.with_last.Goals as goal

pub overflow_add-result : goal.overflow_add-result
overflow_add-result c =
    let m = c.args.symbols.now in
    let p = c.requires in
    omega (arith, with_fits 1 m p.0 _ c.place_if_one.ensures _ p.1 (highs p.2))

pub overflow_add-result-2 : goal.overflow_add-result-2
overflow_add-result-2 c =
    let m = c.args.symbols.now in
    let p = c.requires in
    omega (arith, with_fits 0 m p.0 _ c.place_if_one-2.ensures _ p.1 (lows p.2))

pub returns : goal.returns
returns c =
    let m = c.args.symbols.now in
    let p = c.requires in
    let h = with_place 1 m p.0 _ c.place_if_one.ensures _ (highs p.2) in
    let l = with_place 0 m p.0 _ c.place_if_one-2.ensures _ (lows p.2) in
    λ i. record { high = h i; low = l i }
