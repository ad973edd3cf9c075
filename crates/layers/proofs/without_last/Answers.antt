use Rattle.layers.specs.LayerSums.{highs, lows}
use Rattle.layers.proofs.LastSymbol.{without_place}
use Rattle.layers.proofs.without_last.Goals as goal

pub overflow_sub-result : goal.overflow_sub-result
overflow_sub-result c =
    let m = c.args.symbols.now in
    let p = c.requires in
    (without_place 1 m p.0 _ c.place_if_one.ensures _ (highs p.2)).0

pub overflow_sub-result-2 : goal.overflow_sub-result-2
overflow_sub-result-2 c =
    let m = c.args.symbols.now in
    let p = c.requires in
    (without_place 0 m p.0 _ c.place_if_one-2.ensures _ (lows p.2)).0

pub returns : goal.returns
returns c =
    let m = c.args.symbols.now in
    let p = c.requires in
    let h = (without_place 1 m p.0 _ c.place_if_one.ensures _ (highs p.2)).1 in
    let l = (without_place 0 m p.0 _ c.place_if_one-2.ensures _ (lows p.2)).1 in
    λ i. record { high = h i; low = l i }
