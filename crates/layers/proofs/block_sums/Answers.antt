use mathlib.Core.Path.{refl, ◌∙◌}
use native.Mathlib.Omega.{arith}
use lib.ListN.{length, drop_of_length-le}
use Rattle.layers.proofs.Columns.{columns, behind}
use Rattle.layers.proofs.Blocks.{two_left, two_Rows, behind_fits, ones_fit, block_ones, block_places}
use Rattle.layers.proofs.block_sums.Goals as goal

pub loop-i-init : goal.loop-i-init
unfolding columns behind
loop-i-init c =
    let m = c.args.symbols.now in
    let e = drop_of_length-le m {i = length m} (omega arith) in
    record { block = c.requires; reached = c.requires.inside; inside = omega arith; eights = omega arith; v_is = rw e; u_is = rw e }

pub overflow_sub-i : goal.overflow_sub-i
unfolding columns behind
overflow_sub-i c = omega (arith, two_left c.loop-i.invariant c.loop-i-test.true)

pub overflow_add-behind : goal.overflow_add-behind
unfolding columns behind
overflow_add-behind c = omega (arith, behind_fits c.loop-i.invariant c.loop-i-test.true refl)

pub row_at-ones-requires : goal.row_at-ones-requires
unfolding columns behind
row_at-ones-requires c = omega (arith, two_left c.loop-i.invariant c.loop-i-test.true, c.loop-i.invariant.inside)

pub overflow_add-ones : goal.overflow_add-ones
unfolding columns behind
overflow_add-ones c = omega (arith, behind_fits c.loop-i.invariant c.loop-i-test.true c.row_at-ones.ensures)

pub overflow_add-behind-in-loop-i : goal.overflow_add-behind-in-loop-i
unfolding columns behind
overflow_add-behind-in-loop-i c = omega (arith, behind_fits c.loop-i.invariant c.loop-i-test.true c.row_at-ones.ensures)

pub row_at-ones-requires-in-loop-i : goal.row_at-ones-requires-in-loop-i
unfolding columns behind
row_at-ones-requires-in-loop-i c = omega (arith, two_left c.loop-i.invariant c.loop-i-test.true, c.loop-i.invariant.inside)

pub overflow_add-ones-in-loop-i : goal.overflow_add-ones-in-loop-i
unfolding columns behind
overflow_add-ones-in-loop-i c = omega (arith, ones_fit c.loop-i.invariant c.loop-i-test.true c.row_at-ones.ensures c.row_at-ones-in-loop-i.ensures)

pub loop-i-smaller : goal.loop-i-smaller
unfolding columns behind
loop-i-smaller c = omega (arith, two_left c.loop-i.invariant c.loop-i-test.true)

pub loop-i-preserved : goal.loop-i-preserved
unfolding columns behind
loop-i-preserved c = two_Rows c.loop-i.invariant c.loop-i-test.true c.row_at-ones.ensures c.row_at-ones-in-loop-i.ensures

pub returns : goal.returns
unfolding columns behind
returns c =
    let k = c.loop-i.invariant in
    let o = block_ones k (omega (arith, k.reached)) in
    let p = block_places k (omega (arith, k.reached)) in
    c.folded.ensures ∙ (λ j. record { ones = o j; places = p j })
