use mathlib.Core.Bool.{true, false}
use mathlib.Core.Path.{◌≡◌, ap, ◌∙◌}
use Prim.Native.Nat.{ℕ, ◌-◌, ◌^◌, ◌≤◌, ◌<◌}
use mathlib.Core.List.{List}
use native.Mathlib.Omega.{arith}
use lib.ListN.{length}
use Rattle.code.specs.Limits.{most_length, most_segments}
use Rattle.code.specs.Layout.{Lengths, extent}
use Rattle.code.proofs.laws.Layout.{Lengths-at, sum_most}
use Rattle.code.proofs.laws.WithinLimits.{extent_line}
use Rattle.writer.proofs.Carried.{extent_turn, extent_end, extent_first}
use Rattle.writer.proofs.extent_of.Goals as goal

-- the sum of sizes is small
small : (ks : List ℕ) → Lengths most_length ks → length ks ≤ most_segments → extent true ks < 2 ^ 16
small ks h l = omega (arith, extent_line ks h, sum_most ks h)

pub size_of-n-requires : goal.size_of-n-requires
size_of-n-requires c =
    let k = Lengths-at c.args.lengths.now c.loop-k.k-index c.requires.0 c.loop-k-test.true in
    (omega (arith, k.0), omega (arith, k.1))

pub overflow_add-n : goal.overflow_add-n
overflow_add-n c =
    let ks = c.args.lengths.now in
    let l = c.loop-k in
    record { fits = omega (arith, l.invariant, extent_turn ks l.k-index c.loop-k-test.true, c.size_of-n.ensures, small ks c.requires.0 c.requires.2) }

pub loop-k-preserved : goal.loop-k-preserved
loop-k-preserved c =
    let l = c.loop-k in
    omega (arith, l.invariant, extent_turn c.args.lengths.now l.k-index c.loop-k-test.true, c.size_of-n.ensures)

pub overflow_sub-result : goal.overflow_sub-result
overflow_sub-result c =
    let ks = c.args.lengths.now in
    let l = c.loop-k in
    omega (arith, l.invariant, extent_end ks l.k-index c.loop-k-test.false, extent_first ks c.requires.1)

pub returns : goal.returns
returns c =
    let ks = c.args.lengths.now in
    let l = c.loop-k in
    omega (arith, l.invariant, extent_end ks l.k-index c.loop-k-test.false, extent_first ks c.requires.1)
