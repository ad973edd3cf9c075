use mathlib.Core.List.{List, ◌++◌}
use Prim.Native.Nat.{ℕ, ◌+◌, ◌^◌, ◌<◌, ◌≤◌}
use native.Mathlib.Omega.{arith}
use lib.ListN.{length, length-append}
use Rattle.text.specs.Decimal.{decimal, three_named}
use Rattle.text.proofs.laws.Decimal.{length-decimal}
use Rattle.text.proofs.laws.Put.{Grown-both, Grown-length}
use Rattle.text.proofs.put.Text.put_three.Goals as goal

-- a word and a number of 32 bits have at most ten bytes more than the word
long : (w : List ℕ) (n : ℕ) → n < 2 ^ 32 → length (w ++ decimal n) ≤ length w + 10
long w n h = omega (arith, length-append w (decimal n), length-decimal 9 n (omega arith))

pub put_named-requires : goal.put_named-requires
put_named-requires c = let s = c.args in omega (arith, long s.first.now c.from.result (omega arith))

pub put_named-requires-2 : goal.put_named-requires-2
put_named-requires-2 c =
    let s = c.args in
    omega (arith, long s.first.now c.from.result (omega arith), long s.second.now c.from-2.result (omega arith), Grown-length c.put_named.ensures)

pub put_named-requires-3 : goal.put_named-requires-3
put_named-requires-3 c =
    let s = c.args in
    omega (arith, long s.first.now c.from.result (omega arith), long s.second.now c.from-2.result (omega arith), long s.third.now c.from-3.result (omega arith), Grown-length c.put_named.ensures, Grown-length c.put_named-2.ensures)

pub put-requires : goal.put-requires
put-requires c =
    let s = c.args in
    omega (arith, long s.first.now c.from.result (omega arith), long s.second.now c.from-2.result (omega arith), long s.third.now c.from-3.result (omega arith), Grown-length c.put_named.ensures, Grown-length c.put_named-2.ensures, Grown-length c.put_named-3.ensures)

pub returns : goal.returns
unfolding three_named
returns c = rw (← c.from.ensures, ← c.from-2.ensures, ← c.from-3.ensures) (Grown-both (Grown-both (Grown-both c.put_named.ensures c.put_named-2.ensures) c.put_named-3.ensures) c.put.ensures)
