use Rattle.std.specs.Prelude.{◌≡◌, ◌+◌, drop}
use Rattle.code.specs.Layout.{sum}
use Rattle.refusal.proofs.sum_of.Given as goal

abbrev pub invariant-loop-k : goal.invariant-loop-k
invariant-loop-k l = l.total + sum (drop l.k-index l.lengths) ≡ sum l.lengths
