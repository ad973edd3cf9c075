use Rattle.std.specs.Prelude.{◌≡◌, true, ◌+◌, drop}
use Rattle.code.specs.Layout.{extent}
use Rattle.writer.proofs.extent_of.Given as goal

abbrev pub invariant-loop-k : goal.invariant-loop-k
invariant-loop-k l = l.n + extent true (drop l.k-index l.lengths) ≡ extent true l.lengths
