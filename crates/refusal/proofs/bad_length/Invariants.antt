use Rattle.std.specs.Prelude.{◌≡◌, ◌||◌, drop}
use Rattle.code.specs.Order.{bad_length}
use Rattle.refusal.proofs.bad_length.Given as goal

abbrev pub invariant-loop-k : goal.invariant-loop-k
invariant-loop-k l = (l.bad || bad_length l.most (drop l.k-index l.lengths)) ≡ bad_length l.most l.lengths
