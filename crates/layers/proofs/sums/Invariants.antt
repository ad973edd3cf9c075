use Rattle.layers.proofs.OneSymbol.{Sums}
use Rattle.layers.proofs.sums.Given as goal

-- the numbers of ones and the sums of places of the symbols from place i on
abbrev pub invariant-loop-i : goal.invariant-loop-i
invariant-loop-i l = Sums l.symbols l.i l.ones l.places

abbrev pub decreases-loop-i : goal.decreases-loop-i
decreases-loop-i l = l.i
