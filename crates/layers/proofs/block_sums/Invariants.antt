use Rattle.layers.proofs.Blocks.{Rows}
use Rattle.layers.proofs.block_sums.Given as goal

-- the columns of the rows from place i on
abbrev pub invariant-loop-i : goal.invariant-loop-i
invariant-loop-i l = Rows l.symbols l.from l.i l.ones l.behind

abbrev pub decreases-loop-i : goal.decreases-loop-i
decreases-loop-i l = l.i
