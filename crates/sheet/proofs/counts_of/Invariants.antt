use Rattle.sheet.proofs.Loops.{Counting}
use Rattle.sheet.proofs.counts_of.Given as goal

abbrev pub invariant-loop-mark : goal.invariant-loop-mark
invariant-loop-mark l = Counting 0 l.marks l.mark-index l.clean × Counting 1 l.marks l.mark-index l.corrected × Counting 2 l.marks l.mark-index l.lost
