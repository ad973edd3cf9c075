use lib.ListN.{drop}
use Rattle.reading.proofs.Walk.{Walk}
use Rattle.reading.proofs.read_segments.Given as goal

abbrev pub invariant-loop-i : goal.invariant-loop-i
invariant-loop-i l = Walk l.lengths l.fn.strand l.symbols l.verdicts l.ends l.next l.from l.at l.i (drop l.i l.lengths)
