use Rattle.segment.proofs.Parts.{Bits}
use Rattle.segment.proofs.put_pairs.Given as goal

abbrev pub invariant-loop-i : goal.invariant-loop-i
invariant-loop-i l = Bits l.initial.out l.at l.high l.low l.t l.i l.h l.l l.out
