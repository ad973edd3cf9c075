use Rattle.clean.proofs.Parts.{Left}
use Rattle.clean.proofs.syndrome_at.Given as goal

abbrev pub invariant-loop-i : goal.invariant-loop-i
invariant-loop-i l = Left l.s l.at l.initial.i l.initial.h l.initial.l l.i l.h l.l
