use Rattle.steps.proofs.Step10.{Sought}
use Rattle.steps.proofs.step_10.scan_behind.Given as goal

abbrev pub invariant-loop-passed : goal.invariant-loop-passed
invariant-loop-passed l = Sought l.strand l.start l.k l.rest l.centre l.passed
