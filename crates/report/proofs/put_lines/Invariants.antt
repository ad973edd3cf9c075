use Rattle.std.specs.Prelude.{take}
use Rattle.text.specs.Put.{Grown}
use Rattle.lines.specs.Report.{lines_from}
use Rattle.report.specs.Walked.{reported_from}
use Rattle.report.proofs.put_lines.Given as goal

abbrev pub invariant-loop-i : goal.invariant-loop-i
invariant-loop-i l = Grown l.initial.out (lines_from 1 (take l.i (reported_from 0 l.segments.numbers l.segments.ends l.letters))) l.out
