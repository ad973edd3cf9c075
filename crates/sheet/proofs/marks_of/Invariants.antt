use mathlib.Core.Path.{◌≡◌}
use mathlib.Core.List.{◌++◌, map}
use lib.ListN.{take, drop}
use Rattle.code.specs.Verdicts.{verdict_of}
use Rattle.code.specs.Sheet.{marks_of}
use Rattle.sheet.proofs.marks_of.Given as goal

abbrev pub invariant-loop-i : goal.invariant-loop-i
invariant-loop-i l = l.marks ≡ take l.i (marks_of (map verdict_of l.verdicts)) ++ drop l.i l.initial.marks
