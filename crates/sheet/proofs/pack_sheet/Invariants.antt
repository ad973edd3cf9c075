use mathlib.Core.Path.{◌≡◌}
use mathlib.Core.List.{◌++◌}
use lib.ListN.{take, drop}
use Rattle.code.specs.Sheet.{sheet_of}
use Rattle.sheet.proofs.pack_sheet.Given as goal

abbrev pub invariant-loop-i : goal.invariant-loop-i
invariant-loop-i l = l.out ≡ take l.i (sheet_of l.marks) ++ drop l.i l.initial.out
