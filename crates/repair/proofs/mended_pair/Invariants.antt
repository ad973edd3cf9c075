use mathlib.Core.Path.{◌≡◌}
use lib.ListN.{take}
use Rattle.repair.proofs.Stretches.{Mended}
use Rattle.repair.proofs.mended_pair.Given as goal

-- the first i symbols stand
abbrev pub invariant-loop-i : goal.invariant-loop-i
invariant-loop-i l = take l.i l.out ≡ take l.i (Mended l.link l.symbols l.high l.low)
