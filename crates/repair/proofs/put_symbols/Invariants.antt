use mathlib.Core.Path.{◌≡◌}
use lib.ListN.{take}
use Rattle.repair.specs.LayerRepair.{lowest}
use Rattle.repair.proofs.put_symbols.Given as goal

-- the first i symbols stand
abbrev pub invariant-loop-i : goal.invariant-loop-i
invariant-loop-i l = take l.i l.out ≡ lowest l.symbols 0 l.i
