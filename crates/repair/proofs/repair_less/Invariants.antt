use Rattle.code.specs.Layers.{layer}
use Rattle.layers.specs.LayerSums.{shift_of}
use Rattle.repair.proofs.TriedPlaces.{LessTried}
use Rattle.repair.proofs.repair_less.Given as goal

-- no place from i on will do
abbrev pub invariant-loop-i : goal.invariant-loop-i
invariant-loop-i l = LessTried (layer (shift_of l.summed.layer) l.summed.symbols.now) l.d l.i l.ones
