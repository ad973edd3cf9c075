use mathlib.Core.Path.{◌≡◌}
use lib.ListN.{take}
use Rattle.code.specs.Layers.{layer, number}
use Rattle.layers.proofs.numbers.Given as goal

-- the numbers that both layers of the symbols so far write
abbrev pub invariant-loop-x : goal.invariant-loop-x
invariant-loop-x l = (l.high ≡ number (layer 1 (take l.x-index l.symbols))) × (l.low ≡ number (layer 0 (take l.x-index l.symbols)))
