-- What the functions on layers answer.
--   shift_of   the bit of a symbol that a layer holds
--   layer_of   a layer of some symbols
--   both       a number for each layer of some symbols
--   sums_of    the check and the sums of places of some symbols
--   highs      the high numbers of equal pairs
--   lows       their low numbers
use Rattle.std.specs.Prelude.{◌≡◌, List, ℕ}
use Rattle.std.proofs.Common.{ap}
use Rattle.code.specs.Layers.{Word, layer, sum_of_places}
use Rattle.code.specs.Segment.{check}
use Rattle.layers.specs.declared.Layer.{Layer}
use Rattle.layers.specs.declared.Layer.TheVariants.{Low, High}
use Rattle.layers.specs.declared.Layers.{Layers}
use Rattle.layers.specs.declared.Summed.{Summed}

-- the bit of a symbol that a layer holds, the lowest being bit 0
abbrev pub shift_of : Layer → ℕ
shift_of Low = 0
shift_of High = 1

-- that layer of m
abbrev pub layer_of : Layer → List ℕ → Word
layer_of l m = layer (shift_of l) m

-- f of each layer of m
abbrev pub both : (Word → ℕ) → List ℕ → Layers
both f m = record { high = f (layer 1 m); low = f (layer 0 m) }

-- equal pairs have equal numbers
pub highs : {x y : Layers} → x ≡ y → x.high ≡ y.high
highs e = ap (λ (l : Layers). l.high) e

pub lows : {x y : Layers} → x ≡ y → x.low ≡ y.low
lows e = ap (λ (l : Layers). l.low) e

-- the check of m, and the sum of places of each layer
abbrev pub sums_of : List ℕ → Summed
sums_of m = record { check = check m; places = both sum_of_places m }
