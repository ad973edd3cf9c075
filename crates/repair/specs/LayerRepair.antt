-- What the repair of a layer, and the symbols of two mended layers, ask for.
--   ahead          the least number that leads from one remainder to another
--   lowest         some of the symbols, by their lowest two bits
--   past_all       the place behind a mended one that is none of the received ones
--   mended_layer   a layer of received symbols, mended
--   word_of        the bits of a summed layer
use Rattle.std.specs.Prelude.{List, map, ℕ, ◌+◌, ◌-◌, ◌%◌, take, drop}
use Rattle.code.specs.Layers.{Word, layer}
use Rattle.code.specs.Repair.{mended_word}
use Rattle.code.specs.declared.Link.{Link}
use Rattle.code.specs.declared.Link.TheVariants.{Changed, More, Less}
use Rattle.code.specs.declared.Fix.{Fix}
use Rattle.layers.specs.LayerSums.{layer_of}
use Rattle.repair.specs.declared.summed.SummedLayer.{SummedLayer}

-- the least number that leads from a to b modulo m
abbrev pub ahead : ℕ → ℕ → ℕ → ℕ
ahead a b m = (b % m + (m - a % m)) % m

-- n symbols from place i on, by their lowest two bits
unfoldable pub lowest : List ℕ → ℕ → ℕ → List ℕ
lowest s i n = map (λ (x : ℕ). x % 4) (take n (drop i s))

-- the place behind a mended one that is none of the n received ones; 0 where such a layer does not change
abbrev pub past_all : Link → ℕ → ℕ
past_all Changed n = 0
past_all More n = n
past_all Less n = n + 1

-- the layer `shift` of the received symbols s, mended by f
abbrev pub mended_layer : Link → ℕ → List ℕ → Fix → Word
mended_layer link shift s f = mended_word link (layer shift s) f.at f.bit

-- the bits of a summed layer
abbrev pub word_of : SummedLayer → Word
word_of l = layer_of l.layer l.symbols.now
