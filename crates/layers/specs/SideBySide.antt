-- Both layers side by side in one word of 64 bits, the low layer in its lower half and the high layer in its upper half.
--   half            the least number that does not fit into a half
--   sides           a number of the low layer, with that of the high layer above it
--   running_of      the numbers of ones and the sums of places of both layers
--   bytes_of        the lowest bytes of a number
--   bit_bytes       bits as a number, a byte for each
--   halves          a number of the lower half of a word, with that of its upper half above it
--   from_right      the running sums of numbers from the last to the first, added up
--   column_ones     the ones of four columns
--   column_places   the sum of their places in a row
--   Block           the symbols from a place on are eights, and not too many
use Rattle.std.specs.Prelude.{◌≡◌, List, [], ◌∷◌, map, ℕ, zero, suc, ◌+◌, ◌-◌, ◌*◌, ◌/◌, ◌%◌, ◌≤◌}
use Rattle.code.specs.Layers.{Word, layer, digit, ones, sum_of_places}
use Rattle.code.specs.Segment.{total}
use Rattle.places.specs.Words.{word_of}
use Rattle.layers.specs.declared.Running.{Running}

-- the least number that does not fit into a half
abbrev pub half : ℕ
half = 4294967296

-- f of the low layer, with f of the high layer above it
abbrev pub sides : (Word → ℕ) → List ℕ → ℕ
sides f m = f (layer 0 m) + half * f (layer 1 m)

-- the numbers of ones and the sums of places of m
abbrev pub running_of : List ℕ → Running
running_of m = record { ones = sides ones m; places = sides sum_of_places m }

-- the n lowest bytes of v, the lowest first
unfoldable pub bytes_of : ℕ → ℕ → List ℕ
bytes_of zero v = []
bytes_of (suc n) v = v % 256 ∷ bytes_of n (v / 256)

-- bits as a number, a byte for each, the first the lowest
abbrev pub bit_bytes : Word → ℕ
bit_bytes w = word_of (map digit w)

-- f of the lower half of a word, with f of its upper half above it
abbrev pub halves : (ℕ → ℕ) → ℕ → ℕ
halves f v = f (v % half) + half * f (v / half)

-- at each number, from the last to the first, the sum so far is added
unfoldable pub from_right : List ℕ → ℕ
from_right [] = 0
from_right (x ∷ l) = from_right l + total (x ∷ l)

-- the ones of four columns: v has those of each column in a byte
abbrev pub column_ones : ℕ → ℕ
column_ones v = total (bytes_of 4 v)

-- the sum of their places in a row, 1 to 4
abbrev pub column_places : ℕ → ℕ
column_places v = from_right (bytes_of 4 v)

-- from place i on, n symbols are eights, at most 64
pub record Block (i n : ℕ) : Type 0 where
  pub inside : i ≤ n
  pub eights : (n - i) % 8 ≡ 0
  pub short : n - i ≤ 64
