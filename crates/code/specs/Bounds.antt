-- The bounds of what the functions below the calls take; the limits of the calls are in Limits.
--   longest    the most symbols of a message
--   widest     the most symbols of a syndrome
--   reach      every place that is looked at is below it
--   Length     a message's length
--   Received   received symbols
--   Start      where a segment starts, with the symbol before it
use Rattle.std.specs.Prelude.{ℕ, ◌≤◌, ◌<◌, List, length}
use Rattle.code.specs.Symbols.{Below}
use Rattle.code.specs.Limits.{least_length, most_letters}

-- the most symbols of a message
abbrev pub longest : ℕ
longest = 256

-- the most symbols of a syndrome
abbrev pub widest : ℕ
widest = 16

-- every place that is looked at is below it
abbrev pub reach : ℕ
reach = 65536

-- k is the length of a message
abbrev pub Length : ℕ → Type 0
Length k = (least_length ≤ k) × (k ≤ longest)

-- the symbols of a received strand within the limits
pub record Received (s : List ℕ) : Type 0 where
  pub symbols : Below 4 s
  pub short : length s ≤ most_letters

-- a segment may start at p, f being the symbol before it
pub record Start (s : List ℕ) (p f : ℕ) : Type 0 where
  pub inside : p ≤ length s
  pub symbol : f < 4
