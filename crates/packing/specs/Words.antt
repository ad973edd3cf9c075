-- Four symbols in one word.
--   word_of   a word of four bytes
--   Symbols  a word whose bytes are symbols
use Rattle.std.specs.Prelude.{ℕ, ◌+◌, ◌*◌, ◌/◌, ◌%◌, ◌<◌}

-- four bytes as a word, the first the lowest
abbrev pub word_of : ℕ → ℕ → ℕ → ℕ → ℕ
word_of a b c d = ((d * 256 + c) * 256 + b) * 256 + a

-- w is a word of four symbols
abbrev pub Symbols : ℕ → Type 0
Symbols w = (w % 256 < 4) × (w / 256 % 256 < 4) × (w / 65536 % 256 < 4) × (w / 16777216 < 4)
