-- Bytes as one number.
--   word_of   the number of bytes, the first of them the lowest
use Rattle.std.specs.Prelude.{List, [], ◌∷◌, ℕ, ◌+◌, ◌*◌}

-- the number of bytes, the first of them the lowest
unfoldable pub word_of : List ℕ → ℕ
word_of [] = 0
word_of (x ∷ l) = x + 256 * word_of l
