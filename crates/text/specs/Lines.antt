-- Lines: a line ends before a line feed, or where the text ends.
--   feed          the line feed
--   line_length   how many bytes stand before the first line feed
--   line          the bytes before the first line feed
--   behind        what stands behind the first line feed
use Rattle.std.specs.Prelude.{cond, List, [], ◌∷◌, ℕ, suc, eqb}

-- the line feed in ASCII
abbrev pub feed : ℕ
feed = 10

-- how many bytes stand before the first line feed
unfoldable pub line_length : List ℕ → ℕ
line_length [] = 0
line_length (c ∷ cs) = cond (eqb c feed) 0 (suc (line_length cs))

-- the bytes before the first line feed
unfoldable pub line : List ℕ → List ℕ
line [] = []
line (c ∷ cs) = cond (eqb c feed) [] (c ∷ line cs)

-- the bytes behind the first line feed
unfoldable pub behind : List ℕ → List ℕ
behind [] = []
behind (c ∷ cs) = cond (eqb c feed) cs (behind cs)
