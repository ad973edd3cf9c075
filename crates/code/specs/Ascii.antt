-- Words in ASCII.
--   ascii    the bytes of a word
--   digits   the numbers of a word of decimal digits
use Rattle.std.specs.Prelude.{List, [] as []ᴸ, ◌∷◌ as ◌∷ᴸ◌, map, ℕ, ◌-◌}
use Prim.Native.Char.{code}
use Prim.Native.String.{String, [], ◌∷◌}

-- the bytes of a word
abbrev pub ascii : String → List ℕ
ascii [] = []ᴸ
ascii (c ∷ w) = code c ∷ᴸ ascii w

-- the numbers of a word of decimal digits, one for each
abbrev pub digits : String → List ℕ
digits w = map (λ (c : ℕ). c - 48) (ascii w)
