-- Whether bytes are letters.
--   is_letter     whether a byte is a letter
--   all_letters   whether all bytes are
use Rattle.std.specs.Prelude.{Bool, true, false, ◌&&◌, List, [], ◌∷◌, ℕ}
use Rattle.code.specs.declared.Letter.{Letter}
use Rattle.code.specs.declared.Letter.TheVariants.{Symbol, Unknown, Foreign}
use Rattle.code.specs.Symbols.{symbol_of}

-- what a byte is counts as a letter: N where n says so
abbrev pub counts : Bool → Letter → Bool
counts n (Symbol s) = true
counts n Unknown = n
counts n Foreign = false

-- A, T, C or G, or N where n says so
abbrev pub is_letter : Bool → ℕ → Bool
is_letter n c = counts n (symbol_of c)

-- all bytes are letters
unfoldable pub all_letters : Bool → List ℕ → Bool
all_letters n [] = true
all_letters n (c ∷ cs) = is_letter n c && all_letters n cs
