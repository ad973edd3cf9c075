-- The line that tells a refusal.
--   refused_line   the word, the refusal's number and a line feed
--   refused_room   room for such a line
use Rattle.std.specs.Prelude.{List, [], ◌∷◌, ◌++◌, ℕ}
use Rattle.code.specs.declared.Refusal.{Refusal}
use Rattle.code.specs.Refusals.{number_of}
use Rattle.text.specs.Lines.{feed}
use Rattle.text.specs.Decimal.{named}

-- the word, the refusal's number and a line feed
unfoldable pub refused_line : Refusal → List ℕ
refused_line r = named "refused " (number_of r) ++ feed ∷ []

-- room for such a line: a number below 256 has at most three digits
abbrev pub refused_room : ℕ
refused_room = 12
