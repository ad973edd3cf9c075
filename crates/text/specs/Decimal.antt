-- Decimal digits.
--   decimal_in    the last digits of a number
--   decimal       the digits of a number
--   named         a word and a number
--   three_named   three numbers, each behind its word, and a line feed
--   three_room    room for them behind their words
--   number_from   the number that digits write
--   number_in     the number that a text writes, if it writes one
use Rattle.std.specs.Prelude.{Bool, not, ◌&&◌, cond, List, [], ◌∷◌, ◌++◌, ℕ, zero, suc, ◌+◌, ◌*◌, ◌/◌, ◌%◌, ltb, leb, length, Option, Some, None}
use Prim.Native.String.{String}
use Rattle.code.specs.Ascii.{ascii}
use Rattle.code.specs.Refusals.{outside}
use Rattle.text.specs.Lines.{feed}
use Rattle.text.specs.HexDigit.{value_of, digit_of, all_digits}

-- the last m digits of n, or all where it has fewer
unfoldable pub decimal_in : ℕ → ℕ → List ℕ
decimal_in zero n = []
decimal_in (suc m) n = cond (ltb n 10) [] (decimal_in m (n / 10)) ++ digit_of (n % 10) ∷ []

-- the digits of n, of which there are at most n + 1
unfoldable pub decimal : ℕ → List ℕ
decimal n = decimal_in (suc n) n

-- a word and a number
abbrev pub named : String → ℕ → List ℕ
named w n = ascii w ++ decimal n

-- three numbers, each behind its word, and a line feed
unfoldable pub three_named : List ℕ → ℕ → List ℕ → ℕ → List ℕ → ℕ → List ℕ
three_named first a second b third c = (first ++ decimal a) ++ (second ++ decimal b) ++ (third ++ decimal c) ++ feed ∷ []

-- room for them behind their words: three numbers of at most ten digits, and a line feed
abbrev pub three_room : ℕ
three_room = 31

-- the number that digits write behind those of a
unfoldable pub number_from : ℕ → List ℕ → ℕ
number_from a [] = a
number_from a (c ∷ cs) = number_from (10 * a + value_of c) cs

-- a text is one to five digits, and no other bytes, and writes a number of 16 bits
abbrev pub is_number : List ℕ → Bool
is_number cs = not (outside 1 5 (length cs)) && all_digits 10 cs && leb (number_from 0 cs) 65535

-- the number that a text writes, or that it writes none
abbrev pub number_in : List ℕ → Option ℕ
number_in cs = cond (is_number cs) (Some (number_from 0 cs)) None
