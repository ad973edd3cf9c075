-- Letters, symbols and bytes (SPECIFICATION.md, table 1 and section 2).
--   Below         every entry of a list is below a number
--   unknown       the letter N as a number
--   letter_of     the letter of a number
--   symbol_of     what a byte is: a letter with its symbol, unknown, or no letter
--   letters       numbers as letters
--   legible       the letters before the first foreign byte, as numbers
--   decoded       whether all bytes are letters, and an N among them, or the first place that is none
--   as_symbols    letters as the symbols that they are read as
--   has_unknown   an N is among letters
--   symbols_of    the four symbols of a byte
--   byte_of       the byte of four symbols
--   symbols       bytes as symbols
--   bytes         symbols as bytes
use Rattle.std.specs.Prelude.{ℕ, suc, ◌+◌, ◌*◌, ◌/◌, ◌%◌, ◌<◌, Bool, true, false, cond, ◌||◌, List, [], ◌∷◌, ◌++◌, map, eqb, ltb, get_or}
use Rattle.code.specs.declared.Letter.{Letter}
use Rattle.code.specs.declared.Letter.TheVariants.{Symbol, Unknown, Foreign}
use Rattle.code.specs.declared.Decoded.{Decoded}
use Rattle.code.specs.declared.Decoded.TheVariants as D

-- every entry of l is below n
abbrev pub Below : ℕ → List ℕ → Type 0
Below n l = (i : ℕ) → get_or l i 0 < n

-- a received letter is kept as the number of its symbol, and N, which has none, as 4
abbrev pub unknown : ℕ
unknown = 4

-- how many letters may be received: A, T, C, G and N
abbrev pub letter_kinds : ℕ
letter_kinds = 5

-- the letters A, T, C, G and N in ASCII stand for 0, 1, 2, 3 and 4
abbrev pub letter_of : ℕ → ℕ
letter_of s = get_or (65 ∷ 84 ∷ 67 ∷ 71 ∷ 78 ∷ []) s 0

-- A is 0, T is 1, C is 2 and G is 3; N is unknown; any other byte is foreign
abbrev pub symbol_of : ℕ → Letter
symbol_of c =
    cond (eqb c 65) (Symbol 0) (cond (eqb c 84) (Symbol 1) (cond (eqb c 67) (Symbol 2) (cond (eqb c 71) (Symbol 3) (cond (eqb c 78) Unknown Foreign))))

-- numbers written as letters
abbrev pub letters : List ℕ → List ℕ
letters m = map letter_of m

-- a letter's number before those of what follows; nothing from a foreign byte on
abbrev pub before : Letter → List ℕ → List ℕ
before (Symbol s) m = s ∷ m
before Unknown m = unknown ∷ m
before Foreign m = []

-- the letters before the first foreign byte, as numbers
unfoldable pub legible : List ℕ → List ℕ
legible [] = []
legible (c ∷ cs) = before (symbol_of c) (legible cs)

-- letters throughout have an N among them
abbrev pub with_unknown : Decoded → Decoded
with_unknown (D.Whole _) = D.Whole true
with_unknown (D.Foreign i) = D.Foreign i

-- the verdict of what follows a symbol's letter, or an N; at a foreign byte its place
abbrev pub unless : Letter → ℕ → Decoded → Decoded
unless (Symbol s) i d = d
unless Unknown i d = with_unknown d
unless Foreign i d = D.Foreign i

-- the verdict on bytes of which the first stands at place i
unfoldable pub decoded_from : ℕ → List ℕ → Decoded
decoded_from i [] = D.Whole false
decoded_from i (c ∷ cs) = unless (symbol_of c) i (decoded_from (suc i) cs)

-- all bytes are letters, and whether an N is among them; or the first place, from 0, that is none
abbrev pub decoded : List ℕ → Decoded
decoded cs = decoded_from 0 cs

-- letters as the symbols that they are read as: a symbol as itself, N as A, since 4 is 0 modulo 4
unfoldable pub as_symbols : List ℕ → List ℕ
as_symbols [] = []
as_symbols (c ∷ cs) = (c % 4) ∷ as_symbols cs

-- an N is among letters: one of them is no symbol
unfoldable pub has_unknown : List ℕ → Bool
has_unknown [] = false
has_unknown (c ∷ cs) = ltb 3 c || has_unknown cs

-- a byte is four symbols, its highest two bits first
abbrev pub symbols_of : ℕ → List ℕ
symbols_of x = (x / 64 % 4) ∷ (x / 16 % 4) ∷ (x / 4 % 4) ∷ (x % 4) ∷ []

-- four symbols are a byte
abbrev pub byte_of : ℕ → ℕ → ℕ → ℕ → ℕ
byte_of a b c d = 64 * a + 16 * b + 4 * c + d

-- bytes as symbols
unfoldable pub symbols : List ℕ → List ℕ
symbols [] = []
symbols (x ∷ xs) = symbols_of x ++ symbols xs

-- symbols as bytes, four to a byte
unfoldable pub bytes : List ℕ → List ℕ
bytes [] = []
bytes (a ∷ []) = []
bytes (a ∷ b ∷ []) = []
bytes (a ∷ b ∷ c ∷ []) = []
bytes (a ∷ b ∷ c ∷ d ∷ m) = byte_of a b c d ∷ bytes m
