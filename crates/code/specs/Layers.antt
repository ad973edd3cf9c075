-- The two layers of a message, and what is summed over one (SPECIFICATION.md, section 2).
--   Word            a word of bits
--   bit             one bit of a number
--   layer           one layer of a list of symbols
--   pair            the symbols of two layers
--   ones            how many ones a word has
--   sum_of_places   the sum of the places that hold a one
--   syndrome        that sum modulo twice the length
--   Least           the least t with n ≤ 2 ^ t
--   width           the number of syndrome symbols, t
--   bits            a number in t bits
--   number          the number that bits write
use Rattle.std.specs.Prelude.{Bool, true, false, cond, List, [], ◌∷◌, map, ℕ, zero, suc, ◌+◌, ◌*◌, ◌/◌, ◌%◌, ◌^◌, ◌≤◌, eqb, leb, length}

-- a word of bits
abbrev pub Word : Type 0
Word = List Bool

-- bit s of a number, the lowest being bit 0
abbrev pub bit : ℕ → ℕ → Bool
bit s x = eqb (x / 2 ^ s % 2) 1

-- the layer of bit s of every symbol: layer 1 is the high one, layer 0 the low one
abbrev pub layer : ℕ → List ℕ → Word
layer s m = map (bit s) m

-- the number of a bit
abbrev pub digit : Bool → ℕ
digit b = cond b 1 0

-- the symbols whose high and low layer are given
unfoldable pub pair : Word → Word → List ℕ
pair [] [] = []
pair [] (l ∷ ls) = []
pair (h ∷ hs) [] = []
pair (h ∷ hs) (l ∷ ls) = (2 * digit h + digit l) ∷ pair hs ls

-- how many ones a word has
unfoldable pub ones : Word → ℕ
ones [] = 0
ones (b ∷ w) = digit b + ones w

-- the sum of the places that hold a one, where the first place is p
unfoldable pub sum_from : ℕ → Word → ℕ
sum_from p [] = 0
sum_from p (b ∷ w) = cond b p 0 + sum_from (suc p) w

-- the sum of the places, 1 to k, that hold a one
unfoldable pub sum_of_places : Word → ℕ
sum_of_places w = sum_from 1 w

-- the sum of the places modulo 2k, k being the word's length
unfoldable pub syndrome : Word → ℕ
syndrome w = sum_of_places w % (2 * length w)

-- t is the least number with n ≤ 2 ^ t
pub record Least (n t : ℕ) : Type 0 where
  pub enough : n ≤ 2 ^ t
  pub least : (u : ℕ) → n ≤ 2 ^ u → t ≤ u

-- the first of the numbers t, t + 1, .. whose power of two is at least n, looking m numbers far
unfoldable pub first_power : ℕ → ℕ → ℕ → ℕ
first_power n zero t = t
first_power n (suc m) t = elim (leb n (2 ^ t)) [ true ↦ t | false ↦ first_power n m (suc t) ]

-- t, the number of bits needed to write 2k − 1: the least t with 2k ≤ 2 ^ t
unfoldable pub width : ℕ → ℕ
width k = first_power (2 * k) (2 * k) 0

-- the lowest t bits of v, the most significant first
unfoldable pub bits : ℕ → ℕ → Word
bits zero v = []
bits (suc t) v = bit t v ∷ bits t v

-- the number that bits write, the most significant first
unfoldable pub number : Word → ℕ
number [] = 0
number (b ∷ w) = digit b * 2 ^ length w + number w
