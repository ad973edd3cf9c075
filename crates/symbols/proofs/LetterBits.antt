-- What a byte is, by whether it is a letter.
--   letter_cases    what holds of each letter holds of all
--   symbol_bits     two bits of a symbol's letter give its number
--   letter_bits     three bits of a letter do
--   any_letter      what is a letter without N is one with it
--   symbol_number   the number of a symbol's letter is its symbol
--   number_before   the number of a letter stands before those of what follows
--   unknown_letter  a letter that is no symbol's is N
--   no_letter       any other byte is foreign
use mathlib.Core.Path.{◌≡◌, refl, sym, subst}
use mathlib.Core.Bool.{Bool, true, false, cond, false≢true}
use mathlib.Core.List.{List, ◌∷◌}
use Prim.Native.Nat.{ℕ, zero, suc, ◌+◌, ◌/◌}
use native.Mathlib.Omega.{arith}
use borrow.Author.Tests.{eqb-true}
use lib.Bits.{bit_and}
use lib.Dec.{eqb}
use Rattle.code.specs.declared.Letter.{Letter}
use Rattle.code.specs.declared.Letter.TheVariants.{Symbol, Unknown, Foreign}
use Rattle.code.specs.Symbols.{letter_of, symbol_of, before}
use Rattle.symbols.specs.Letters.{counts, is_letter}

-- what holds of each letter holds of all
letter_cases : (P : ℕ → Type 0) → P 65 → P 84 → P 67 → P 71 → (n : Bool) → (n ≡ true → P 78) → (c : ℕ) → is_letter n c ≡ true → P c
letter_cases P pa pt pk pg n pn c e = go (eqb c 65) (eqb c 84) (eqb c 67) (eqb c 71) (eqb c 78) refl refl refl refl refl e
  where
    at : (x : ℕ) → c ≡ x → P x → P c
    at x q p = subst P (sym q) p

    go : (a t k g x : Bool) → eqb c 65 ≡ a → eqb c 84 ≡ t → eqb c 67 ≡ k → eqb c 71 ≡ g → eqb c 78 ≡ x → counts n (cond a (Symbol 0) (cond t (Symbol 1) (cond k (Symbol 2) (cond g (Symbol 3) (cond x Unknown Foreign))))) ≡ true → P c
    go true t k g x p q r u v h = at 65 (eqb-true c 65 p) pa
    go false true k g x p q r u v h = at 84 (eqb-true c 84 q) pt
    go false false true g x p q r u v h = at 67 (eqb-true c 67 r) pk
    go false false false true x p q r u v h = at 71 (eqb-true c 71 u) pg
    go false false false false true p q r u v h = at 78 (eqb-true c 78 v) (pn h)
    go false false false false false p q r u v h = let z : ◌≡◌ {A = ℕ} 0 1 = cc in absurd (omega arith)

-- twice the second lowest bit of a symbol's letter and the third lowest add up to its number
pub symbol_bits : (c : ℕ) → is_letter false c ≡ true → letter_of (bit_and c 2 + bit_and (c / 4) 1) ≡ c
symbol_bits c e = letter_cases (λ x. letter_of (bit_and x 2 + bit_and (x / 4) 1) ≡ x) refl refl refl refl false (λ z. absurd (false≢true z)) c e

-- with the fourth lowest bit they add up to the number of any letter
pub letter_bits : (c : ℕ) → is_letter true c ≡ true → letter_of (bit_and c 2 + bit_and (c / 4) 1 + bit_and (c / 8) 1) ≡ c
letter_bits c e = letter_cases (λ x. letter_of (bit_and x 2 + bit_and (x / 4) 1 + bit_and (x / 8) 1) ≡ x) refl refl refl refl true (λ z. refl) c e

-- what is a letter without N is one with it
pub any_letter : (n : Bool) (c : ℕ) → is_letter n c ≡ true → is_letter true c ≡ true
any_letter n c e = go (symbol_of c) e
  where
    go : (l : Letter) → counts n l ≡ true → counts true l ≡ true
    go (Symbol s) h = refl
    go Unknown h = refl
    go Foreign h = h

-- the number of a symbol's letter is its symbol
pub symbol_number : (x : ℕ) → is_letter false (letter_of x) ≡ true → symbol_of (letter_of x) ≡ Symbol x
symbol_number zero h = refl
symbol_number (suc zero) h = refl
symbol_number (suc (suc zero)) h = refl
symbol_number (suc (suc (suc zero))) h = refl
symbol_number (suc (suc (suc (suc zero)))) h = let z : ◌≡◌ {A = ℕ} 0 1 = cc in absurd (omega arith)
symbol_number (suc (suc (suc (suc (suc x))))) h = let z : ◌≡◌ {A = ℕ} 0 1 = cc in absurd (omega arith)

-- the number of a letter stands before those of what follows
pub number_before : (x : ℕ) (m : List ℕ) → is_letter true (letter_of x) ≡ true → before (symbol_of (letter_of x)) m ≡ x ∷ m
number_before zero m h = refl
number_before (suc zero) m h = refl
number_before (suc (suc zero)) m h = refl
number_before (suc (suc (suc zero))) m h = refl
number_before (suc (suc (suc (suc zero)))) m h = refl
number_before (suc (suc (suc (suc (suc x))))) m h = let z : ◌≡◌ {A = ℕ} 0 1 = cc in absurd (omega arith)

-- a letter that is no symbol's
pub unknown_letter : (c : ℕ) → is_letter false c ≡ false → is_letter true c ≡ true → symbol_of c ≡ Unknown
unknown_letter c p q = go (symbol_of c) p q
  where
    go : (l : Letter) → counts false l ≡ false → counts true l ≡ true → l ≡ Unknown
    go (Symbol s) f t = let z : ◌≡◌ {A = ℕ} 0 1 = cc in absurd (omega arith)
    go Unknown f t = refl
    go Foreign f t = let z : ◌≡◌ {A = ℕ} 0 1 = cc in absurd (omega arith)

-- a byte that is no letter
pub no_letter : (c : ℕ) → is_letter true c ≡ false → symbol_of c ≡ Foreign
no_letter c e = go (symbol_of c) e
  where
    go : (l : Letter) → counts true l ≡ false → l ≡ Foreign
    go (Symbol s) h = let z : ◌≡◌ {A = ℕ} 0 1 = cc in absurd (omega arith)
    go Unknown h = let z : ◌≡◌ {A = ℕ} 0 1 = cc in absurd (omega arith)
    go Foreign h = refl
