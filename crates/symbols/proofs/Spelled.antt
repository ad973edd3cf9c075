-- Symbols that are being turned into letters, in place.
--   letter_sum   the letter of a symbol, as a sum
--   spelled_to   the first i symbols are letters, with the next symbol and its turn
use mathlib.Core.Path.{◌≡◌, refl, ap}
use mathlib.Core.List.{List, [], ◌∷◌, ◌++◌}
use Prim.Native.Nat.{ℕ, zero, suc, ◌+◌, ◌*◌, ◌<◌}
use native.Mathlib.Omega.{arith}
use lib.Dec.{eqb}
use lib.ListN.{length, get_or, set, take, drop}
use mir.Val.{bool_byte}
use Rattle.code.specs.Symbols.{letter_of, letters}

pub letter_sum : (s : ℕ) → s < 4 → 65 + s + 18 * bool_byte (eqb s 1) + 3 * bool_byte (eqb s 3) ≡ letter_of s
letter_sum zero h = refl
letter_sum (suc zero) h = refl
letter_sum (suc (suc zero)) h = refl
letter_sum (suc (suc (suc zero))) h = refl
letter_sum (suc (suc (suc (suc s)))) h = absurd (omega arith)

-- the first i of the symbols are letters
abbrev pub spelled_to : ℕ → List ℕ → List ℕ
spelled_to i s = take i (letters s) ++ drop i s

pub spelled_at : (s : List ℕ) (i : ℕ) → i < length s → get_or (spelled_to i s) i 0 ≡ get_or s i 0
spelled_at [] i h = absurd (omega arith)
spelled_at (x ∷ s) zero h = refl
spelled_at (x ∷ s) (suc i) h = spelled_at s i (omega arith)

-- one more symbol is turned into its letter
pub spelled_next : (s : List ℕ) (i : ℕ) → i < length s → set (spelled_to i s) i (letter_of (get_or s i 0)) ≡ spelled_to (suc i) s
spelled_next [] i h = absurd (omega arith)
spelled_next (x ∷ s) zero h = refl
spelled_next (x ∷ s) (suc i) h = ap (λ (l : List ℕ). letter_of x ∷ l) (spelled_next s i (omega arith))
