-- Laws of a text that is cut at a byte.
--   Apart                         no entry of a list is a number
--   Apart-append, Apart-first     of two lists, and of the first entry
--   NoDigit, digits_Apart         digits stand apart from every other byte
--   front, behind                 what stands before a byte, and behind it
--   front-append, behind-append   of two texts with the byte between them
--   number_front, number_behind   of a number before a space
use Rattle.std.specs.Prelude.{◌≡◌, refl, Bool, true, false, cond, List, [], ◌∷◌, ◌++◌, ℕ, zero, suc, ◌+◌, ◌/◌, ◌%◌, ◌<◌, eqb, ltb, get_or}
use Rattle.std.proofs.Common.{ap, ◌∙◌, append_assoc, arith, eq-eqb, ne_eqb, lt-ltb}
use Rattle.text.specs.HexDigit.{digit_of}
use Rattle.text.specs.Decimal.{decimal_in, decimal}
use Rattle.lines.specs.Report.{space}

-- no entry of a list is c
abbrev pub Apart : ℕ → List ℕ → Type 0
Apart c [] = Unit {0}
Apart c (x ∷ l) = (x ≡ c → ⊥) × Apart c l

pub Apart-append : (c : ℕ) (u l : List ℕ) → Apart c u → Apart c l → Apart c (u ++ l)
Apart-append c [] l h k = k
Apart-append c (x ∷ u) l h k = (h.0, Apart-append c u l h.1 k)

pub Apart-first : (c : ℕ) (u : List ℕ) → (0 ≡ c → ⊥) → Apart c u → get_or u 0 0 ≡ c → ⊥
Apart-first c [] z h = z
Apart-first c (x ∷ u) z h = h.0

-- a byte that is no decimal digit
abbrev pub NoDigit : ℕ → Type 0
NoDigit c = (d : ℕ) → d < 10 → 48 + d ≡ c → ⊥

decimal_Apart : (c m n : ℕ) → NoDigit c → Apart c (decimal_in m n)
unfolding decimal_in digit_of
decimal_Apart c zero n h = tt
decimal_Apart c (suc m) n h = go (ltb n 10) (decimal_Apart c m (n / 10) h)
  where
    last : digit_of (n % 10) ≡ c → ⊥
    last = rw (lt-ltb (n % 10) 10 (omega arith)) (h (n % 10) (omega arith))

    go : (b : Bool) → Apart c (decimal_in m (n / 10)) → Apart c (cond b [] (decimal_in m (n / 10)) ++ digit_of (n % 10) ∷ [])
    go true r = (last, tt)
    go false r = Apart-append c (decimal_in m (n / 10)) (digit_of (n % 10) ∷ []) r (last, tt)

-- digits stand apart from every other byte
pub digits_Apart : (c n : ℕ) → NoDigit c → Apart c (decimal n)
unfolding decimal
digits_Apart c n h = decimal_Apart c (suc n) n h

-- the entries before the first c
pub front : ℕ → List ℕ → List ℕ
front c [] = []
front c (x ∷ l) = cond (eqb x c) [] (x ∷ front c l)

-- the entries behind the first c
pub behind : ℕ → List ℕ → List ℕ
behind c [] = []
behind c (x ∷ l) = cond (eqb x c) l (behind c l)

pub front-append : (c : ℕ) (u l : List ℕ) → Apart c u → front c (u ++ c ∷ l) ≡ u
unfolding front
front-append c [] l h = rw (eq-eqb c c refl)
front-append c (x ∷ u) l h = rw (ne_eqb x c h.0, front-append c u l h.1)

pub behind-append : (c : ℕ) (u l : List ℕ) → Apart c u → behind c (u ++ c ∷ l) ≡ l
unfolding behind
behind-append c [] l h = rw (eq-eqb c c refl)
behind-append c (x ∷ u) l h = rw (ne_eqb x c h.0, behind-append c u l h.1)

space-Apart : (n : ℕ) → Apart space (decimal n)
space-Apart n = digits_Apart space n (λ d h e. omega arith)

-- a number before a space, and what stands behind it
pub number_front : (n : ℕ) (l r : List ℕ) → front space (decimal n ++ space ∷ l ++ r) ≡ decimal n
number_front n l r = ap (front space) (append_assoc (decimal n) (space ∷ l) r) ∙ front-append space (decimal n) (l ++ r) (space-Apart n)

pub number_behind : (n : ℕ) (l r : List ℕ) → behind space (decimal n ++ space ∷ l ++ r) ≡ l ++ r
number_behind n l r = ap (behind space) (append_assoc (decimal n) (space ∷ l) r) ∙ behind-append space (decimal n) (l ++ r) (space-Apart n)
