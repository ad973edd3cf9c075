-- Laws of letters, N among them, beside the symbols that they are read as.
--   length_as, as_length         how many symbols
--   as_Below                     which symbols
--   as_append, as_take, as_drop  parts of letters
--   as_same, as_known            letters that are symbols
--   has_take, has_drop           an N among parts of letters
--   as_symbol, as_fits,           edits
--   as_applied
--   prefix_letters               a block of symbols at the front of letters
use Rattle.std.specs.Prelude.{◌≡◌, refl, Bool, true, false, not, ◌&&◌, ◌||◌, List, [], ◌∷◌, ◌++◌, ℕ, zero, suc, ◌%◌, ◌≤◌, eqb, ltb, length, take, drop, set}
use Rattle.std.proofs.Common.{sym, ap, ◌∙◌, lt_of_not-le, arith, le-ltb, lt-ltb, ne_eqb, ltb-false}
use Rattle.std.proofs.Math.Decide.{dec_le}
use Rattle.code.specs.Symbols.{Below, as_symbols, has_unknown}
use Rattle.code.specs.Edits.{applied, Fits}
use Rattle.code.specs.Reading.{is_prefix}
use Rattle.code.specs.declared.Edit.{Edit}
use Rattle.code.specs.declared.Edit.TheVariants.{None, Sub, Del, Ins}

-- Letters as symbols

pub length_as : (l : List ℕ) → length (as_symbols l) ≡ length l
unfolding as_symbols
length_as [] = refl
length_as (c ∷ l) = ap suc (length_as l)

-- letters and the symbols that they are read as are as many
pub as_length : (s l : List ℕ) → s ≡ as_symbols l → length s ≡ length l
as_length s l e = ap length e ∙ length_as l

pub as_Below : (l : List ℕ) → Below 4 (as_symbols l)
unfolding as_symbols
as_Below [] i = omega arith
as_Below (c ∷ l) zero = omega arith
as_Below (c ∷ l) (suc i) = as_Below l i

pub as_append : (u v : List ℕ) → as_symbols (u ++ v) ≡ as_symbols u ++ as_symbols v
unfolding as_symbols
as_append [] v = refl
as_append (c ∷ u) v = ap (λ (l : List ℕ). (c % 4) ∷ l) (as_append u v)

pub as_take : (n : ℕ) (l : List ℕ) → as_symbols (take n l) ≡ take n (as_symbols l)
unfolding as_symbols
as_take zero l = refl
as_take (suc n) [] = refl
as_take (suc n) (c ∷ l) = ap (λ (w : List ℕ). (c % 4) ∷ w) (as_take n l)

pub as_drop : (n : ℕ) (l : List ℕ) → as_symbols (drop n l) ≡ drop n (as_symbols l)
unfolding as_symbols
as_drop zero l = refl
as_drop (suc n) [] = refl
as_drop (suc n) (c ∷ l) = as_drop n l

-- symbols are read as themselves
pub as_same : (l : List ℕ) → Below 4 l → as_symbols l ≡ l
unfolding as_symbols
as_same [] h = refl
as_same (c ∷ l) h =
    let e : c % 4 ≡ c = omega (arith, h 0) in
    rw (e, as_same l (λ i. h (suc i)))

or-false : (a b : Bool) → (a || b) ≡ false → (a ≡ false) × (b ≡ false)
or-false true b e = let z : ◌≡◌ {A = ℕ} 0 1 = cc in absurd (omega arith)
or-false false b e = (refl, e)

-- letters without an N are symbols
pub as_known : (l : List ℕ) → has_unknown l ≡ false → as_symbols l ≡ l
unfolding as_symbols has_unknown
as_known [] h = refl
as_known (c ∷ l) h =
    let p = or-false (ltb 3 c) (has_unknown l) h in
    let e : c % 4 ≡ c = omega (arith, ltb-false 3 c p.0) in
    rw (e, as_known l p.1)

-- An N among letters

-- a part of letters without an N has none
pub has_take : (n : ℕ) (l : List ℕ) → has_unknown l ≡ false → has_unknown (take n l) ≡ false
unfolding has_unknown
has_take zero l h = refl
has_take (suc n) [] h = refl
has_take (suc n) (c ∷ l) h =
    let p = or-false (ltb 3 c) (has_unknown l) h in
    rw (p.0, has_take n l p.1)

pub has_drop : (n : ℕ) (l : List ℕ) → has_unknown l ≡ false → has_unknown (drop n l) ≡ false
unfolding has_unknown
has_drop zero l h = h
has_drop (suc n) [] h = h
has_drop (suc n) (c ∷ l) h = has_drop n l (or-false (ltb 3 c) (has_unknown l) h).1

-- Edits

-- an edit whose letter is read as a symbol
abbrev pub as_symbol : Edit → Edit
as_symbol None = None
as_symbol (Sub i x) = Sub i (x % 4)
as_symbol (Del i x) = Del i x
as_symbol (Ins i x) = Ins i (x % 4)

pub as_Fits : (q : ℕ) (e : Edit) (n : ℕ) → Fits q e n → Fits 4 (as_symbol e) n
as_Fits q None n h = tt
as_Fits q (Sub i x) n h = (h.0, omega arith)
as_Fits q (Del i x) n h = h
as_Fits q (Ins i x) n h = (h.0, omega arith)

as_set : (w : List ℕ) (i x : ℕ) → as_symbols (set w i x) ≡ set (as_symbols w) i (x % 4)
unfolding as_symbols
as_set [] i x = refl
as_set (c ∷ w) zero x = refl
as_set (c ∷ w) (suc i) x = ap (λ (l : List ℕ). (c % 4) ∷ l) (as_set w i x)

-- letters under an edit are read as the symbols under that edit
pub as_applied : (e : Edit) (w : List ℕ) → as_symbols (applied e w) ≡ applied (as_symbol e) (as_symbols w)
unfolding as_symbols
as_applied None w = refl
as_applied (Sub i x) w = as_set w i x
as_applied (Del i x) w = as_append (take i w) (drop (suc i) w) ∙ λ j. as_take i w j ++ as_drop (suc i) w j
as_applied (Ins i x) w = as_append (take i w) (x ∷ drop i w) ∙ λ j. as_take i w j ++ (x % 4) ∷ as_drop i w j

-- A block of symbols

and-false : (a : Bool) → (a && false) ≡ false
and-false true = refl
and-false false = refl

-- it stands at the front of letters if it stands there in symbols and no N is among the letters in its place
pub prefix_letters : (b l : List ℕ) → Below 4 b → is_prefix b l ≡ (is_prefix b (as_symbols l) && not (has_unknown (take (length b) l)))
unfolding is_prefix as_symbols has_unknown
prefix_letters [] l h = refl
prefix_letters (x ∷ b) [] h = refl
prefix_letters (x ∷ b) (c ∷ l) h = go (dec_le 4 c) (prefix_letters b l (λ i. h (suc i)))
  where
    and_assoc : (p q r : Bool) → (p && (q && r)) ≡ ((p && q) && r)
    and_assoc true q r = refl
    and_assoc false q r = refl

    go : Dec (4 ≤ c) → is_prefix b l ≡ (is_prefix b (as_symbols l) && not (has_unknown (take (length b) l))) → (eqb x c && is_prefix b l) ≡ ((eqb x (c % 4) && is_prefix b (as_symbols l)) && not (ltb 3 c || has_unknown (take (length b) l)))
    go (yes k) rest = rw (ne_eqb x c (λ e. omega (arith, h 0)), lt-ltb 3 c k) (sym (and-false (eqb x (c % 4) && is_prefix b (as_symbols l))))
    go (no k) rest =
        let e : c % 4 ≡ c = omega (arith, lt_of_not-le k) in
        rw (e, le-ltb 3 c (omega (arith, lt_of_not-le k)), rest) (and_assoc (eqb x c) (is_prefix b (as_symbols l)) (not (has_unknown (take (length b) l))))
