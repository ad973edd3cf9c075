-- The verdict on bytes, by whether all are letters.
--   symbols_letters   letters of symbols are letters
--   symbols_whole     the verdict on letters of symbols
--   unknown_whole     the verdict on letters with an N among them
--   first_foreign     the place of the first byte that is no letter
--   letters_before    the bytes before it are letters
--   foreign_verdict   the verdict on bytes that are not all letters
use mathlib.Core.Path.{◌≡◌, refl, sym, ap, ◌∙◌}
use mathlib.Core.Bool.{Bool, true, false, cond, not, ◌&&◌}
use mathlib.Core.List.{List, [], ◌∷◌}
use Prim.Native.Nat.{ℕ, suc, ◌+◌, ◌≤◌}
use native.Mathlib.Decide.{dec_le}
use borrow.Author.Tests.{lt-ltb, le-ltb}
use lib.Dec.{ltb}
use native.Mathlib.Omega.{arith}
use lib.ListN.{length, take}
use Rattle.std.specs.Prelude.{Option, Some, None}
use Rattle.std.specs.Option.{unwrap_or}
use Rattle.std.specs.List.{position_or_len}
use Rattle.code.specs.declared.Letter.{Letter}
use Rattle.code.specs.declared.Letter.TheVariants.{Symbol, Unknown, Foreign}
use Rattle.code.specs.declared.Decoded.TheVariants as D
use Rattle.code.specs.Symbols.{symbol_of, before, legible, unless, decoded_from, decoded}
use Rattle.symbols.specs.Letters.{counts, is_letter, all_letters}

-- letters of symbols are letters
symbols_letters : (cs : List ℕ) → all_letters false cs ≡ true → all_letters true cs ≡ true
unfolding all_letters
symbols_letters [] e = refl
symbols_letters (c ∷ cs) e = go (symbol_of c) e (symbols_letters cs)
  where
    go : (l : Letter) → (counts false l && all_letters false cs) ≡ true → (all_letters false cs ≡ true → all_letters true cs ≡ true) → (counts true l && all_letters true cs) ≡ true
    go (Symbol s) h next = next h
    go Unknown h next = let z : ◌≡◌ {A = ℕ} 0 1 = cc in absurd (omega arith)
    go Foreign h next = h

-- letters throughout have an N among them where they are not all symbols
whole_from : (i : ℕ) (cs : List ℕ) → all_letters true cs ≡ true → decoded_from i cs ≡ D.Whole (not (all_letters false cs))
unfolding all_letters decoded_from
whole_from i [] e = refl
whole_from i (c ∷ cs) e = go (symbol_of c) e (whole_from (suc i) cs)
  where
    go : (l : Letter) → (counts true l && all_letters true cs) ≡ true → (all_letters true cs ≡ true → decoded_from (suc i) cs ≡ D.Whole (not (all_letters false cs))) → unless l i (decoded_from (suc i) cs) ≡ D.Whole (not (counts false l && all_letters false cs))
    go (Symbol s) h next = next h
    go Unknown h next = rw (next h)
    go Foreign h next = let z : ◌≡◌ {A = ℕ} 0 1 = cc in absurd (omega arith)

-- letters of symbols
pub symbols_whole : (cs : List ℕ) → all_letters false cs ≡ true → D.Whole false ≡ decoded cs
symbols_whole cs e = sym (whole_from 0 cs (symbols_letters cs e) ∙ rw e)

-- letters that are not all symbols
pub unknown_whole : (cs : List ℕ) → all_letters false cs ≡ false → all_letters true cs ≡ true → D.Whole true ≡ decoded cs
unknown_whole cs e h = sym (whole_from 0 cs h ∙ rw e)

-- the bytes before the first that is no letter

abbrev pub foreign : ℕ → Bool
foreign c = not (is_letter true c)

foreign_at : (cs : List ℕ) → position_or_len foreign cs ≡ length (legible cs)
unfolding legible
foreign_at [] = refl
foreign_at (c ∷ cs) = go (symbol_of c) (foreign_at cs)
  where
    go : (l : Letter) → position_or_len foreign cs ≡ length (legible cs) → cond (not (not (counts true l))) (1 + position_or_len foreign cs) 0 ≡ length (before l (legible cs))
    go (Symbol s) e = omega (arith, e)
    go Unknown e = omega (arith, e)
    go Foreign e = refl

legible_short : (cs : List ℕ) → length (legible cs) ≤ length cs
unfolding legible
legible_short [] = omega arith
legible_short (c ∷ cs) = go (symbol_of c) (legible_short cs)
  where
    go : (l : Letter) → length (legible cs) ≤ length cs → length (before l (legible cs)) ≤ suc (length cs)
    go (Symbol s) e = omega arith
    go Unknown e = omega arith
    go Foreign e = omega arith

-- what std's position finds
pub first_foreign : (cs : List ℕ) (r : Option ℕ) (i : ℕ) → r ≡ cond (ltb (position_or_len foreign cs) (length cs)) (Some (position_or_len foreign cs)) None → i ≡ unwrap_or r (length cs) → i ≡ length (legible cs)
first_foreign cs r i e h = h ∙ rw (e, foreign_at cs) (go (dec_le (suc (length (legible cs))) (length cs)))
  where
    go : Dec (suc (length (legible cs)) ≤ length cs) → unwrap_or (cond (ltb (length (legible cs)) (length cs)) (Some (length (legible cs))) None) (length cs) ≡ length (legible cs)
    go (yes l) = rw (lt-ltb _ _ l)
    go (no l) = rw (le-ltb (length (legible cs)) (length cs) (omega arith)) (omega (arith, legible_short cs))

pub letters_before : (cs : List ℕ) → (all_letters true (take (length (legible cs)) cs) ≡ true) × (legible (take (length (legible cs)) cs) ≡ legible cs)
unfolding legible all_letters
letters_before [] = (refl, refl)
letters_before (c ∷ cs) = go (symbol_of c) refl (letters_before cs)
  where
    go : (l : Letter) → symbol_of c ≡ l → (all_letters true (take (length (legible cs)) cs) ≡ true) × (legible (take (length (legible cs)) cs) ≡ legible cs) → (all_letters true (take (length (before l (legible cs))) (c ∷ cs)) ≡ true) × (legible (take (length (before l (legible cs))) (c ∷ cs)) ≡ before l (legible cs))
    go (Symbol s) e h = (rw (e, h.0) refl, rw (e, h.1) refl)
    go Unknown e h = (rw (e, h.0) refl, rw (e, h.1) refl)
    go Foreign e h = (refl, refl)

-- the first byte that is no letter stands behind those that are letters
foreign_from : (i : ℕ) (cs : List ℕ) → all_letters true cs ≡ false → decoded_from i cs ≡ D.Foreign (i + length (legible cs))
unfolding all_letters decoded_from legible
foreign_from i [] e = let z : ◌≡◌ {A = ℕ} 0 1 = cc in absurd (omega arith)
foreign_from i (c ∷ cs) e = go (symbol_of c) e (foreign_from (suc i) cs)
  where
    go : (l : Letter) → (counts true l && all_letters true cs) ≡ false → (all_letters true cs ≡ false → decoded_from (suc i) cs ≡ D.Foreign (suc i + length (legible cs))) → unless l i (decoded_from (suc i) cs) ≡ D.Foreign (i + length (before l (legible cs)))
    go (Symbol s) h next = next h ∙ ap D.Foreign (omega arith)
    go Unknown h next = rw (next h) (ap D.Foreign (omega arith))
    go Foreign h next = ap D.Foreign (omega arith)

-- bytes that are not all letters
pub foreign_verdict : (cs : List ℕ) (i : ℕ) → all_letters true cs ≡ false → i ≡ length (legible cs) → D.Foreign i ≡ decoded cs
foreign_verdict cs i e h = ap D.Foreign (omega arith) ∙ sym (foreign_from 0 cs e)
