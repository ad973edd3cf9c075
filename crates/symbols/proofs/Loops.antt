-- One step of each loop over letters.
--   Letters                                  the first bytes of a strand are letters, with its step and its ends
--   letters_turn, letters_end, letters_next  letters throughout, by one byte
--   symbols_next, symbols_all                letters as symbols, by one letter
--   unknown_turn, unknown_end                an N among letters, by one letter
use mathlib.Core.Path.{◌≡◌, refl, ap, ◌∙◌, sym}
use mathlib.Core.Bool.{Bool, true, false, ◌&&◌, ◌||◌}
use mathlib.Core.List.{List, [], ◌∷◌}
use Prim.Native.Nat.{ℕ, suc, ◌+◌, ◌%◌, ◌<◌, ◌≤◌}
use native.Mathlib.Numerals.{add-one}
use native.Mathlib.Omega.{arith}
use lib.Dec.{ltb}
use lib.ListN.{length, get_or, drop, length-drop, drop_of_length-le}
use lib.Seq.{drop-cons}
use Rattle.code.proofs.laws.Lists.{drop_next, drop_inside}
use Rattle.code.specs.Symbols.{letter_of, legible, as_symbols, has_unknown}
use Rattle.code.proofs.laws.Letters.{length_as, as_drop}
use Rattle.symbols.specs.Letters.{is_letter, all_letters}
use Rattle.symbols.proofs.LetterBits.{number_before}

-- the first i bytes of cs are letters
pub record Letters (cs : List ℕ) (i : ℕ) : Type 0 where
  pub rest : drop i (legible cs) ≡ legible (drop i cs)
  pub read : i ≤ length (legible cs)

module _ (cs : List ℕ) (i : ℕ) (l : Letters cs i) where
  -- no letter follows, so i is their number
  all_read : legible (drop i cs) ≡ [] → i ≡ length (legible cs)
  all_read e =
      let k = l.read in
      omega (arith, length-drop i (legible cs), ap length (l.rest ∙ e))

  -- the next byte is the letter of x
  module _ (h : i < length cs) (x : ℕ) (e : letter_of x ≡ get_or cs i 0) (k : is_letter true (get_or cs i 0) ≡ true) where
    pub legible_next : drop i (legible cs) ≡ x ∷ legible (drop (i + 1) cs)
    unfolding legible
    legible_next = l.rest ∙ rw (add-one, drop-cons cs i 0 h, ← e) (number_before x (legible (drop (suc i) cs)) (rw e k))

    pub one_more : Letters cs (i + 1)
    one_more =
        let n = drop_inside (legible cs) _ i x legible_next in
        record { rest = drop_next (legible cs) _ i x legible_next; read = omega arith }

  -- no byte is left
  pub length_whole : length cs ≤ i → i ≡ length (legible cs)
  unfolding legible
  length_whole h = all_read (rw (drop_of_length-le cs h))

-- Letters throughout

first_true : (a b : Bool) → (a && b) ≡ true → (a ≡ true) × (b ≡ true)
first_true true b e = (refl, e)
first_true false b e = let z : ◌≡◌ {A = ℕ} 0 1 = cc in absurd (omega arith)

and_assoc : (a b c : Bool) → ((a && b) && c) ≡ (a && (b && c))
and_assoc true b c = refl
and_assoc false b c = refl

all_step : (n : Bool) (cs : List ℕ) (i : ℕ) → i < length cs → all_letters n (drop i cs) ≡ (is_letter n (get_or cs i 0) && all_letters n (drop (i + 1) cs))
unfolding all_letters
all_step n cs i h = rw (add-one, drop-cons cs i 0 h)

-- one more byte is looked at
pub letters_turn : (n : Bool) (cs : List ℕ) (i : ℕ) (all : Bool) → i < length cs → ((all && is_letter n (get_or cs i 0)) && all_letters n (drop (i + 1) cs)) ≡ (all && all_letters n (drop i cs))
letters_turn n cs i all h = and_assoc all (is_letter n (get_or cs i 0)) (all_letters n (drop (i + 1) cs)) ∙ ap (λ (b : Bool). all && b) (sym (all_step n cs i h))

pub letters_end : (n : Bool) (cs : List ℕ) (i : ℕ) (all : Bool) → length cs ≤ i → (all && all_letters n (drop i cs)) ≡ all
unfolding all_letters
letters_end n cs i true h = rw (drop_of_length-le cs h)
letters_end n cs i false h = refl

-- the next byte is a letter, and so are those behind it
pub letters_next : (n : Bool) (cs : List ℕ) (i : ℕ) → i < length cs → all_letters n (drop i cs) ≡ true → (is_letter n (get_or cs i 0) ≡ true) × (all_letters n (drop (i + 1) cs) ≡ true)
letters_next n cs i h e = first_true (is_letter n (get_or cs i 0)) (all_letters n (drop (i + 1) cs)) (sym (all_step n cs i h) ∙ e)

-- Letters as symbols

pub symbols_next : (cs : List ℕ) (i : ℕ) → i < length cs → drop i (as_symbols cs) ≡ (get_or cs i 0 % 4) ∷ as_symbols (drop (i + 1) cs)
unfolding as_symbols
symbols_next cs i h = sym (as_drop i cs) ∙ rw (add-one, drop-cons cs i 0 h)

pub symbols_all : (cs : List ℕ) (i : ℕ) → i ≤ length cs → length cs ≤ i → i ≡ length (as_symbols cs)
symbols_all cs i h k = omega (arith, length_as cs)

-- An N among letters

or_assoc : (a b c : Bool) → ((a || b) || c) ≡ (a || (b || c))
or_assoc true b c = refl
or_assoc false b c = refl

unknown_step : (cs : List ℕ) (i : ℕ) → i < length cs → has_unknown (drop i cs) ≡ (ltb 3 (get_or cs i 0) || has_unknown (drop (i + 1) cs))
unfolding has_unknown
unknown_step cs i h = rw (add-one, drop-cons cs i 0 h)

-- one more letter is looked at
pub unknown_turn : (cs : List ℕ) (i : ℕ) (found : Bool) → i < length cs → ((found || ltb 3 (get_or cs i 0)) || has_unknown (drop (i + 1) cs)) ≡ (found || has_unknown (drop i cs))
unknown_turn cs i found h = or_assoc found (ltb 3 (get_or cs i 0)) (has_unknown (drop (i + 1) cs)) ∙ ap (λ (b : Bool). found || b) (sym (unknown_step cs i h))

pub unknown_end : (cs : List ℕ) (i : ℕ) (found : Bool) → length cs ≤ i → (found || has_unknown (drop i cs)) ≡ found
unfolding has_unknown
unknown_end cs i true h = refl
unknown_end cs i false h = rw (drop_of_length-le cs h)
