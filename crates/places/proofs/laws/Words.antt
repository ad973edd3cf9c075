-- Laws of words: one letter of a word, and bytes of one word.
use Rattle.std.specs.Prelude.{◌≡◌, refl, List, [], ◌∷◌, ℕ, suc, ◌+◌, ◌*◌, ◌≤◌, length, get_or, take, drop}
use Rattle.std.proofs.Common.{sym, ◌∙◌, arith, length-drop, drop-cons, length-take-le}
use Rattle.code.specs.Symbols.{Below}
use Rattle.code.proofs.laws.Below.{Below-take, Below-drop}
use Rattle.places.specs.Words.{word_of}

-- the first of n + 1 letters from place i on is the lowest byte
pub word_next : (l : List ℕ) (n i j : ℕ) → j ≡ i + 1 → j ≤ length l → word_of (take (suc n) (drop i l)) ≡ get_or l i 0 + 256 * word_of (take n (drop j l))
unfolding word_of
word_next l n i j e h =
    let s : j ≡ suc i = omega arith in
    rw (s, drop-cons l i 0 (omega arith))

-- as many bytes with one word are the same bytes
pub word_same : (a b : List ℕ) → length a ≡ length b → Below 256 a → Below 256 b → word_of a ≡ word_of b → a ≡ b
unfolding word_of
word_same [] [] e s t q = refl
word_same [] (y ∷ b) e s t q = absurd (omega arith)
word_same (x ∷ a) [] e s t q = absurd (omega arith)
word_same (x ∷ a) (y ∷ b) e s t q =
    let p : x ≡ y = omega (arith, s 0, t 0) in
    let r = word_same a b (omega arith) (λ i. s (suc i)) (λ i. t (suc i)) (omega (arith, s 0, t 0)) in
    λ i. p i ∷ r i

-- the same of n letters at a place of each of two lists
pub word_place : (n : ℕ) (a b : List ℕ) (i j : ℕ) → i + n ≤ length a → j + n ≤ length b → Below 256 a → Below 256 b → word_of (take n (drop i a)) ≡ word_of (take n (drop j b)) → take n (drop i a) ≡ take n (drop j b)
word_place n a b i j h k s t q =
    let e = length-take-le n (drop i a) (simp length-drop (omega arith)) in
    let f = length-take-le n (drop j b) (simp length-drop (omega arith)) in
    word_same (take n (drop i a)) (take n (drop j b)) (e ∙ sym f) (Below-take n (drop i a) (Below-drop i a s)) (Below-take n (drop j b) (Below-drop j b t)) q
