-- Tests at a place, by the letters there.
use mathlib.Core.Path.{◌≡◌, refl, ap, ◌∙◌}
use mathlib.Core.Bool.{Bool, true, false, ◌&&◌}
use mathlib.Core.List.{List, [], ◌∷◌, append-nil}
use Prim.Native.Nat.{ℕ, zero, suc, min, ◌+◌, ◌-◌, ◌≤◌, ◌<◌}
use native.Mathlib.Numerals.{add-one, unary_clauses}
use native.Mathlib.Omega.{arith}
use borrow.Author.Tests.{eq-eqb, ne_eqb}
use lib.Dec.{eqb}
use lib.Pointwise.{pointwise}
use lib.ListN.{length, get_or, take, drop, length-drop, drop_of_length-le}
use lib.Seq.{drop-cons, take_all}
use Rattle.code.specs.Reading.{is_prefix, two_equal, three_equal}
use Rattle.code.proofs.laws.Reading.{and-true, and-false, prefix_self, prefix_is}

-- a list that is too short passes no test

two_short : (l : List ℕ) → length l ≤ 1 → two_equal l ≡ false
unfolding two_equal
two_short [] h = refl
two_short (x ∷ []) h = refl
two_short (x ∷ y ∷ l) h = absurd (omega arith)

three_short : (l : List ℕ) → length l ≤ 2 → three_equal l ≡ false
unfolding three_equal
three_short [] h = refl
three_short (x ∷ []) h = refl
three_short (x ∷ y ∷ []) h = refl
three_short (x ∷ y ∷ z ∷ l) h = absurd (omega arith)

prefix_short : (b l : List ℕ) → length l < length b → is_prefix b l ≡ false
unfolding is_prefix
prefix_short [] l h = absurd (omega arith)
prefix_short (x ∷ b) [] h = refl
prefix_short (x ∷ b) (y ∷ l) h = rw (prefix_short b l (omega arith)) (and-false (eqb x y))

-- std's test of a front
prefix_pointwise : (b l : List ℕ) → pointwise eqb b (take (length b) l) ≡ is_prefix b l
unfolding is_prefix
prefix_pointwise [] l = refl
prefix_pointwise (x ∷ b) [] = refl
prefix_pointwise (x ∷ b) (y ∷ l) = ap (λ (t : Bool). eqb x y && t) (prefix_pointwise b l)

-- what is left from a place on, or from the end where the place is past it
rest_from : (n : ℕ) (l : List ℕ) → drop (min n (length l)) l ≡ drop n l
rest_from zero l = simp unary_clauses refl
rest_from (suc n) [] = simp unary_clauses refl
rest_from (suc n) (x ∷ l) = simp unary_clauses (rest_from n l)

module _ (s : List ℕ) (at : ℕ) where
  pub one_inside : (x : ℕ) → at < length s → is_prefix (x ∷ []) (drop at s) ≡ eqb x (get_or s at 0)
  unfolding is_prefix
  one_inside x h = rw (drop-cons s at 0) (and-true (eqb x (get_or s at 0)))

  pub one_past : (x : ℕ) → length s ≤ at → is_prefix (x ∷ []) (drop at s) ≡ false
  one_past x h = prefix_short (x ∷ []) (drop at s) (simp length-drop (omega arith))

  pub two_inside : at + 1 < length s → two_equal (drop at s) ≡ eqb (get_or s at 0) (get_or s (at + 1) 0)
  unfolding two_equal
  two_inside h =
      let k : at < length s = omega arith in
      let l : suc at < length s = omega arith in
      rw (add-one, drop-cons s at 0 k, drop-cons s (suc at) 0 l)

  pub two_past : length s ≤ at + 1 → two_equal (drop at s) ≡ false
  two_past h = two_short (drop at s) (simp length-drop (omega arith))

  pub three_inside : at + 2 < length s → three_equal (drop at s) ≡ (eqb (get_or s at 0) (get_or s (at + 1) 0) && eqb (get_or s (at + 1) 0) (get_or s (at + 2) 0))
  unfolding three_equal
  three_inside h =
      let k : at < length s = omega arith in
      let l : suc at < length s = omega arith in
      let m : suc (suc at) < length s = omega arith in
      let e : at + 1 ≡ suc at = omega arith in
      let f : at + 2 ≡ suc (suc at) = omega arith in
      rw (e, f, drop-cons s at 0 k, drop-cons s (suc at) 0 l, drop-cons s (suc (suc at)) 0 m)

  pub three_past : length s ≤ at + 2 → three_equal (drop at s) ≡ false
  three_past h = three_short (drop at s) (simp length-drop (omega arith))

  -- what std's starts_with says of what is left of s from the place on
  pub block_stands : (b : List ℕ) (i : ℕ) (r : Bool) → i ≡ min at (length s) → r ≡ pointwise eqb b (take (length b) (take (length s - i) (drop i s))) → r ≡ is_prefix b (drop at s)
  block_stands b i r e h = h ∙ rw (take_all (length s - i) (drop i s) (simp length-drop (omega arith)), rest) (prefix_pointwise b (drop at s))
    where
      rest : drop i s ≡ drop at s
      rest = rw e (rest_from at s)

  -- the block b, compared letter by letter
  module _ (b : List ℕ) where
    pub block_past : length s - at < length b → is_prefix b (drop at s) ≡ false
    block_past h = prefix_short b (drop at s) (simp length-drop (omega arith))

    pub block_begin : is_prefix (drop 0 b) (drop (at + 0) s) ≡ is_prefix b (drop at s)
    block_begin = let e : at + 0 ≡ at = omega arith in rw e

    module _ (j : ℕ) (inside : j < length b) (inside' : at + j < length s) where
      pub block_turn : get_or b j 0 ≡ get_or s (at + j) 0 → is_prefix (drop j b) (drop (at + j) s) ≡ is_prefix (drop (j + 1) b) (drop (at + (j + 1)) s)
      unfolding is_prefix
      block_turn q =
          let e : at + (j + 1) ≡ suc (at + j) = omega arith in
          rw (e, add-one, drop-cons b j 0 inside, drop-cons s (at + j) 0 inside', eq-eqb (get_or b j 0) (get_or s (at + j) 0) q)

      pub block_stop : (get_or b j 0 ≡ get_or s (at + j) 0 → ⊥) → is_prefix (drop j b) (drop (at + j) s) ≡ false
      unfolding is_prefix
      block_stop q = rw (drop-cons b j 0 inside, drop-cons s (at + j) 0 inside', ne_eqb (get_or b j 0) (get_or s (at + j) 0) q)

    pub block_end : (j : ℕ) (l : List ℕ) → length b ≤ j → is_prefix (drop j b) l ≡ true
    unfolding is_prefix
    block_end j l h = rw (drop_of_length-le b h)

-- a block stands at the front of itself, and of no other list of its length

pub prefix_equal : (b l : List ℕ) → b ≡ l → is_prefix b l ≡ true
prefix_equal b l e = rw (← e) (rw append-nil at (prefix_self b []))

pub prefix_whole : (b l : List ℕ) → length b ≡ length l → is_prefix b l ≡ true → b ≡ l
prefix_whole b l e t = prefix_is b l [] e (rw append-nil t)
