-- Laws of the tests that reading makes.
use Rattle.std.specs.Prelude.{◌≡◌, refl, Bool, true, false, ◌&&◌, List, [], ◌∷◌, ◌++◌, ℕ, zero, suc, ◌+◌, ◌-◌, ◌<◌, eqb, length, get_or, drop}
use Rattle.std.proofs.Common.{sym, ◌∙◌, arith, eq-eqb, ne_eqb, eqb-true, drop_of_length-le, drop-cons}
use Rattle.std.proofs.lemmas.Bool.{false≢true}
use Rattle.std.proofs.Math.Option.{some, none}
use Rattle.std.proofs.Math.Seq.{drop-append-add}
use Rattle.std.proofs.lemmas.List.{drop-append-le}
use Rattle.code.proofs.laws.Edits.{both}
use Rattle.code.specs.Reading.{is_prefix, two_equal, three_equal, level, early, late, separator_at}

-- a test that holds, or fails, behind another
pub and-true : (a : Bool) → (a && true) ≡ a
and-true true = refl
and-true false = refl

pub and-false : (a : Bool) → (a && false) ≡ false
and-false true = refl
and-false false = refl

-- a place behind the first of two joined lists
pub drop_off : (n : ℕ) (u r : List ℕ) (d : ℕ) → n ≡ length u + d → drop n (u ++ r) ≡ drop d r
drop_off n u r d e = rw e (drop-append-add u r d)

pub prefix_self : (b r : List ℕ) → is_prefix b (b ++ r) ≡ true
unfolding is_prefix
prefix_self [] r = refl
prefix_self (x ∷ b) r = rw (eq-eqb x x refl) (prefix_self b r)

-- a block that stands before a list of its length is that list
pub prefix_is : (b a r : List ℕ) → length b ≡ length a → is_prefix b (a ++ r) ≡ true → b ≡ a
unfolding is_prefix
prefix_is [] [] r e h = refl
prefix_is [] (y ∷ a) r e h = absurd (omega arith)
prefix_is (x ∷ b) [] r e h = absurd (omega arith)
prefix_is (x ∷ b) (y ∷ a) r e h =
    let t = both (eqb x y) (is_prefix b (a ++ r)) h in
    let p : x ≡ y = eqb-true x y t.0 in
    let q : b ≡ a = prefix_is b a r (omega arith) t.1 in
    cc

-- a block that stands at the front has its symbols there
pub prefix_at : (b s : List ℕ) (i : ℕ) → is_prefix b s ≡ true → i < length b → get_or s i 0 ≡ get_or b i 0
unfolding is_prefix
prefix_at [] s i e h = absurd (omega arith)
prefix_at (x ∷ b) [] i e h = absurd (false≢true e)
prefix_at (x ∷ b) (y ∷ s) zero e h = sym (eqb-true x y (both (eqb x y) (is_prefix b s) e).0)
prefix_at (x ∷ b) (y ∷ s) (suc i) e h = prefix_at b s i (both (eqb x y) (is_prefix b s) e).1 (omega arith)

-- a list one longer than a block at its front is the block and one symbol more
pub prefix_more : (b a r : List ℕ) → length a ≡ suc (length b) → is_prefix b (a ++ r) ≡ true → a ≡ b ++ get_or a (length b) 0 ∷ []
unfolding is_prefix
prefix_more b [] r n e = absurd (omega arith)
prefix_more [] (y ∷ []) r n e = refl
prefix_more [] (y ∷ z ∷ a) r n e = absurd (omega arith)
prefix_more (x ∷ b) (y ∷ a) r n e =
    let t = both (eqb x y) (is_prefix b (a ++ r)) e in
    let p = eqb-true x y t.0 in
    let q = prefix_more b a r (omega arith) t.1 in
    λ i. sym p i ∷ q i

-- what starts with a block is that block and a rest
pub prefix_split : (b s : List ℕ) → is_prefix b s ≡ true → s ≡ b ++ drop (length b) s
unfolding is_prefix
prefix_split [] s h = refl
prefix_split (x ∷ b) [] h = cc
prefix_split (x ∷ b) (y ∷ s) h =
    let t = both (eqb x y) (is_prefix b s) h in
    let p : x ≡ y = eqb-true x y t.0 in
    let q = prefix_split b s t.1 in
    λ i. sym p i ∷ q i

pub two_yes : (x : ℕ) (s : List ℕ) → two_equal (x ∷ x ∷ s) ≡ true
unfolding two_equal
two_yes x s = eq-eqb x x refl

pub two_no : (x y : ℕ) (s : List ℕ) → (x ≡ y → ⊥) → two_equal (x ∷ y ∷ s) ≡ false
unfolding two_equal
two_no x y s h = ne_eqb x y h

pub three_yes : (x : ℕ) (s : List ℕ) → three_equal (x ∷ x ∷ x ∷ s) ≡ true
unfolding three_equal
three_yes x s = rw (eq-eqb x x refl)

-- the first two differ
pub three_no : (x y z : ℕ) (s : List ℕ) → (x ≡ y → ⊥) → three_equal (x ∷ y ∷ z ∷ s) ≡ false
unfolding three_equal
three_no x y z s h = rw (ne_eqb x y h)

-- the last two differ
pub three_no' : (x y z : ℕ) (s : List ℕ) → (y ≡ z → ⊥) → three_equal (x ∷ y ∷ z ∷ s) ≡ false
unfolding three_equal
three_no' x y z s h = go (eqb x y)
  where
    go : (b : Bool) → (b && eqb y z) ≡ false
    go true = ne_eqb y z h
    go false = refl

-- What the search for the separator finds

module _ (k : ℕ) (d : List ℕ) where
  pub at_level : three_equal (drop (k + 1) d) ≡ true → separator_at k d ≡ some level
  unfolding separator_at
  at_level a = rw a

  pub at_early : three_equal (drop (k + 1) d) ≡ false → three_equal (drop (k + 1 - 1) d) ≡ true → separator_at k d ≡ some early
  unfolding separator_at
  at_early a b = rw (a, b)

  pub at_late : three_equal (drop (k + 1) d) ≡ false → three_equal (drop (k + 1 - 1) d) ≡ false → three_equal (drop (k + 1 + 1) d) ≡ true → separator_at k d ≡ some late
  unfolding separator_at
  at_late a b c = rw (a, b, c)

  pub at_none : three_equal (drop (k + 1) d) ≡ false → three_equal (drop (k + 1 - 1) d) ≡ false → three_equal (drop (k + 1 + 1) d) ≡ false → separator_at k d ≡ none
  unfolding separator_at
  at_none a b c = rw (a, b, c)

-- the last of k + 1 symbols stands alone
pub drop_last : (k : ℕ) (u w : List ℕ) → length u ≡ k + 1 → drop k (u ++ w) ≡ get_or u k 0 ∷ w
drop_last k u w e =
    let n : drop (suc k) u ≡ [] = drop_of_length-le u {i = suc k} (omega arith) in
    drop-append-le k u w (omega arith) ∙ rw (drop-cons u k 0 (omega arith), n)

-- Where the separator s s s is found behind what stands before it

module _ (k s : ℕ) (a : List ℕ) where
  pub find_level : (u : List ℕ) (c : ℕ) → length u ≡ k → separator_at k (u ++ c ∷ s ∷ s ∷ s ∷ a) ≡ some level
  find_level u c e = at_level k (u ++ c ∷ s ∷ s ∷ s ∷ a) (rw (drop_off (k + 1) u (c ∷ s ∷ s ∷ s ∷ a) 1 (omega arith)) (three_yes s a))

  pub find_early : (u : List ℕ) (a₁ : ℕ) (a' : List ℕ) → a ≡ a₁ ∷ a' → (s ≡ a₁ → ⊥) → length u ≡ k → separator_at k (u ++ s ∷ s ∷ s ∷ a) ≡ some early
  find_early u a₁ a' f n e =
      at_early k (u ++ s ∷ s ∷ s ∷ a) (rw (drop_off (k + 1) u (s ∷ s ∷ s ∷ a) 1 (omega arith), f) (three_no' s s a₁ a' n))
      (rw (drop_off (k + 1 - 1) u (s ∷ s ∷ s ∷ a) 0 (omega arith)) (three_yes s a))

  pub find_late : (u : List ℕ) (c : ℕ) → (s ≡ c → ⊥) → length u ≡ k + 1 → separator_at k (u ++ c ∷ s ∷ s ∷ s ∷ a) ≡ some late
  find_late u c n e =
      let q : k + 1 - 1 ≡ k = omega arith in
      let m : c ≡ s → ⊥ = λ h. n (sym h) in
      at_late k (u ++ c ∷ s ∷ s ∷ s ∷ a) (rw (drop_off (k + 1) u (c ∷ s ∷ s ∷ s ∷ a) 0 (omega arith)) (three_no c s s (s ∷ a) m))
      (rw (q, drop_last k u (c ∷ s ∷ s ∷ s ∷ a) e) (three_no' (get_or u k 0) c s (s ∷ s ∷ a) m))
      (rw (drop_off (k + 1 + 1) u (c ∷ s ∷ s ∷ s ∷ a) 1 (omega arith)) (three_yes s a))
