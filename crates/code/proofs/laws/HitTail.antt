-- A segment hit in separator or syndrome: message and check are whole, and the next segment settles the end.
use Rattle.std.specs.Prelude.{◌≡◌, Bool, true, false, ℕ, zero, suc, ◌+◌, ◌-◌, ◌≤◌, ◌<◌, eqb, length, get_or, take, drop}
use Rattle.std.proofs.Math.Path.{refl, ap}
use Rattle.std.proofs.Common.{sym, ◌∙◌, arith, take_at, drop_at}
use mathlib.Core.List.{List, ◌∷◌, ◌++◌, append_assoc}
use Rattle.std.proofs.Math.Option.{Option, some, none}
use borrow.Author.Tests.{eq-eqb, eqb-true}
use Rattle.code.specs.Segment.{check, syndrome_of, separator, marker, block, segment}
use Rattle.code.proofs.laws.Segment.{marker-Apart}
use Rattle.code.proofs.laws.Edits.{both}
use Rattle.code.specs.Reading.{is_prefix, three_equal, Shift, level, early, late, moved, first_shift, separator_at, check_agrees, message_at, message_without, read_whole, message, clean}
use Rattle.code.proofs.laws.Reading.{drop_off, drop_last, prefix_self, at_none}
use Rattle.code.proofs.laws.EditedBlock.{heads}

-- The message

module _ (m : List ℕ) (z : List ℕ) where
  abbrev whole_block : List ℕ
  whole_block = m ++ check m ∷ z

  takes : take (length m) whole_block ≡ m
  takes = take_at m (check m ∷ z) (length m) refl

  check_sees : check_agrees (length m) whole_block m ≡ true
  unfolding check_agrees is_prefix
  check_sees = rw (drop_at m (check m ∷ z) (length m) refl, eq-eqb (check m) (check m) refl)

  -- the check alone is enough
  pub gives_level : separator_at (length m) whole_block ≡ some level → read_whole (length m) whole_block (separator_at (length m) whole_block) ≡ message m
  unfolding message_at
  gives_level e = rw (e, takes, check_sees)

  pub gives_none : separator_at (length m) whole_block ≡ none → read_whole (length m) whole_block (separator_at (length m) whole_block) ≡ message m
  unfolding message_without
  gives_none e = rw (e, takes, check_sees)

-- no separator among the symbols behind the check
pub none_found : (m : List ℕ) (c x y z u : ℕ) (w : List ℕ) → three_equal (x ∷ y ∷ z ∷ u ∷ w) ≡ false → three_equal (c ∷ x ∷ y ∷ z ∷ u ∷ w) ≡ false → three_equal (y ∷ z ∷ u ∷ w) ≡ false → separator_at (length m) (m ++ c ∷ x ∷ y ∷ z ∷ u ∷ w) ≡ none
none_found m c x y z u w a b d =
    let l = c ∷ x ∷ y ∷ z ∷ u ∷ w in
    at_none (length m) (m ++ l) (rw (drop_off (length m + 1) m l 1 (omega arith)) a) (rw (drop_off (length m + 1 - 1) m l 0 (omega arith)) b)
    (rw (drop_off (length m + 1 + 1) m l 2 (omega arith)) d)

-- A clean segment

-- a clean segment begins with two equal symbols that are neither f nor the symbol after them
pub record Front (f x y z : ℕ) : Type 0 where
  pub equal : x ≡ y
  pub not_f : x ≡ f → ⊥
  pub not_next : x ≡ z → ⊥

pub clean-Front : (k f x y z : ℕ) (w : List ℕ) → 0 < k → clean k f (x ∷ y ∷ z ∷ w) (x ∷ y ∷ z ∷ w) ≡ true → Front f x y z
unfolding clean segment is_prefix
clean-Front (suc k) f x y z w h e =
    let m = z ∷ take k w in
    let a = marker-Apart f m in
    let p = both (eqb (marker f m) x) _ e in
    let q = both (eqb (marker f m) y) _ p.1 in
    let i = eqb-true (marker f m) x p.0 in
    let j = eqb-true (marker f m) y q.0 in
    record { equal = sym i ∙ j; not_f = λ g. a.first (i ∙ g); not_next = λ g. a.second (i ∙ g) }
clean-Front zero f x y z w h e = absurd (omega arith)

-- what is written is clean, whatever stands behind it
pub clean_written : (f : ℕ) (m r letters : List ℕ) → clean (length m) f (segment true f m ++ r) (segment true f m ++ letters) ≡ true
unfolding clean segment block
clean_written f m r letters =
    let b = check m ∷ separator m ∷ separator m ∷ separator m ∷ syndrome_of m in
    rw (append_assoc m b r, take_at m (b ++ r) (length m) refl) (prefix_self (marker f m ∷ marker f m ∷ (m ++ b)) letters)

-- The end, where a clean segment follows

pub is_false : (b : Bool) → (b ≡ true → ⊥) → b ≡ false
is_false true h = absurd (h refl)
is_false false h = refl

-- the search for the end about n
abbrev pub search : ℕ → ℕ → ℕ → List ℕ → Option Shift
search n k f s = first_shift (λ e. clean k f (drop (moved e n) s) (drop (moved e n) s))

module _ (n f : ℕ) (m : List ℕ) (two : 2 ≤ length m) (r : List ℕ) where
  -- its marker, first symbols and rest
  follower_is : (w : List ℕ) × (segment true f m ++ r ≡ marker f m ∷ marker f m ∷ get_or m 0 0 ∷ get_or m 1 0 ∷ w)
  unfolding segment block
  follower_is =
      let b = check m ∷ separator m ∷ separator m ∷ separator m ∷ syndrome_of m in
      (drop 2 m ++ b ++ r, ap (λ (l : List ℕ). marker f m ∷ marker f m ∷ (l ++ b) ++ r) (heads m two))

  pub ends_level : (u : List ℕ) → length u ≡ n → search n (length m) f (u ++ (segment true f m ++ r)) ≡ some level
  ends_level u e = rw (drop_off n u (segment true f m ++ r) 0 (omega arith), clean_written f m r r)

  pub ends_early : (u : List ℕ) → suc (length u) ≡ n → search n (length m) f (u ++ (segment true f m ++ r)) ≡ some early
  ends_early u e =
      let q = follower_is in
      let a = marker-Apart f m in
      let l : clean (length m) f (drop n (u ++ (segment true f m ++ r))) (drop n (u ++ (segment true f m ++ r))) ≡ false = rw (drop_off n u (segment true f m ++ r) 1 (omega arith), q.1) (is_false _ (λ h. a.second (clean-Front (length m) f (marker f m) (get_or m 0 0) (get_or m 1 0) q.0 (omega arith) h).equal)) in
      let y : clean (length m) f (drop (n - 1) (u ++ (segment true f m ++ r))) (drop (n - 1) (u ++ (segment true f m ++ r))) ≡ true = rw (drop_off (n - 1) u (segment true f m ++ r) 0 (omega arith)) (clean_written f m r r) in
      rw (l, y)

  pub ends_late : (u : List ℕ) → length u ≡ n → 0 < n → search n (length m) f (u ++ f ∷ (segment true f m ++ r)) ≡ some late
  ends_late u e p =
      let q = follower_is in
      let k = marker f m in
      let v = f ∷ (segment true f m ++ r) in
      let l : clean (length m) f (drop n (u ++ v)) (drop n (u ++ v)) ≡ false = rw (drop_off n u v 0 (omega arith), q.1) (is_false _ (λ h. (clean-Front (length m) f f k k (get_or m 0 0 ∷ get_or m 1 0 ∷ q.0) (omega arith) h).not_f refl)) in
      let d : drop (n - 1) (u ++ v) ≡ get_or u (n - 1) 0 ∷ v = drop_last (n - 1) u v (omega arith) in
      let y : clean (length m) f (drop (n - 1) (u ++ v)) (drop (n - 1) (u ++ v)) ≡ false = rw (d, q.1) (is_false _ (λ h. let g = clean-Front (length m) f (get_or u (n - 1) 0) f k (k ∷ get_or m 0 0 ∷ get_or m 1 0 ∷ q.0) (omega arith) h in g.not_f g.equal)) in
      let z : clean (length m) f (drop (n + 1) (u ++ v)) (drop (n + 1) (u ++ v)) ≡ true = rw (drop_off (n + 1) u v 1 (omega arith)) (clean_written f m r r) in
      rw (l, y, z)
