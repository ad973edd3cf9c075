-- The search for the separator, and what a separator that was found tells.
use Rattle.std.specs.Prelude as Prelude
use Rattle.std.specs.Prelude.{Some, None}
use mathlib.Core.Path.{◌≡◌, refl, sym, subst, ◌∙◌}
use mathlib.Core.Bool.{Bool, true, false, cond, false≢true}
use mathlib.Core.List.{List, [], ◌∷◌}
use mathlib.Core.Option.{Option, some, none}
use Prim.Native.Nat.{ℕ, ◌+◌, ◌≤◌}
use native.Mathlib.Omega.{arith}
use lib.ListN.{length, drop, length-drop}
use lib.Seq.{drop-drop}
use Rattle.code.specs.Reading.{three_equal, level, early, late, moved, first_shift, separator_at}
use Rattle.code.specs.Reading as R
use Rattle.message.specs.declared.Shift.{Shift}
use Rattle.message.specs.declared.Shift.TheVariants.{Level, Early, Late}
use Rattle.message.specs.MessageAnswers.{separator_as, shift_as}

-- a test at a place behind d, as the code makes it
pub test_at : (s : List ℕ) (d n at : ℕ) (t b : Bool) → at ≡ d + n → t ≡ three_equal (drop at s) → t ≡ b → three_equal (drop n (drop d s)) ≡ b
test_at s d n at t b e f g = rw (drop-drop n d s, ← e) (sym f ∙ g)

-- a separator that was found lies inside
three_room_lem : (s : List ℕ) → three_equal s ≡ true → 3 ≤ length s
unfolding three_equal
three_room_lem [] e = absurd (false≢true e)
three_room_lem (x ∷ []) e = absurd (false≢true e)
three_room_lem (x ∷ y ∷ []) e = absurd (false≢true e)
three_room_lem (x ∷ y ∷ z ∷ s) e = omega arith

-- the shift that a search finds passes the test
first_true : (p : R.Shift → Bool) (j : R.Shift) → first_shift p ≡ some j → p j ≡ true
first_true p j h = go (p level) (p early) (p late) refl refl refl h
  where
    never : {x : R.Shift} → none ≡ some x → ⊥
    never e = let z : ◌≡◌ {A = ℕ} 0 1 = cc in omega arith

    go : (a b c : Bool) → p level ≡ a → p early ≡ b → p late ≡ c → cond a (some level) (cond b (some early) (cond c (some late) none)) ≡ some j → p j ≡ true
    go true b c x y z e = let q : level ≡ j = cc in rw (← q) x
    go false true c x y z e = let q : early ≡ j = cc in rw (← q) y
    go false false true x y z e = let q : late ≡ j = cc in rw (← q) z
    go false false false x y z e = absurd (never e)

found_true : (k : ℕ) (d : List ℕ) (j : R.Shift) → separator_at k d ≡ some j → three_equal (drop (moved j (k + 1)) d) ≡ true
unfolding separator_at
found_true k d j e = first_true (λ i. three_equal (drop (moved i (k + 1)) d)) j e

-- the separator behind the k symbols from D on was found with a shift
pub record Found (k : ℕ) (shift : Shift) (d : List ℕ) : Type 0 where
  pub is : separator_at k d ≡ some (shift_as shift)
  pub room : moved (shift_as shift) (k + 1) + 3 ≤ length d

module _ (k : ℕ) (d : List ℕ) (found : Prelude.Option Shift) (is : found ≡ separator_as (separator_at k d)) where
  pub found_Some : (shift : Shift) → found ≡ Some shift → Found k shift d
  found_Some shift told = go (separator_at k d) refl (sym told ∙ is)
    where
      at : (x : Shift) → shift ≡ x → separator_at k d ≡ some (shift_as x) → Found k shift d
      at x e q = subst (λ (y : Shift). Found k y d) (sym e) (record { is = q; room = omega (arith, three_room_lem (drop (moved (shift_as x) (k + 1)) d) (found_true k d (shift_as x) q), length-drop (moved (shift_as x) (k + 1)) d) })

      go : (o : Option R.Shift) → separator_at k d ≡ o → Some shift ≡ separator_as o → Found k shift d
      go none q f = let z : ◌≡◌ {A = ℕ} 0 1 = cc in absurd (omega arith)
      go (some level) q f = at Level (cc) q
      go (some early) q f = at Early (cc) q
      go (some late) q f = at Late (cc) q
