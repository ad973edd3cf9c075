-- One step of each loop over lengths.
--   bad_turn, bad_end_lem   whether some length is outside its limits
--   sum_turn, sum_end       the sum
use mathlib.Core.Path.{◌≡◌, refl}
use mathlib.Core.Bool.{Bool, true, false, ◌||◌}
use mathlib.Core.List.{List}
use Prim.Native.Nat.{ℕ, suc, ◌+◌, ◌<◌, ◌≤◌}
use native.Mathlib.Numerals.{add-one}
use lib.ListN.{length, get_or, drop, drop_of_length-le}
use lib.Seq.{drop-cons}
use Rattle.code.specs.Limits.{least_length}
use Rattle.code.specs.Refusals.{outside}
use Rattle.code.specs.Layout.{sum}
use Rattle.code.specs.Order.{bad_length}

or_assoc : (a b c : Bool) → ((a || b) || c) ≡ (a || (b || c))
or_assoc true b c = refl
or_assoc false b c = refl

or_no : (a : Bool) → (a || false) ≡ a
or_no true = refl
or_no false = refl

module _ (ks : List ℕ) (i : ℕ) where
  pub bad_turn : (most : ℕ) (bad : Bool) → i < length ks → ((bad || outside least_length most (get_or ks i 0)) || bad_length most (drop (i + 1) ks)) ≡ (bad || bad_length most (drop i ks))
  unfolding bad_length
  bad_turn most bad h = rw (add-one, drop-cons ks i 0 h) (or_assoc bad (outside least_length most (get_or ks i 0)) (bad_length most (drop (suc i) ks)))

  pub bad_end_lem : (most : ℕ) (bad : Bool) → length ks ≤ i → (bad || bad_length most (drop i ks)) ≡ bad
  unfolding bad_length
  bad_end_lem most bad h = rw (drop_of_length-le ks h) (or_no bad)

  pub sum_turn : i < length ks → sum (drop i ks) ≡ get_or ks i 0 + sum (drop (i + 1) ks)
  unfolding sum
  sum_turn h = rw (add-one, drop-cons ks i 0 h)

  pub sum_end : length ks ≤ i → sum (drop i ks) ≡ 0
  unfolding sum
  sum_end h = rw (drop_of_length-le ks h)
