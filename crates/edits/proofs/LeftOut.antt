-- A list with one letter left out, by its letters and its length.
use mathlib.Core.Path.{◌≡◌, refl, sym, ap}
use mathlib.Core.List.{List, [], ◌∷◌, append-nil}
use Prim.Native.Nat.{ℕ, zero, suc, ◌≤◌, ◌<◌}
use native.Mathlib.Nat.{not-suc-le-zero, le_of_suc-le-suc}
use native.Mathlib.Omega.{arith}
use lib.ListN.{length, get_or, length-append, length-take, length-drop, drop_of_length-le}
use lib.Seq.{take_all}
use Rattle.code.specs.Repair.{put_in, leave_out}

-- the letters before the place stay
pub leave_low : (j k : ℕ) (w : List ℕ) → k < j → get_or (leave_out j w) k 0 ≡ get_or w k 0
leave_low zero k w h = absurd (not-suc-le-zero h)
leave_low (suc j) k [] h = refl
leave_low (suc j) zero (x ∷ w) h = refl
leave_low (suc j) (suc k) (x ∷ w) h = leave_low j k w (le_of_suc-le-suc h)

-- those behind it move up
pub leave_high : (j k : ℕ) (w : List ℕ) → j ≤ k → get_or (leave_out j w) k 0 ≡ get_or w (suc k) 0
leave_high zero k [] h = refl
leave_high zero k (x ∷ w) h = refl
leave_high (suc j) k [] h = refl
leave_high (suc j) zero (x ∷ w) h = absurd (not-suc-le-zero h)
leave_high (suc j) (suc k) (x ∷ w) h = leave_high j k w (le_of_suc-le-suc h)

-- what is put in can be left out, and what is left out put in
pub leave_put : (j x : ℕ) (w : List ℕ) → j ≤ length w → leave_out j (put_in j x w) ≡ w
leave_put zero x w h = refl
leave_put (suc j) x [] h = absurd (not-suc-le-zero h)
leave_put (suc j) x (y ∷ w) h = ap (λ (l : List ℕ). y ∷ l) (leave_put j x w (le_of_suc-le-suc h))

pub put_leave : (j : ℕ) (v : List ℕ) → j < length v → put_in j (get_or v j 0) (leave_out j v) ≡ v
put_leave j [] h = absurd (not-suc-le-zero h)
put_leave zero (y ∷ v) h = refl
put_leave (suc j) (y ∷ v) h = ap (λ (l : List ℕ). y ∷ l) (put_leave j v (le_of_suc-le-suc h))

-- past the end nothing is left out
pub leave_past : (j : ℕ) (w : List ℕ) → length w ≤ j → leave_out j w ≡ w
leave_past j w h =
    let k : length w ≤ suc j = omega arith in
    rw (take_all j w h, drop_of_length-le w k) (append-nil w)

pub leave_le : (j : ℕ) (w : List ℕ) → length (leave_out j w) ≤ length w
leave_le j w = simp (length-append, length-take, length-drop) (omega arith)

pub leave_ge : (j : ℕ) (w : List ℕ) → length w ≤ suc (length (leave_out j w))
leave_ge j w = simp (length-append, length-take, length-drop) (omega arith)

-- which of two equal neighbours is left out makes no difference
pub leave_next : (w : List ℕ) (i : ℕ) → suc i < length w → get_or w i 0 ≡ get_or w (suc i) 0 → leave_out i w ≡ leave_out (suc i) w
leave_next [] i h e = absurd (not-suc-le-zero h)
leave_next (x ∷ []) zero h e = absurd (omega arith)
leave_next (x ∷ y ∷ w) zero h e = λ j. sym e j ∷ w
leave_next (x ∷ w) (suc i) h e = ap (λ (l : List ℕ). x ∷ l) (leave_next w i (le_of_suc-le-suc h) e)
