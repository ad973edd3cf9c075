-- Linked words by place: a bit set, left out or put in, and what that does to the sum of places.
use Rattle.std.specs.Prelude.{◌≡◌, refl, Bool, true, false, not, cond, [], ◌∷◌, ℕ, zero, suc, ◌+◌, ◌≤◌, ◌<◌, length, get_or, drop, set}
use Rattle.std.proofs.Common.{ap, true≢false, not-suc-le-zero, le_of_suc-le-suc, arith}
use Rattle.std.proofs.lemmas.Bool.{false≢true}
use Rattle.code.specs.Layers.{Word, ones, sum_of_places}
use Rattle.code.proofs.laws.Layers.{sum_cons}
use Rattle.code.specs.Links.{Without, here, there, Change, raised, lowered, later}
use Rattle.code.proofs.laws.Links.{Without-ones}
use Rattle.code.specs.Repair.{put_in, leave_out}

-- One bit put in

pub put_Without : (i : ℕ) (b : Bool) (r : Word) → i ≤ length r → Without b (put_in i b r) r
put_Without zero b r h = here
put_Without (suc i) b [] h = absurd (not-suc-le-zero h)
put_Without (suc i) b (x ∷ r) h = there (put_Without i b r (le_of_suc-le-suc h))

-- a bit put in before place i adds the ones from there on, and its own place if it is a one
pub put_sum : (i : ℕ) (b : Bool) (r : Word) → i ≤ length r → sum_of_places (put_in i b r) ≡ sum_of_places r + ones (drop i r) + cond b (suc i) 0
unfolding ones
put_sum zero b r h = omega (arith, sum_cons b r)
put_sum (suc i) b [] h = absurd (not-suc-le-zero h)
put_sum (suc i) true (x ∷ r) h =
    let l = le_of_suc-le-suc h in
    omega (arith, put_sum i true r l, Without-ones (put_Without i true r l), sum_cons x (put_in i true r), sum_cons x r)
put_sum (suc i) false (x ∷ r) h =
    let l = le_of_suc-le-suc h in
    omega (arith, put_sum i false r l, Without-ones (put_Without i false r l), sum_cons x (put_in i false r), sum_cons x r)

-- a word less one bit, with the bit's place
pub put_place : {b : Bool} {w r : Word} → Without b w r → (i : ℕ) × (i ≤ length r) × (w ≡ put_in i b r)
put_place here = (0, omega arith, refl)
put_place (there {x = x} i) = let h = put_place i in (suc h.0, omega (arith, h.1), ap (λ (l : Word). x ∷ l) h.2)

-- One bit left out

pub left_Without : (i : ℕ) (r : Word) → i < length r → Without (get_or r i false) r (leave_out i r)
left_Without i [] h = absurd (not-suc-le-zero h)
left_Without zero (x ∷ r) h = here
left_Without (suc i) (x ∷ r) h = there (left_Without i r (le_of_suc-le-suc h))

-- the bit at place i left out takes away the ones behind it, and its own place if it is a one
pub left_sum : (i : ℕ) (r : Word) → i < length r → sum_of_places r ≡ sum_of_places (leave_out i r) + ones (drop (suc i) r) + cond (get_or r i false) (suc i) 0
unfolding ones
left_sum i [] h = absurd (not-suc-le-zero h)
left_sum zero (x ∷ r) h = omega (arith, sum_cons x r)
left_sum (suc i) (x ∷ r) h = go (get_or r i false) refl (le_of_suc-le-suc h) (left_sum i r (le_of_suc-le-suc h))
  where
    go : (b : Bool) → get_or r i false ≡ b → (l : i < length r) → sum_of_places r ≡ sum_of_places (leave_out i r) + ones (drop (suc i) r) + cond (get_or r i false) (suc i) 0 → sum_of_places (x ∷ r) ≡ sum_of_places (x ∷ leave_out i r) + ones (drop (suc i) r) + cond (get_or r i false) (suc (suc i)) 0
    go true e l h =
        let o = Without-ones (left_Without i r l) in
        rw e (omega (arith, rw e at h, rw e at o, sum_cons x r, sum_cons x (leave_out i r)))
    go false e l h =
        let o = Without-ones (left_Without i r l) in
        rw e (omega (arith, rw e at h, rw e at o, sum_cons x r, sum_cons x (leave_out i r)))

pub left_place : {b : Bool} {w r : Word} → Without b r w → (i : ℕ) × (i < length r) × (w ≡ leave_out i r)
left_place here = (0, omega arith, refl)
left_place (there {x = x} i) = let h = left_place i in (suc h.0, omega (arith, h.1), ap (λ (l : Word). x ∷ l) h.2)

-- One bit changed

pub set_change : (i : ℕ) (b : Bool) (r : Word) → i < length r → get_or r i false ≡ not b → Change b (suc i) (set r i b) r
set_change i b [] h e = absurd (not-suc-le-zero h)
set_change zero true (false ∷ r) h e = raised
set_change zero false (true ∷ r) h e = lowered
set_change zero true (true ∷ r) h e = absurd (true≢false e)
set_change zero false (false ∷ r) h e = absurd (false≢true e)
set_change (suc i) b (x ∷ r) h e = later (set_change i b r (le_of_suc-le-suc h) e)

-- a changed word, with the bit's place
pub record SetAt (b : Bool) (p : ℕ) (w r : Word) : Type 0 where
  pub place : ℕ
  pub counted : p ≡ suc place
  pub inside : place < length r
  pub other : get_or r place false ≡ not b
  pub is : w ≡ set r place b

pub change_set : {b : Bool} {p : ℕ} {w r : Word} → Change b p w r → SetAt b p w r
change_set raised = record { place = 0; counted = refl; inside = omega arith; other = refl; is = refl }
change_set lowered = record { place = 0; counted = refl; inside = omega arith; other = refl; is = refl }
change_set (later {x = x} i) =
    let h = change_set i in
    record { place = suc h.place; counted = ap suc h.counted; inside = omega (arith, h.inside); other = h.other; is = ap (λ (l : Word). x ∷ l) h.is }
