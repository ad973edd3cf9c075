-- Laws of edits: across joined lists, and what a piece under one edit is judged.
use Rattle.std.specs.Prelude.{◌≡◌, refl, Bool, true, false, ◌&&◌, List, [], ◌∷◌, ◌++◌, ℕ, zero, suc, ◌+◌, ◌-◌, ◌≤◌, ◌<◌, eqb, length, set}
use Rattle.std.proofs.Common.{ap, lt_of_not-le, not-suc-le-zero, le_of_suc-le-suc, arith, eq-eqb, eqb-true}
use Rattle.std.proofs.Math.Decide.{dec_le}
use Rattle.std.proofs.lemmas.List.{set-append_left}
use Rattle.code.specs.Repair.{put_in, leave_out}
use Rattle.code.specs.Edits.{applied, Fits, same}
use Rattle.code.specs.declared.Edit.{Edit}
use Rattle.code.specs.declared.Edit.TheVariants.{None, Sub, Del, Ins}

-- An edit in the first of two joined lists, or behind it

-- the place of an edit is at least n; no edit has no place
abbrev pub From : ℕ → Edit → Type 0
From n None = ⊥
From n (Sub i x) = n ≤ i
From n (Del i x) = n ≤ i
From n (Ins i x) = n ≤ i

pub from? : (n : ℕ) (e : Edit) → Dec (From n e)
from? n None = no (λ p. p)
from? n (Sub i x) = dec_le n i
from? n (Del i x) = dec_le n i
from? n (Ins i x) = dec_le n i

-- an edit with its place counted from n
abbrev pub less : ℕ → Edit → Edit
less n None = None
less n (Sub i x) = Sub (i - n) x
less n (Del i x) = Del (i - n) x
less n (Ins i x) = Ins (i - n) x

leave_left : (i : ℕ) (u w : List ℕ) → i < length u → leave_out i (u ++ w) ≡ leave_out i u ++ w
leave_left i [] w h = absurd (not-suc-le-zero h)
leave_left zero (x ∷ u) w h = refl
leave_left (suc i) (x ∷ u) w h = ap (λ (l : List ℕ). x ∷ l) (leave_left i u w (le_of_suc-le-suc h))

put_left : (i x : ℕ) (u w : List ℕ) → i ≤ length u → put_in i x (u ++ w) ≡ put_in i x u ++ w
put_left zero x u w h = refl
put_left (suc i) x [] w h = absurd (not-suc-le-zero h)
put_left (suc i) x (y ∷ u) w h = ap (λ (l : List ℕ). y ∷ l) (put_left i x u w (le_of_suc-le-suc h))

-- an edit that fits the first list changes that one
pub applied_left : (e : Edit) (u w : List ℕ) → Fits 4 e (length u) → applied e (u ++ w) ≡ applied e u ++ w
applied_left None u w h = refl
applied_left (Sub i x) u w h = set-append_left u w i x h.0
applied_left (Del i x) u w h = leave_left i u w h
applied_left (Ins i x) u w h = put_left i x u w h.0

set_right : (i x : ℕ) (u w : List ℕ) → length u ≤ i → set (u ++ w) i x ≡ u ++ set w (i - length u) x
set_right i x [] w h = let e : i - 0 ≡ i = omega arith in rw e
set_right zero x (y ∷ u) w h = absurd (not-suc-le-zero h)
set_right (suc i) x (y ∷ u) w h =
    let e : suc i - suc (length u) ≡ i - length u = omega arith in
    rw e (ap (λ (l : List ℕ). y ∷ l) (set_right i x u w (le_of_suc-le-suc h)))

leave_right : (i : ℕ) (u w : List ℕ) → length u ≤ i → leave_out i (u ++ w) ≡ u ++ leave_out (i - length u) w
leave_right i [] w h = let e : i - 0 ≡ i = omega arith in rw e
leave_right zero (y ∷ u) w h = absurd (not-suc-le-zero h)
leave_right (suc i) (y ∷ u) w h =
    let e : suc i - suc (length u) ≡ i - length u = omega arith in
    rw e (ap (λ (l : List ℕ). y ∷ l) (leave_right i u w (le_of_suc-le-suc h)))

put_right : (i x : ℕ) (u w : List ℕ) → length u ≤ i → put_in i x (u ++ w) ≡ u ++ put_in (i - length u) x w
put_right i x [] w h = let e : i - 0 ≡ i = omega arith in rw e
put_right zero x (y ∷ u) w h = absurd (not-suc-le-zero h)
put_right (suc i) x (y ∷ u) w h =
    let e : suc i - suc (length u) ≡ i - length u = omega arith in
    rw e (ap (λ (l : List ℕ). y ∷ l) (put_right i x u w (le_of_suc-le-suc h)))

-- an edit behind the first list changes the second
pub applied_right : (e : Edit) (u w : List ℕ) → From (length u) e → applied e (u ++ w) ≡ u ++ applied (less (length u) e) w
applied_right None u w h = absurd h
applied_right (Sub i x) u w h = set_right i x u w h
applied_right (Del i x) u w h = leave_right i u w h
applied_right (Ins i x) u w h = put_right i x u w h

pub Fits-right : (e : Edit) (n m : ℕ) → From n e → Fits 4 e (n + m) → Fits 4 (less n e) m
Fits-right None n m h f = absurd h
Fits-right (Sub i x) n m h f = (omega (arith, f.0), f.1)
Fits-right (Del i x) n m h f = omega arith
Fits-right (Ins i x) n m h f = (omega (arith, f.0), f.1)

-- an edit that is not behind the first n of n + m letters fits them
pub Fits-left : (e : Edit) (n m : ℕ) → Fits 4 e (n + m) → (From n e → ⊥) → Fits 4 e n
Fits-left None n m f o = tt
Fits-left (Sub i x) n m f o = (lt_of_not-le o, f.1)
Fits-left (Del i x) n m f o = lt_of_not-le o
Fits-left (Ins i x) n m f o = let l = lt_of_not-le o in (omega arith, f.1)

-- an edit counted from n is behind m of them only if it is behind n + m
pub From-less : (e : Edit) (n m : ℕ) → From m (less n e) → From n e → From (n + m) e
From-less None n m h f = f
From-less (Sub i x) n m h f = omega arith
From-less (Del i x) n m h f = omega arith
From-less (Ins i x) n m h f = omega arith

-- Equal lists

pub both : (a b : Bool) → (a && b) ≡ true → (a ≡ true) × (b ≡ true)
both true b e = (refl, e)
both false b e = (e, cc)

pub same_refl : (w : List ℕ) → same w w ≡ true
unfolding same
same_refl [] = refl
same_refl (x ∷ w) = rw (eq-eqb x x refl) (same_refl w)

pub same-true : (w v : List ℕ) → same w v ≡ true → w ≡ v
unfolding same
same-true [] [] e = refl
same-true [] (y ∷ v) e = cc
same-true (x ∷ w) [] e = cc
same-true (x ∷ w) (y ∷ v) e =
    let h = both (eqb x y) (same w v) e in
    let p : x ≡ y = eqb-true x y h.0 in
    let q : w ≡ v = same-true w v h.1 in
    cc
