-- What two lists share at the front, and where a run of equal letters starts.
use mathlib.Core.Path.{◌≡◌, refl, sym, ap, ◌∙◌}
use mathlib.Core.Bool.{Bool, true, false, cond}
use mathlib.Core.List.{List, [], ◌∷◌}
use Prim.Native.Nat.{ℕ, zero, suc, ◌+◌, ◌-◌, min, ◌≤◌, ◌<◌}
use native.Mathlib.Decide.{dec_le}
use native.Mathlib.Numerals.{add-one}
use native.Mathlib.Omega.{arith}
use borrow.Author.Tests.{eq-eqb, ne_eqb, eqb-true, eqb-false}
use lib.Dec.{eqb}
use lib.ListN.{length, get_or, take, drop, set, length-drop, drop_of_length-le}
use lib.Seq.{drop-cons, drop-drop, get_or-take}
use Rattle.code.specs.Symbols.{Below}
use Rattle.code.specs.Repair.{leave_out}
use Rattle.places.specs.Words.{word_of}
use Rattle.places.proofs.laws.Words.{word_place}
use Rattle.edits.specs.Judgement.{common, run_start}
use Rattle.edits.proofs.LeftOut.{leave_next}

-- The front that two lists share

-- compared letter by letter, from place i on
module _ (w v : List ℕ) (i : ℕ) where
  pub common_turn : i < length w → i < length v → get_or w i 0 ≡ get_or v i 0 → common (drop i w) (drop i v) ≡ suc (common (drop (i + 1) w) (drop (i + 1) v))
  unfolding common
  common_turn h k e = rw (add-one, drop-cons w i 0 h, drop-cons v i 0 k, eq-eqb (get_or w i 0) (get_or v i 0) e)

  pub common_stop : i < length w → i < length v → (get_or w i 0 ≡ get_or v i 0 → ⊥) → common (drop i w) (drop i v) ≡ 0
  unfolding common
  common_stop h k e = rw (drop-cons w i 0 h, drop-cons v i 0 k, ne_eqb (get_or w i 0) (get_or v i 0) e)

  common_past : length w ≤ i → common (drop i w) (drop i v) ≡ 0
  unfolding common
  common_past h = rw (drop_of_length-le w h)

common-nil : (w : List ℕ) → common w [] ≡ 0
unfolding common
common-nil [] = refl
common-nil (x ∷ w) = refl

common_past' : (w v : List ℕ) (i : ℕ) → length v ≤ i → common (drop i w) (drop i v) ≡ 0
common_past' w v i h = rw (drop_of_length-le v h) (common-nil (drop i w))

pub common_end : (w v : List ℕ) (i : ℕ) → min (length w) (length v) ≤ i → common (drop i w) (drop i v) ≡ 0
common_end w v i h = go (dec_le (length w) i)
  where
    go : Dec (length w ≤ i) → common (drop i w) (drop i v) ≡ 0
    go (yes k) = common_past w v i k
    go (no k) = common_past' w v i (omega arith)

-- compared by eight letters

common_front : (n : ℕ) (w v : List ℕ) → n ≤ length w → take n w ≡ take n v → common w v ≡ n + common (drop n w) (drop n v)
unfolding common
common_front zero w v h e = omega arith
common_front (suc n) [] v h e = absurd (omega arith)
common_front (suc n) (x ∷ w) [] h e = cc
common_front (suc n) (x ∷ w) (y ∷ v) h e =
    let p : x ≡ y = cc in
    let r = common_front n w v (omega arith) cc in
    rw (eq-eqb x y p) (omega arith)

pub common_words : (w v : List ℕ) (i : ℕ) → Below 256 w → Below 256 v → i + 8 ≤ length w → i + 8 ≤ length v → word_of (take 8 (drop i w)) ≡ word_of (take 8 (drop i v)) → common (drop i w) (drop i v) ≡ 8 + common (drop (i + 8) w) (drop (i + 8) v)
common_words w v i s t h k q =
    rw (← drop-drop 8 i w, ← drop-drop 8 i v)
    (common_front 8 (drop i w) (drop i v) (simp length-drop (omega arith)) (word_place 8 w v i i h k s t q))

-- the shared front is no longer than either list, and is the same in both
pub record Shared (w v : List ℕ) (c : ℕ) : Type 0 where
  pub first : c ≤ length w
  pub second : c ≤ length v
  pub front : take c w ≡ take c v

pub shared : (w v : List ℕ) → Shared w v (common w v)
unfolding common
shared [] v = record { first = omega arith; second = omega arith; front = refl }
shared (x ∷ w) [] = record { first = omega arith; second = omega arith; front = refl }
shared (x ∷ w) (y ∷ v) = go (eqb x y) refl (shared w v)
  where
    go : (b : Bool) → eqb x y ≡ b → Shared w v (common w v) → Shared (x ∷ w) (y ∷ v) (cond b (suc (common w v)) 0)
    go true e s =
        let p : x ≡ y = eqb-true x y e in
        let f = s.front in
        record { first = omega (arith, s.first); second = omega (arith, s.second); front = λ j. p j ∷ f j }
    go false e s = record { first = omega arith; second = omega arith; front = refl }

pub shared_at : (w v : List ℕ) (j : ℕ) → j < common w v → get_or w j 0 ≡ get_or v j 0
shared_at w v j h =
    sym (get_or-take (common w v) w j 0 h) ∙ ap (λ (l : List ℕ). get_or l j 0) (shared w v).front ∙ get_or-take (common w v) v j 0 h

self : (w : List ℕ) → common w w ≡ length w
unfolding common
self [] = refl
self (x ∷ w) = rw (eq-eqb x x refl) (ap suc (self w))

pub common_self : (w v : List ℕ) → w ≡ v → common w v ≡ length w
common_self w v e = rw (← e) (self w)

pub common_sym : (w v : List ℕ) → common w v ≡ common v w
unfolding common
common_sym [] [] = refl
common_sym [] (y ∷ v) = refl
common_sym (x ∷ w) [] = refl
common_sym (x ∷ w) (y ∷ v) = go (eqb x y) refl (common_sym w v)
  where
    go : (b : Bool) → eqb x y ≡ b → common w v ≡ common v w → cond b (suc (common w v)) 0 ≡ cond (eqb y x) (suc (common v w)) 0
    go true e s = rw (eq-eqb y x (sym (eqb-true x y e))) (ap suc s)
    go false e s = rw (ne_eqb y x (λ f. eqb-false x y e (sym f)))

-- behind the first difference one changed letter leaves the rest as it was
pub set_rest : (j x : ℕ) (w : List ℕ) → drop (suc (common w (set w j x))) w ≡ drop (suc (common w (set w j x))) (set w j x)
unfolding common
set_rest j x [] = refl
set_rest zero x (y ∷ w) = refl
set_rest (suc j) x (y ∷ w) = rw (eq-eqb y y refl) (set_rest j x w)

-- behind the first difference one letter left out moves the rest by one
pub leave_rest : (j : ℕ) (w : List ℕ) → drop (suc (common w (leave_out j w))) w ≡ drop (common w (leave_out j w)) (leave_out j w)
unfolding common
leave_rest zero [] = refl
leave_rest (suc j) [] = refl
leave_rest zero (x ∷ w) = refl
leave_rest (suc j) (x ∷ w) = rw (eq-eqb x x refl) (leave_rest j w)

-- Runs of equal letters

pub run_turn : (w : List ℕ) (x p : ℕ) → 0 < p → get_or w (p - 1) 0 ≡ x → run_start w x p ≡ run_start w x (p - 1)
unfolding run_start
run_turn w x zero h e = absurd (omega arith)
run_turn w x (suc p) h e =
    let q : suc p - 1 ≡ p = omega arith in
    rw (q, eq-eqb (get_or w p 0) x (rw q at e))

pub run_stop : (w : List ℕ) (x p : ℕ) → 0 < p → (get_or w (p - 1) 0 ≡ x → ⊥) → run_start w x p ≡ p
unfolding run_start
run_stop w x zero h e = absurd (omega arith)
run_stop w x (suc p) h e =
    let q : suc p - 1 ≡ p = omega arith in
    rw (ne_eqb (get_or w p 0) x (rw q at e))

pub run_end : (w : List ℕ) (x p : ℕ) → p ≤ 0 → run_start w x p ≡ p
unfolding run_start
run_end w x zero h = refl
run_end w x (suc p) h = absurd (omega arith)

-- p is where the letters x that end at place i start
pub record Run (w : List ℕ) (x i p : ℕ) : Type 0 where
  pub le : p ≤ i
  pub at : get_or w p 0 ≡ x
  pub left : leave_out p w ≡ leave_out i w
  pub first : (q : ℕ) → p ≡ suc q → get_or w q 0 ≡ x → ⊥

pub run : (w : List ℕ) (x i : ℕ) → i < length w → get_or w i 0 ≡ x → Run w x i (run_start w x i)
unfolding run_start
run w x zero h e = record { le = omega arith; at = e; left = refl; first = λ q f g. omega arith }
run w x (suc i) h e = go (eqb (get_or w i 0) x) refl (λ g. run w x i (omega arith) g)
  where
    go : (b : Bool) → eqb (get_or w i 0) x ≡ b → (get_or w i 0 ≡ x → Run w x i (run_start w x i)) → Run w x (suc i) (cond b (run_start w x i) (suc i))
    go true f next =
        let g = eqb-true (get_or w i 0) x f in
        let r = next g in
        record { le = omega (arith, r.le); at = r.at; left = r.left ∙ leave_next w i h (g ∙ sym e); first = r.first }
    go false f next =
        record {
          le = omega arith;
          at = e;
          left = refl;
          first = λ q k g. let n : i ≡ q = omega arith in eqb-false (get_or w i 0) x f (rw n g);
        }
