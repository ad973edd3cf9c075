-- The places that a repair has tried, from the last symbol to the first.
use mathlib.Core.Path.{◌≡◌, refl, sym, ◌∙◌}
use mathlib.Core.Bool.{Bool, true, false, cond}
use mathlib.Core.List.{List}
use mathlib.Core.Logic.{⊎_elim}
use Prim.Native.Nat.{ℕ, suc, ◌+◌, ◌-◌, ◌≤◌, ◌<◌}
use native.Mathlib.Nat.{eq-or-lt_of_le}
use native.Mathlib.Numerals.{add-one}
use native.Mathlib.Omega.{arith}
use lib.ListN.{length, get_or, drop, length-drop}
use Rattle.code.specs.Layers.{Word, bit, layer, digit, ones}
use Rattle.code.proofs.laws.Layers.{layer_at_lem, length-layer, ones-le}
use Rattle.layers.proofs.Ones.{ones_step, no_ones}

-- a symbol's bit as the layer has it
module _ (s : ℕ) (m : List ℕ) (i n : ℕ) (inside : i < length m) (read : n ≡ digit (bit s (get_or m i 0))) where
  pub reads_zero : n ≡ 0 → get_or (layer s m) i false ≡ false
  reads_zero e = layer_at_lem s m i inside ∙ go (bit s (get_or m i 0)) (sym read ∙ e)
    where
      go : (b : Bool) → digit b ≡ 0 → b ≡ false
      go true h = absurd (omega arith)
      go false h = refl

  pub reads_one : (n ≡ 0 → ⊥) → get_or (layer s m) i false ≡ true
  reads_one h = layer_at_lem s m i inside ∙ go (bit s (get_or m i 0)) (λ e. h (read ∙ e))
    where
      go : (b : Bool) → (digit b ≡ 0 → ⊥) → b ≡ true
      go true f = refl
      go false f = absurd (f refl)

-- ones are no more than symbols
pub ones_few : (s : ℕ) (m : List ℕ) (i o : ℕ) → o ≡ ones (drop i (layer s m)) → o ≤ length m
ones_few s m i o e = omega (arith, ones-le (drop i (layer s m)), length-drop i (layer s m), length-layer s m)

-- no bit left out at place i or behind takes d from the sum; o ones stand from i on
pub record MoreTried (r : Word) (d i o : ℕ) : Type 0 where
  pub counted : o ≡ ones (drop i r)
  pub tried : (j : ℕ) → i ≤ j → j < length r → ones (drop (suc j) r) + cond (get_or r j false) (suc j) 0 ≡ d → ⊥

-- no bit put in at place i or behind adds d to the sum; o ones stand from the place before i on
pub record LessTried (r : Word) (d i o : ℕ) : Type 0 where
  pub counted : o ≡ ones (drop (i - 1) r)
  pub tried : (j : ℕ) (b : Bool) → i ≤ j → j ≤ length r → ones (drop j r) + cond b (suc j) 0 ≡ d → ⊥

-- with place i tried too, none from i on is left
pub less_turn : (r : Word) (d i o p : ℕ) → LessTried r d (suc i) o → p ≡ ones (drop (i - 1) r) → (o ≡ d → ⊥) → (o + i + 1 ≡ d → ⊥) → LessTried r d i p
less_turn r d i o p t c n n' =
    record {
      counted = c;
      tried = λ k b l f g. ⊎_elim (λ (q : i ≡ k). at b (rw q g)) (λ (q : i < k). t.tried k b q f g) (eq-or-lt_of_le l);
    }
  where
    here : o ≡ ones (drop i r)
    here = let e : suc i - 1 ≡ i = omega arith in rw e at t.counted

    at : (b : Bool) → ones (drop i r) + cond b (suc i) 0 ≡ d → ⊥
    at false e = n (omega (arith, here))
    at true e = n' (omega (arith, here))

module _ (s : ℕ) (m : List ℕ) (d : ℕ) where
  pub more_begin : MoreTried (layer s m) d (length m) 0
  more_begin = record { counted = sym (no_ones s m); tried = λ j l h e. omega (arith, length-layer s m) }

  -- place j is next, and b is its bit
  module _ (i j o b : ℕ) (next : i ≡ suc j) (inside : j < length m) (read : b ≡ digit (bit s (get_or m j 0))) where
    -- p is what the place adds
    module _ (p : ℕ) (adds : p ≡ cond (bit s (get_or m j 0)) (j + 1) 0) (t : MoreTried (layer s m) d i o) where
      pub more_few : o + p ≤ length m + length m
      more_few = go (bit s (get_or m j 0)) adds
        where
          go : (x : Bool) → p ≡ cond x (j + 1) 0 → o + p ≤ length m + length m
          go true e = omega (arith, ones_few s m i o t.counted)
          go false e = omega (arith, ones_few s m i o t.counted)

      behind : o ≡ ones (drop (suc j) (layer s m))
      behind = t.counted ∙ rw next

      pub more_loss : o + p ≡ ones (drop (suc j) (layer s m)) + cond (get_or (layer s m) j false) (suc j) 0
      more_loss = rw (layer_at_lem s m j inside, ← behind, ← add-one j, ← adds)

      pub more_turn : (o + p ≡ d → ⊥) → MoreTried (layer s m) d j (o + b)
      more_turn misses =
          record {
            counted = omega (arith, behind, ones_step s m j inside);
            tried = λ k l f g.
                ⊎_elim
                (λ (q : j ≡ k). misses (more_loss ∙ rw q g))
                (λ (q : j < k). t.tried k (omega arith) f g)
                (eq-or-lt_of_le l);
          }

    -- the ones from place j on
    pub less_counted : o ≡ ones (drop i (layer s m)) → o + b ≡ ones (drop j (layer s m))
    less_counted c =
        let e : o ≡ ones (drop (suc j) (layer s m)) = c ∙ rw next in
        omega (arith, ones_step s m j inside)

  pub less_begin : LessTried (layer s m) d (length m + 1) 0
  less_begin =
      let e : length m + 1 - 1 ≡ length m = omega arith in
      record { counted = rw e (sym (no_ones s m)); tried = λ j b l h e. omega (arith, length-layer s m) }
