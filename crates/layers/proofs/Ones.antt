-- The ones of a layer from a place on.
use mathlib.Core.Path.{◌≡◌, ap, ◌∙◌}
use mathlib.Core.Bool.{false}
use mathlib.Core.List.{List, ◌∷◌}
use Prim.Native.Nat.{ℕ, suc, ◌+◌, ◌<◌}
use native.Mathlib.Omega.{arith}
use lib.ListN.{length, get_or, drop, drop_of_length-le}
use lib.Seq.{drop-cons}
use Rattle.code.specs.Layers.{bit, layer, digit, ones}
use Rattle.code.proofs.laws.Layers.{layer_at_lem, length-layer}

-- a layer from place j on is its bit there and the rest
layer_step : (s : ℕ) (m : List ℕ) (j : ℕ) → j < length m → drop j (layer s m) ≡ bit s (get_or m j 0) ∷ drop (suc j) (layer s m)
layer_step s m j h =
    let l : j < length (layer s m) = omega (arith, length-layer s m) in
    drop-cons (layer s m) j false l ∙ ap (λ b. b ∷ drop (suc j) (layer s m)) (layer_at_lem s m j h)

pub ones_step : (s : ℕ) (m : List ℕ) (j : ℕ) → j < length m → ones (drop j (layer s m)) ≡ digit (bit s (get_or m j 0)) + ones (drop (suc j) (layer s m))
unfolding ones
ones_step s m j h = rw (layer_step s m j h)

pub no_ones : (s : ℕ) (m : List ℕ) → ones (drop (length m) (layer s m)) ≡ 0
unfolding ones
no_ones s m = rw (drop_of_length-le (layer s m) {i = length m} (omega (arith, length-layer s m)))
