-- Equal lengths.
--   all_equal   every length is k
use Rattle.std.specs.Prelude.{◌≡◌, refl, List, [], ◌∷◌, ℕ, eqb}
use Rattle.std.specs.List.{list_all}
use Rattle.code.specs.Label.{all_are}

pub all_equal : (k : ℕ) (ks : List ℕ) → list_all (λ x. eqb x k) ks ≡ all_are k ks
unfolding all_are
all_equal k [] = refl
all_equal k (x ∷ ks) = rw (all_equal k ks)
