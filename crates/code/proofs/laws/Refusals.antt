-- Laws of tests, in the order of their definitions.
--   or-false      of a test of two parts that is not met
--   outside_not   a number that is not outside its limits
use Rattle.std.specs.Prelude.{◌≡◌, refl, Bool, true, false, ◌||◌, ℕ, ◌≤◌, ltb}
use Rattle.std.proofs.Common.{arith, ltb-false}
use Rattle.code.specs.Refusals.{outside}

-- both parts of a test that is not met are not met
pub or-false : (a b : Bool) → (a || b) ≡ false → (a ≡ false) × (b ≡ false)
or-false true b e = let z : ◌≡◌ {A = ℕ} 0 1 = cc in absurd (omega arith)
or-false false b e = (refl, e)

pub outside_not : (low high x : ℕ) → outside low high x ≡ false → (low ≤ x) × (x ≤ high)
outside_not low high x e =
    let p = or-false (ltb x low) (ltb high x) e in
    (ltb-false x low p.0, ltb-false high x p.1)
