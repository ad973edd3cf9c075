-- The step from one remainder to another.
use mathlib.Core.Path.{◌≡◌, sym, ap, ◌∙◌}
use Prim.Native.Nat.{ℕ, ◌+◌, ◌-◌, ◌%◌, ◌<◌}
use native.Mathlib.Nat.{mod-lt, mod-add-mod, add-mod-mod, mod-mod, add-mod_right}
use native.Mathlib.Omega.{arith}
use Rattle.code.proofs.laws.Levenshtein.{near}
use Rattle.repair.specs.LayerRepair.{ahead}

-- d is below m and leads from a to b modulo m
pub record Ahead (a b m d : ℕ) : Type 0 where
  pub below : d < m
  pub meets : (a + d) % m ≡ b % m

pub ahead_is : (a b m : ℕ) → 0 < m → Ahead a b m (ahead a b m)
ahead_is a b m h =
    let s = mod-lt a h in
    let e : a % m + (b % m + (m - a % m)) ≡ b % m + m = omega arith in
    record {
      below = mod-lt (b % m + (m - a % m)) h;
      meets = add-mod-mod a (b % m + (m - a % m)) m ∙ sym (mod-add-mod a m (b % m + (m - a % m))) ∙ ap (λ (n : ℕ). n % m) e ∙ add-mod_right (b % m) m ∙ mod-mod b m;
    }

-- no other number below m does
pub Ahead-only : (a b m : ℕ) {c d : ℕ} → Ahead a b m d → c < m → (a + c) % m ≡ b % m → c ≡ d
Ahead-only a b m {c} {d} s l e =
    let f : a + c ≡ a + d = near m (a + c) (a + d) (e ∙ sym s.meets) (omega (arith, s.below)) (omega (arith, s.below)) in
    omega arith

-- a summand on both sides goes
pub mod_cancel : (a b d m : ℕ) → 0 < m → (a + d) % m ≡ (b + d) % m → a % m ≡ b % m
mod_cancel a b d m h e =
    let f : a % m + d ≡ b % m + d = near m (a % m + d) (b % m + d) (mod-add-mod a m d ∙ e ∙ sym (mod-add-mod b m d)) (omega (arith, mod-lt a h, mod-lt b h)) (omega (arith, mod-lt a h, mod-lt b h)) in
    omega arith

pub ahead_below : (a b m : ℕ) → 0 < m → ahead a b m < m
ahead_below a b m h = (ahead_is a b m h).below
