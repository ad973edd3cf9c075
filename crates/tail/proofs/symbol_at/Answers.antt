use mathlib.Core.Path.{ap₂}
use Prim.Native.Nat.{ℕ, ◌+◌, ◌*◌}
use Rattle.tail.proofs.SumsAndBits.{masked}
use Rattle.tail.proofs.symbol_at.Goals as goal

pub returns : goal.returns
returns c = let a = c.args in ap₂ (λ (x y : ℕ). 2 * x + y) (masked a.high a.i) (masked a.low a.i)
