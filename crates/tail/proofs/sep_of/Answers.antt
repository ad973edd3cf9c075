use mathlib.Core.Path.{◌≡◌}
use Prim.Native.Nat.{ℕ, ◌+◌, ◌*◌, ◌%◌, ◌<◌}
use native.Mathlib.Omega.{arith}
use lib.Bits.{bit_and}
use Rattle.code.specs.Layers.{digit}
use Rattle.code.specs.Segment.{either, sep}
use Rattle.tail.proofs.SumsAndBits.{sep_sum}
use Rattle.tail.proofs.sep_of.Goals as goal

is_sep : (a b c t u : ℕ) → a < 4 → t ≡ digit (either ((a + 2) % 4) b c) → u ≡ digit (either ((a + 3) % 4) b c) → ((a + 2) % 4 + t + 2 * bit_and t u) % 4 ≡ sep a b c
unfolding sep
is_sep a b c t u h et eu = rw (et, eu) (sep_sum a (either ((a + 2) % 4) b c) (either ((a + 3) % 4) b c) h)

pub returns : goal.returns
returns c = let a = c.args in let t = c.is_either-taken in let u = c.is_either in is_sep a.a a.b a.c t.result u.result (omega arith) t.ensures.0 u.ensures.0
