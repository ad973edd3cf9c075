use mathlib.Core.Path.{sym, ◌∙◌}
use Prim.Native.Nat.{◌+◌}
use native.Mathlib.Omega.{arith}
use Rattle.tail.proofs.Tails.{behind_four}
use Rattle.tail.proofs.last_of.Goals as goal

pub returns : goal.returns
returns c = let t = c.args.tail in c.symbol_at.ensures ∙ sym (behind_four t (3 + t.width) 0 (omega arith) (omega arith) (omega arith))
