use native.Mathlib.Omega.{arith}
use Rattle.packing.proofs.Words.{spread_rounds}
use Rattle.packing.proofs.spread.Goals as goal

pub returns : goal.returns
returns c = rw c.from-byte.ensures (spread_rounds c.args.x (omega arith))
