use native.Mathlib.Omega.{arith}
use Rattle.code.proofs.laws.Layers.{width_leading}
use Rattle.layers.proofs.width_of.Goals as goal

pub returns : goal.returns
returns c = width_leading 64 c.args.k (omega arith) (omega arith)
