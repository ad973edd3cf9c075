use native.Mathlib.Omega.{arith}
use Rattle.code.specs.Bounds.{widest}
use Rattle.code.proofs.laws.Layers.{width-Least}
use Rattle.code.specs.Segment.{size}
use Rattle.segment.proofs.size_of.Goals as goal

pub overflow_add-result : goal.overflow_add-result
overflow_add-result c = omega (arith, c.width_of.ensures, (width-Least c.args.k).least widest (omega arith))

pub overflow_add-result-2 : goal.overflow_add-result-2
overflow_add-result-2 c = omega (arith, c.width_of.ensures, (width-Least c.args.k).least widest (omega arith))

pub overflow_add-result-3 : goal.overflow_add-result-3
overflow_add-result-3 c = omega (arith, c.data_at.ensures.1, c.width_of.ensures, (width-Least c.args.k).least widest (omega arith))

pub returns : goal.returns
unfolding size
returns c = omega (arith, c.data_at.ensures.0, c.width_of.ensures)
