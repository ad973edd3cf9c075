use Rattle.std.specs.Prelude.{false}
use Rattle.code.specs.Order.{order}
use Rattle.code.proofs.laws.Order.{order_fine}
use Rattle.refusal.proofs.order.Order.lengths.Goals as goal

pub returns-clause-within : goal.returns-clause-within
returns-clause-within c = (order_fine (order c.self.inside.lengths.now c.self.inside.b) false c.self.invariant).lengths
