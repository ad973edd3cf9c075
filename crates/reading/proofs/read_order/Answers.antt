use mathlib.Core.Path.{sym, ◌∙◌}
use mathlib.Core.Bool.{false}
use native.Mathlib.Omega.{arith}
use lib.Seq.{length-take-le}
use Rattle.code.proofs.laws.Layout.{Lengths-within}
use Rattle.code.specs.Order.{order}
use Rattle.code.proofs.laws.Order.{order_fine}
use Rattle.reading.proofs.read_order.Goals as goal

pub read_layout-requires : goal.read_layout-requires
read_layout-requires c =
    let o = order_fine (order c.args.lengths.now c.args.b) false c.requires.taken.0 in
    record { received = (c.requires.received.0, Lengths-within o.lengths (omega arith), c.requires.received.1); lent = (length-take-le _ _ c.requires.received.2 ∙ sym o.whole, c.requires.taken.1, c.requires.taken.2) }
