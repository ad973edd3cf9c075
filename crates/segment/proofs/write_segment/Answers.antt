use mathlib.Core.Path.{◌∙◌}
use native.Mathlib.Omega.{arith}
use lib.ListN.{length}
use Rattle.code.specs.Bounds.{widest}
use Rattle.code.proofs.laws.Layers.{width-Least}
use Rattle.code.proofs.laws.Segment.{width_two}
use Rattle.tail.proofs.Tails.{tail_last}
use Rattle.segment.proofs.write_segment.Goals as goal

pub last_of-requires : goal.last_of-requires
last_of-requires c =
    let n = length c.args.message.now in
    let e = c.tail_of-tail.ensures in
    (omega (arith, e.width, width_two n (omega arith)), omega (arith, e.width, (width-Least n).least widest (omega arith)))

pub returns : goal.returns
returns c =
    let t = c.tail_of-tail in
    (c.put_segment.ensures, c.last_of.ensures ∙ tail_last c.args.message.now t.result t.ensures (omega arith))
