use mathlib.Core.Path.{◌∙◌}
use native.Mathlib.Omega.{arith}
use lib.ListN.{length}
use Rattle.code.specs.Bounds.{widest}
use Rattle.code.proofs.laws.Layers.{width-Least}
use Rattle.segment.proofs.Parts.{mark-size, put_parts}
use borrow.Author.Rules.{rules}
use Rattle.segment.proofs.put_segment.Goals as goal

pub put_marker-start-requires : goal.put_marker-start-requires
put_marker-start-requires c = (search rules, search rules, omega (arith, mark-size c.args.marked c.args.f c.args.message.now))

pub put-requires : goal.put-requires
put-requires c = omega (arith, mark-size c.args.marked c.args.f c.args.message.now, c.put_marker-start.ensures.1)

pub overflow_add-start : goal.overflow_add-start
overflow_add-start c = omega (arith, mark-size c.args.marked c.args.f c.args.message.now, c.put_marker-start.ensures.1)

pub put_tail-requires : goal.put_tail-requires
put_tail-requires c =
    let a = c.args in
    (omega (arith, c.requires.tail.width, (width-Least (length a.message.now)).least widest (omega arith)), omega (arith, c.requires.tail.width, mark-size c.args.marked c.args.f c.args.message.now, c.put_marker-start.ensures.1))

pub returns : goal.returns
returns c =
    let a = c.args in
    let k = c.put_marker-start in
    c.put_tail.ensures ∙ put_parts a.out.now _ _ a.message.now a.marked a.f a.at k.result a.tail c.requires.tail c.requires.room.2 k.ensures.1 k.ensures.0 c.put.ensures
