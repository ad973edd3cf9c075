use borrow.Author.Rules.{rules}
use Rattle.places.proofs.SignedOffsets.{even_offset, odd_offset}
use Rattle.places.proofs.offsets.offset.Goals as goal

pub returns-then-i-eq1 : goal.returns-then-i-eq1
returns-then-i-eq1 c = odd_offset c.args.i (search rules) c.if-i-eq1.true

pub returns : goal.returns
returns c = even_offset c.args.i (search rules) c.if-i-eq1.false
