use Rattle.tail.proofs.tail_of.Goals as goal

pub returns : goal.returns
returns c = c.tail_with.ensures
