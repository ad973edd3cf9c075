use Rattle.places.proofs.TestsAtPlaces.{block_stands}
use Rattle.places.proofs.comparisons.stands_at.Goals as goal

pub returns : goal.returns
returns c = let a = c.args in block_stands a.s.now a.at a.block.now _ _ c.min.ensures c.starts_with.ensures.value
