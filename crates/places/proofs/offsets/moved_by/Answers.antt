use Rattle.places.proofs.SignedOffsets.{place_is}
use Rattle.places.proofs.offsets.moved_by.Goals as goal

pub returns : goal.returns
returns c = place_is c.args.n c.args.i c.requires c.offset.result c.offset.ensures
