use Rattle.label.proofs.Calls.{drop-replicate}
use Rattle.std.specs.Prelude.{length}
use Rattle.label.proofs.filled.Goals as goal

pub returns : goal.returns
returns c = rw (c.copy_from_slice.ensures.after, drop-replicate (length c.args.lengths.now) 64 0)
