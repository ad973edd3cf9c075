use Rattle.packing.proofs.Words.{pack_rounds}
use Rattle.packing.proofs.pack_word.Goals as goal

pub returns : goal.returns
returns c = pack_rounds c.args.word c.requires
