use Rattle.layers.proofs.Masks.{joined_bits}
use Rattle.layers.proofs.layer_bits.Goals as goal

pub returns : goal.returns
returns c = joined_bits c.args.word c.requires
