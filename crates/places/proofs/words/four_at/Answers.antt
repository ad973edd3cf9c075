use native.Mathlib.Omega.{arith}
use Rattle.places.proofs.Bytes.{word_four}
use Rattle.places.proofs.words.four_at.Goals as goal

pub returns : goal.returns
returns c = let a = c.args in omega (arith, c.from_le_bytes.ensures, word_four a.s.now a.i (omega arith))
