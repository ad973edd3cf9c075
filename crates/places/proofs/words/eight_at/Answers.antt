use native.Mathlib.Omega.{arith}
use Rattle.places.proofs.Bytes.{word_eight}
use Rattle.places.proofs.words.eight_at.Goals as goal

pub returns : goal.returns
returns c = let a = c.args in omega (arith, c.four_at.ensures, c.four_at-2.ensures, word_eight a.s.now a.i (omega arith))
