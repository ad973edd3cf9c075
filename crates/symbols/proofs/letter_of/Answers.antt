use native.Mathlib.Omega.{arith}
use Rattle.symbols.proofs.Spelled.{letter_sum}
use Rattle.symbols.proofs.letter_of.Goals as goal

pub returns : goal.returns
returns c = rw (c.from.ensures, c.from-2.ensures) (letter_sum c.args.symbol (omega arith))
