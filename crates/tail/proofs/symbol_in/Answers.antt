use mathlib.Core.Path.{refl, sym, ◌∙◌}
use native.Mathlib.Omega.{arith}
use Rattle.tail.proofs.Tails.{behind_four, at_first, in_front}
use Rattle.tail.proofs.symbol_in.Goals as goal

pub returns-in-0 : goal.returns-in-0
returns-in-0 c = let a = c.args in at_first a.tail a.i c.in-0.is

pub returns-in-1-to-3 : goal.returns-in-1-to-3
returns-in-1-to-3 c = let a = c.args in in_front a.tail a.i (omega arith) (omega arith)

pub returns-in_default : goal.returns-in_default
returns-in_default c = let a = c.args in c.symbol_at.ensures ∙ sym (behind_four a.tail a.i _ (omega arith) (omega arith) refl)
