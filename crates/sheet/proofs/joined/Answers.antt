use Rattle.sheet.proofs.VerdictNumbers.{or_parts}
use Rattle.sheet.proofs.joined.Goals as goal

pub returns : goal.returns
returns c = let a = c.args in let h = c.requires in or_parts a.kind a.x a.i h.0 h.1 h.2
