use mathlib.Core.Path.{sym, ◌∙◌}
use native.Mathlib.Omega.{arith}
use Rattle.symbols.proofs.Loops.{unknown_turn, unknown_end}
use Rattle.symbols.proofs.has_unknown.Goals as goal

pub loop-x-preserved : goal.loop-x-preserved
loop-x-preserved c =
    let l = c.loop-x in
    unknown_turn c.args.letters.now l.x-index l.found (omega arith) ∙ l.invariant

pub returns : goal.returns
returns c =
    let l = c.loop-x in
    sym (sym l.invariant ∙ unknown_end c.args.letters.now l.x-index l.found (omega arith))
