use mathlib.Core.Path.{sym, ◌∙◌}
use native.Mathlib.Omega.{arith}
use Rattle.symbols.proofs.Loops.{letters_turn, letters_end}
use Rattle.symbols.proofs.all_letters.Goals as goal

pub loop-c-preserved : goal.loop-c-preserved
loop-c-preserved c =
    let l = c.loop-c in
    let a = c.args in
    rw c.is_letter-all.ensures (letters_turn a.unknown a.letters.now l.c-index l.all (omega arith) ∙ l.invariant)

pub returns : goal.returns
returns c =
    let l = c.loop-c in
    let a = c.args in
    sym (sym l.invariant ∙ letters_end a.unknown a.letters.now l.c-index l.all (omega arith))
