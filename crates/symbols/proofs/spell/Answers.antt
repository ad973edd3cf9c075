use native.Mathlib.Numerals.{add-one}
use native.Mathlib.Omega.{arith}
use Rattle.symbols.proofs.Spelled.{spelled_at, spelled_next}
use Rattle.symbols.proofs.spell.Goals as goal

pub loop-x-preserved : goal.loop-x-preserved
loop-x-preserved c =
    let l = c.loop-x in
    let s = c.args.symbols.now in
    rw (c.letter_of.ensures, l.invariant, spelled_at s l.x-index (omega arith), add-one) (spelled_next s l.x-index (omega arith))
