use mathlib.Core.Path.{◌∙◌}
use native.Mathlib.Omega.{arith}
use lib.Bits.{and_mask}
use lib.ListN.{get_or}
use Rattle.code.proofs.laws.Lists.{write_next, write_all}
use Rattle.code.specs.Symbols.{as_symbols}
use Rattle.symbols.proofs.Loops.{symbols_next, symbols_all}
use Rattle.symbols.proofs.as_symbols.Goals as goal

pub loop-i-preserved : goal.loop-i-preserved
loop-i-preserved c =
    let l = c.loop-i in
    let a = c.args in
    let cs = a.letters.now in
    let m = and_mask (get_or cs l.i 0) 2 in
    let n = symbols_next cs l.i (omega arith) in
    rw (m, l.invariant) (write_next (as_symbols cs) _ a.out.now l.i _ n (omega arith))

pub returns : goal.returns
returns c =
    let l = c.loop-i in
    let a = c.args in
    let cs = a.letters.now in
    l.invariant ∙ write_all (as_symbols cs) a.out.now l.i (symbols_all cs l.i (omega arith) (omega arith))
