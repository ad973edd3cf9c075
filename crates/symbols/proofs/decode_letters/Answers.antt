use mathlib.Core.Path.{◌∙◌}
use Prim.Native.Nat.{◌<◌}
use native.Mathlib.Omega.{arith}
use lib.ListN.{length, get_or}
use Rattle.code.proofs.laws.Lists.{write_next, write_all}
use Rattle.code.specs.Symbols.{legible}
use Rattle.symbols.proofs.LetterBits.{any_letter}
use Rattle.symbols.proofs.Loops.{legible_next, one_more, length_whole, letters_next}
use Rattle.symbols.proofs.decode_letters.Goals as goal

pub number_of-requires : goal.number_of-requires
number_of-requires c =
    let l = c.loop-i in
    let a = c.args in
    (letters_next a.unknown a.letters.now l.i (omega arith) l.invariant.2).0

pub loop-i-preserved : goal.loop-i-preserved
loop-i-preserved c =
    let l = c.loop-i in
    let a = c.args in
    let cs = a.letters.now in
    let h : l.i < length cs = omega arith in
    let n = letters_next a.unknown cs l.i h l.invariant.2 in
    let k = any_letter a.unknown (get_or cs l.i 0) n.0 in
    let x = c.number_of.result in
    let e = c.number_of.ensures in (
      rw l.invariant.0 (write_next (legible cs) _ a.out.now l.i x (legible_next cs l.i l.invariant.1 h x e k) (omega arith)),
      one_more cs l.i l.invariant.1 h x e k,
      n.1,
    )

pub returns : goal.returns
returns c =
    let l = c.loop-i in
    let a = c.args in
    let cs = a.letters.now in
    l.invariant.0 ∙ write_all (legible cs) a.out.now l.i (length_whole cs l.i l.invariant.1 (omega arith))
