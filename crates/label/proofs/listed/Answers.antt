use Prim.Native.Nat.{◌*◌, ◌+◌}
use native.Mathlib.Omega.{arith}
use lib.ListN.{drop, length-set}
use lib.Pow.{pow_mono}
use Rattle.code.specs.Label.{in_bits}
use Rattle.code.proofs.laws.Bits.{number_least}
use Rattle.label.proofs.Fields.{list_next, list_all}
use Rattle.label.proofs.listed.Goals.{In-loop-i}
use Rattle.label.proofs.listed.Goals as goal

pub overflow_cast-a : goal.overflow_cast-a
overflow_cast-a c =
    let a = c.args in
    omega (arith, c.number_at.ensures, number_least a.width (drop (a.at + a.width * c.loop-i.i) (in_bits 8 a.bytes.now)), pow_mono c.requires.2)

pub loop-i-preserved : goal.loop-i-preserved
loop-i-preserved c =
    let l = c.loop-i in
    let a = c.args in
    (omega arith, simp length-set l.invariant.1, list_next a.bytes.now l.a a.at a.width a.n l.i _ (omega arith) (omega arith) c.number_at.ensures l.invariant.2)

pub returns : goal.returns
returns c =
    let l = c.loop-i in
    let a = c.args in
    (list_all a.bytes.now l.a a.at a.width a.n l.i (omega arith) l.invariant.2, l.invariant.1)
