use native.Mathlib.Omega.{arith}
use lib.ListN.{take}
use lib.Seq.{length-take-le}
use Rattle.text.specs.Hex.{hex_digits}
use Rattle.text.proofs.laws.Hex.{hex_digits_next, length-hex_digits}
use Rattle.text.proofs.laws.Put.{Grown-nothing, Grown-both, Grown-length}
use Rattle.text.proofs.put.Text.put_hex.Goals as goal

pub loop-x-init : goal.loop-x-init
unfolding hex_digits
loop-x-init c = Grown-nothing _

pub put-requires : goal.put-requires
put-requires c =
    let l = c.loop-x in
    let bytes = c.args.bytes.now in
    let i = l.x-index in
    omega (arith, Grown-length l.invariant, l.invariant.room, length-hex_digits (take i bytes), length-take-le i bytes (omega arith), length-hex_digits bytes)

pub loop-x-preserved : goal.loop-x-preserved
loop-x-preserved c =
    let l = c.loop-x in
    rw (hex_digits_next c.args.bytes.now l.x-index (omega arith), ← c.digit_of.ensures, ← c.digit_of-in-loop-x.ensures) (Grown-both l.invariant c.put.ensures)
