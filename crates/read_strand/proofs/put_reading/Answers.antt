use mathlib.Core.List.{append_assoc}
use native.Mathlib.Omega.{arith}
use Rattle.code.specs.Order.{order}
use Rattle.text.proofs.laws.Put.{Grown-both, Grown-length}
use Rattle.read_strand.proofs.Shown.{counts_shown, refused_shown, digits_most}
use Rattle.read_strand.proofs.put_reading.Goals as goal

pub put_hex-requires : goal.put_hex-requires
put_hex-requires c = omega (arith, digits_most _ c.read.new.message c.args.b c.front.ensures c.read.auto.message)

pub put-requires : goal.put-requires
put-requires c = omega (arith, digits_most _ c.read.new.message c.args.b c.front.ensures c.read.auto.message, Grown-length c.put_hex.ensures)

pub put_three-requires : goal.put_three-requires
put_three-requires c = omega (arith, digits_most _ c.read.new.message c.args.b c.front.ensures c.read.auto.message, Grown-length c.put_hex.ensures, Grown-length c.put.ensures)

pub returns-in-Ok : goal.returns-in-Ok
returns-in-Ok c =
    let a = c.args in
    let p = Grown-both (Grown-both c.put_hex.ensures c.put.ensures) c.put_three.ensures in
    rw (← counts_shown (order a.lengths.now a.b) a.letters.now c.read.new.message c.read.new.sheet _ c.read.ensures.exact _ c.in-Ok.is, ← c.front.ensures) (simp append_assoc at p)

pub returns-in-Err : goal.returns-in-Err
returns-in-Err c =
    let a = c.args in
    rw (← refused_shown (order a.lengths.now a.b) a.letters.now c.read.new.message c.read.new.sheet _ c.read.ensures.exact _ c.in-Err.is) c.put_refused.ensures
