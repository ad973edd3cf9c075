use native.Mathlib.Omega.{arith}
use Rattle.code.specs.Order.{order}
use Rattle.text.proofs.laws.Put.{Grown-both, Grown-length}
use Rattle.write_strand.proofs.Shown.{letters_shown, refused_shown, letters_most}
use Rattle.write_strand.proofs.put_strand.Goals as goal

pub put-requires : goal.put-requires
put-requires c = omega (arith, letters_most _ c.write.new.out c.in-Ok.n c.front.ensures c.write.auto.out)

pub put-requires-in-Ok : goal.put-requires-in-Ok
put-requires-in-Ok c = omega (arith, letters_most _ c.write.new.out c.in-Ok.n c.front.ensures c.write.auto.out, Grown-length c.put.ensures)

pub returns-in-Ok : goal.returns-in-Ok
returns-in-Ok c =
    let a = c.args in
    rw (← letters_shown (order a.lengths.now a.b) a.message.now c.write.new.out _ c.write.ensures _ c.in-Ok.is, ← c.front.ensures)
    (Grown-both c.put.ensures c.put-in-Ok.ensures)

pub returns-in-Err : goal.returns-in-Err
returns-in-Err c =
    let a = c.args in
    rw (← refused_shown (order a.lengths.now a.b) a.message.now c.write.new.out _ c.write.ensures _ c.in-Err.is) c.put_refused.ensures
