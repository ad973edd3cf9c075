use native.Mathlib.Omega.{arith}
use Rattle.text.proofs.laws.Put.{Grown-both, Grown-length}
use Rattle.convert_label.proofs.Shown.{label_shown, refused_shown, digits_most}
use Rattle.convert_label.proofs.put_converted.Goals as goal

pub put_hex-requires : goal.put_hex-requires
put_hex-requires c =
    let k = c.convert in
    omega (arith, digits_most _ k.new.out c.in-Ok.n c.front.ensures k.auto.out)

pub put-requires : goal.put-requires
put-requires c =
    let k = c.convert in
    omega (arith, digits_most _ k.new.out c.in-Ok.n c.front.ensures k.auto.out, Grown-length c.put_hex.ensures)

pub returns-in-Ok : goal.returns-in-Ok
returns-in-Ok c =
    let k = c.convert in
    rw (← label_shown c.args.bytes.now k.new.out _ k.ensures _ c.in-Ok.is, ← c.front.ensures)
    (Grown-both c.put_hex.ensures c.put.ensures)

pub returns-in-Err : goal.returns-in-Err
returns-in-Err c =
    let k = c.convert in
    rw (← refused_shown c.args.bytes.now k.new.out _ k.ensures _ c.in-Err.is) c.put_refused.ensures
