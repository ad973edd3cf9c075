use Rattle.code.specs.Order.{order}
use Rattle.write_strand.proofs.Shown.{Bytes-shown, bad_shown}
use Rattle.write_strand.proofs.put_message.Goals as goal

pub returns-in-Some : goal.returns-in-Some
returns-in-Some c =
    let a = c.args in
    rw (← Bytes-shown (order a.lengths.now a.b) a.digits.now c.decode.new.out _ c.decode.ensures _ _ c.in-Some.is c.front.ensures) c.put_strand.ensures

pub returns-in-None : goal.returns-in-None
returns-in-None c =
    let a = c.args in
    rw (← bad_shown (order a.lengths.now a.b) a.digits.now c.decode.new.out _ c.decode.ensures c.in-None.is) c.put_refused.ensures
