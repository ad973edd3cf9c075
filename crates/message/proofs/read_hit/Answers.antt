use Prim.Native.Nat.{◌+◌}
use lib.ListN.{length, drop}
use Rattle.message.specs.MessageAnswers.{shift_as}
use Rattle.message.proofs.Separators.{found_Some}
use Rattle.message.proofs.Steps3to7.{hit_room}
use Rattle.message.proofs.read_hit.Goals as goal

pub taken-requires : goal.taken-requires
taken-requires c =
    let a = c.args in
    let k = length a.out.now in
    let f = found_Some k (drop (a.p + 2) a.s.now) a.found c.requires.found _ c.in-Some.is in
    (c.requires.received.0, c.requires.received.1, hit_room (shift_as c.in-Some.shift) k a.p c.moved.result a.s.now c.moved.ensures f.room)
