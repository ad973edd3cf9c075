use native.Mathlib.Omega.{arith}
use lib.ListN.{length}
use Rattle.clean.proofs.Parts.{tail_room}
use Rattle.message.specs.MessageAnswers.{shift_as}
use Rattle.message.proofs.RepairedLayers.{is_read_message}
use Rattle.message.proofs.Steps3to7.{moved_least, shift_read, shift_repaired}
use Rattle.message.proofs.at_separator.Goals as goal

pub agrees-requires : goal.agrees-requires
agrees-requires c =
    let a = c.args in
    let k = length a.out.now in
    let q = moved_least (shift_as a.shift) k in
    let r = tail_room a.d k a.s.now a.tail (omega arith) (omega arith) (omega arith) c.requires.tail in
    (c.requires.received.0, c.requires.received.1, omega arith, r.0, r.1)

pub returns-then-agrees : goal.returns-then-agrees
returns-then-agrees c =
    let a = c.args in
    let g = c.agrees in
    let r = c.taken_with in
    is_read_message _ _ _ r.result (shift_read (shift_as a.shift) (length a.out.now) a.d a.s.now a.tail g.result c.requires.tail g.ensures c.if-agrees.true) r.ensures

pub returns : goal.returns
returns c =
    let a = c.args in
    let g = c.agrees in
    let r = c.repair_at in
    is_read_message _ _ _ r.result (shift_repaired (shift_as a.shift) (length a.out.now) a.d a.s.now a.tail g.result c.requires.tail g.ensures c.if-agrees.false) r.ensures
