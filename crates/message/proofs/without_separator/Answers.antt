use lib.ListN.{length}
use Rattle.message.proofs.RepairedLayers.{is_lost, is_read_message}
use Rattle.message.proofs.Steps3to7.{without_read, without_lost}
use Rattle.message.proofs.without_separator.Goals as goal

pub returns-then-is_at : goal.returns-then-is_at
returns-then-is_at c =
    let a = c.args in
    let k = length a.out.now in
    let i = c.is_at in
    let t = c.taken_with in
    is_read_message _ _ _ t.result (without_read k a.d a.s.now a.tail.check i.result c.requires.tail.check i.ensures c.if-is_at.true) t.ensures

pub returns : goal.returns
returns c =
    let a = c.args in
    let i = c.is_at in
    is_lost _ _ 6 (without_lost (length a.out.now) a.d a.s.now a.tail.check i.result c.requires.tail.check i.ensures c.if-is_at.false)
