use mathlib.Core.Path.{sym, ◌∙◌}
use native.Mathlib.Omega.{arith}
use borrow.Author.Rules.{rules}
use lib.ListN.{length}
use Rattle.code.specs.Layers.{layer, number}
use Rattle.layers.specs.LayerSums.{highs, lows}
use Rattle.message.proofs.RepairedLayers.{lost_high, lost_low, read_both, gets_none, words, word_length, mended_given}
use Rattle.message.proofs.Steps3to7.{width_most}
use Rattle.message.proofs.repair_both.Goals as goal

pub numbers-numbers-requires : goal.numbers-numbers-requires
numbers-numbers-requires c = omega (arith, c.requires.written.1, width_most (length c.args.out.now) (omega arith))

pub returns-in_default : goal.returns-in_default
returns-in_default c =
    let a = c.args in
    let x = a.received.now in
    let w = a.written.now in
    let n = c.numbers-numbers in
    let m = c.repair_layer in
    lost_high a.link x w _ (gets_none a.link (layer 1 x) (number (layer 1 w)) n.result.high m.result m.ensures (highs n.ensures) c.in_default.is)

pub returns-in_default-repair_layer : goal.returns-in_default-repair_layer
returns-in_default-repair_layer c =
    let a = c.args in
    let x = a.received.now in
    let w = a.written.now in
    let n = c.numbers-numbers in
    let m = c.repair_layer-2 in
    lost_low a.link x w _ (gets_none a.link (layer 0 x) (number (layer 0 w)) n.result.low m.result m.ensures (lows n.ensures) c.in_default-repair_layer.is)

pub mended_pair-requires : goal.mended_pair-requires
mended_pair-requires c =
    let a = c.args in
    let n = c.numbers-numbers in
    let m = c.repair_layer in
    let o = c.repair_layer-2 in
    let g = words a.link a.received.now a.written.now n.result m.result o.result _ _ n.ensures m.ensures o.ensures c.in-Some.is c.in-Some-repair_layer.is in
    record { room = c.requires.room.0; high_fits = word_length a.link 1 a.received.now _ _ g.high ∙ sym c.requires.room.0; low_fits = word_length a.link 0 a.received.now _ _ g.low ∙ sym c.requires.room.0 }

pub tail_given-requires : goal.tail_given-requires
tail_given-requires c =
    let a = c.args in
    let n = c.numbers-numbers in
    let m = c.repair_layer in
    let o = c.repair_layer-2 in
    let g = words a.link a.received.now a.written.now n.result m.result o.result _ _ n.ensures m.ensures o.ensures c.in-Some.is c.in-Some-repair_layer.is in
    let p = c.mended_pair in
    let q = mended_given a.link a.received.now a.written.now _ _ p.new.out (length a.out.now) c.requires.written.0 c.requires.written.1 c.requires.room.0 c.requires.written.2 g p.ensures in
    search rules

pub returns : goal.returns
returns c =
    let a = c.args in
    let n = c.numbers-numbers in
    let m = c.repair_layer in
    let o = c.repair_layer-2 in
    let g = words a.link a.received.now a.written.now n.result m.result o.result _ _ n.ensures m.ensures o.ensures c.in-Some.is c.in-Some-repair_layer.is in
    read_both a.link a.received.now a.written.now _ _ _ _ g c.mended_pair.ensures c.tail_given.ensures
