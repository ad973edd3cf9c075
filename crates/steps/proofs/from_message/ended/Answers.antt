use mathlib.Core.Path.{refl}
use lib.ListN.{length}
use Rattle.steps.proofs.Step9.{named}
use Rattle.steps.proofs.Answers.{no_end, gives_lost, compared_lost, compared_read}
use Rattle.steps.proofs.Answered.{end_nowhere, end_known}
use Rattle.steps.proofs.from_message.ended.Goals as goal

pub returns-in-Nowhere : goal.returns-in-Nowhere
returns-in-Nowhere c =
    let a = c.args in
    let e = c.end_of-next in
    let l = c.lost in
    gives_lost a.strand.now a.start a.rest.now (length a.out.now) 8 _ l.result (no_end a.strand.now a.start a.rest.now (length a.out.now) a.out.now c.requires.message (end_nowhere a.strand.now a.start a.out.now a.rest.now e.result e.ensures c.in-Nowhere.is)) l.ensures

pub returns-in-Lost : goal.returns-in-Lost
returns-in-Lost c =
    let a = c.args in
    let e = c.end_of-next in
    let n = c.place-end in
    let v = c.compared-verdict in
    let l = c.lost-in-Lost in
    let k = end_known a.strand.now a.start a.out.now a.rest.now c.requires.message e.result e.ensures c.in_default.not-Nowhere (length a.strand.now.symbols.now) n.result n.ensures in
    compared_lost a.strand.now a.start a.rest.now a.out.now e.result n.result k v.result v.ensures _ _ _ l.result c.in-Lost.is refl l.ensures

pub returns : goal.returns
returns c =
    let a = c.args in
    let e = c.end_of-next in
    let n = c.place-end in
    let v = c.compared-verdict in
    let k = end_known a.strand.now a.start a.out.now a.rest.now c.requires.message e.result e.ensures c.in_default.not-Nowhere (length a.strand.now.symbols.now) n.result n.ensures in
    compared_read a.strand.now a.start a.rest.now a.out.now e.result n.result k v.result v.ensures (named _ v.result v.ensures c.in_default-verdict.not-Lost)
