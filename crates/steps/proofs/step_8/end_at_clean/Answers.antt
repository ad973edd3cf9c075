use mathlib.Core.Path.{◌∙◌}
use native.Mathlib.Omega.{arith}
use lib.ListN.{length}
use Rattle.code.proofs.laws.Letters.{as_length}
use Rattle.code.proofs.laws.Segment.{last_below}
use Rattle.tail.proofs.Tails.{tail_last, tail_width}
use Rattle.scan.proofs.Starts.{size_room}
use Rattle.steps.proofs.Step8.{first_length, end_around}
use Rattle.steps.proofs.step_8.end_at_clean.Goals as goal

pub last_of-f-requires : goal.last_of-f-requires
last_of-f-requires c = tail_width c.args.message.now c.args.tail c.requires.tail c.requires.at_start.0.message

pub find_clean-requires : goal.find_clean-requires
find_clean-requires c =
    let a = c.args in
    let g = c.requires.at_start.0 in
    let r = size_room a.start.marked (length a.message.now) g.message in
    let n = c.size_of-n.ensures in
    let l = c.last_of-f.ensures ∙ tail_last a.message.now a.tail c.requires.tail g.message.0 in
    let same = as_length _ _ a.strand.now.read in
    let short = a.strand.now.received.short in
    record { received = omega (arith, same, short); window = (omega (arith, g.inside, same), omega (arith, r.0, n), omega (arith, r.1, n)); length = (first_length a.rest.now g.behind c.requires.at_start.1, omega (arith, l, last_below a.message.now)) }

pub returns : goal.returns
returns c =
    let a = c.args in
    let g = c.requires.at_start.0 in
    let n = c.size_of-n in
    let l = c.last_of-f in
    let e = c.find_clean in
    end_around a.strand.now a.start a.message.now a.rest.now g c.requires.at_start.1 c.requires.unsettled n.result l.result e.result n.ensures (l.ensures ∙ tail_last a.message.now a.tail c.requires.tail g.message.0) (omega (arith, (size_room a.start.marked (length a.message.now) g.message).0, n.ensures)) e.ensures
