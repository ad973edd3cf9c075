use mathlib.Core.Path.{sym, ap}
use Rattle.code.specs.Layers.{Word}
use Rattle.code.proofs.laws.Label.{Fits-in}
use Rattle.label.specs.Editions.{edition_number}
use Rattle.label.specs.PutBits.{put_call}
use Rattle.label.proofs.Calls.{listing-bits}
use Rattle.label.proofs.put_listing.Goals.{After-bytes_bits-width}
use Rattle.label.proofs.put_listing.Goals as goal

pub put_bits-requires-clause-lengths : goal.put_bits-requires-clause-lengths
put_bits-requires-clause-lengths c =
    let fits = Fits-in (edition_number c.args.edition) c.args.order.now c.requires.0 c.requires.1 in
    (rw (c.length_bits.ensures, c.lengths-lengths.ensures.value) fits.lengths, c.lengths-lengths.ensures.fit)

pub returns : goal.returns
returns c =
    let b = c.bytes_bits-width in
    let v = c.length_bits in
    let e = listing-bits (edition_number c.args.edition) c.args.order.now c.requires.0 c.requires.1 b.result b.ensures v.result v.ensures in
    rw c.put_bits.ensures rw (c.from.ensures, c.bytes.ensures.value, c.lengths-lengths.ensures.value) (ap (λ (u : Word). put_call u c.args.out.now) (sym e))
