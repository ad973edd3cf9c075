use mathlib.Core.Path.{◌≡◌, sym, ◌∙◌, ap}
use mathlib.Core.Bool.{false}
use mathlib.Core.List.{List}
use Prim.Native.Nat.{ℕ, ◌*◌}
use native.Mathlib.Omega.{arith}
use lib.ListN.{length, take}
use lib.Seq.{length-take-le}
use Rattle.code.specs.Symbols.{symbols}
use Rattle.code.proofs.laws.Symbols.{length-symbols}
use Rattle.code.proofs.laws.Layout.{Lengths-within}
use Rattle.code.specs.Layout.{sum, cut, strand, extent}
use Rattle.code.specs.Buffers.{over_front}
use Rattle.code.specs.Writing.{strand_of}
use Rattle.code.specs.Order.{Order, Taken}
use Rattle.code.proofs.laws.Order.{order_fine}
use Rattle.writer.proofs.Carried.{Front, unpacked, front_is}
use Rattle.writer.proofs.write_letters.Given.{Over}
use Rattle.writer.proofs.write_letters.Goals.{After-write_layout-end}
use Rattle.writer.proofs.write_letters.Goals as goal

-- the lengths of an order that is taken cut the symbols of a message of B bytes
whole : (o : Order) (ks m : List ℕ) → Taken o → ks ≡ o.lengths → length m ≡ o.b → sum ks ≡ 4 * length m
whole o ks m t e f = omega (arith, (order_fine o false t).whole, f, ap sum e)

-- the strand stands as symbols
front : (g : Over) (c : After-write_layout-end g) → Front c.lengths.result.now c.args.message.now c.args.out.now c.write_layout-end.new.out c.write_layout-end.result
front g c =
    let ks = c.lengths in
    let m = c.args.message.now in
    let w = c.write_layout-end in
    let n : c.symbols-n.result ≡ 4 * length m = omega (arith, c.symbols-n.ensures.value, c.requires.message) in
    front_is ks.result.now m (whole c.args.order.now ks.result.now m ks.ensures.taken ks.ensures.value c.requires.message) c.unpack.new.out _ c.args.out.now w.new.out w.result c.unpack.ensures w.ensures.ends
    (w.ensures.written ∙ ap (λ (n : ℕ). over_front (strand (cut ks.result.now (take n c.unpack.new.out))) c.args.out.now) n)

pub write_layout-end-requires : goal.write_layout-end-requires
write_layout-end-requires g c =
    let m = c.args.message.now in
    let e = unpacked m c.unpack.new.out _ c.unpack.ensures in
    let ks = c.lengths in
    let n : c.symbols-n.result ≡ 4 * length m = omega (arith, c.symbols-n.ensures.value, c.requires.message) in
    record {
      lengths = Lengths-within c.lengths.ensures.within (omega arith);
      room = (whole c.args.order.now ks.result.now m ks.ensures.taken ks.ensures.value c.requires.message ∙ rw (n, e) (sym (length-symbols m)), omega (arith, c.requires.room, ap (extent false) c.lengths.ensures.value));
    }

pub slice_bounds-spell-end : goal.slice_bounds-spell-end
slice_bounds-spell-end g c = (front g (goal.at.slice_bounds-spell-end g c).After-write_layout-end).inside

pub slice_bounds-spell-end-2 : goal.slice_bounds-spell-end-2
slice_bounds-spell-end-2 g c = sym (length-take-le c.write_layout-end.result c.write_layout-end.new.out (front g (goal.at.slice_bounds-spell-end-2 g c).After-write_layout-end).inside)

pub spell-requires : goal.spell-requires
spell-requires g c = (front g (goal.at.spell-requires g c).After-write_layout-end).below

pub returns : goal.returns
returns g c =
    rw c.spell.ensures ((front g (goal.at.returns g c).After-write_layout-end).spelled
    ∙ ap (λ (ks : List ℕ). over_front (strand_of ks c.args.message.now) c.args.out.now) c.lengths.ensures.value)
