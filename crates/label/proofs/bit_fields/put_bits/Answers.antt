use Rattle.std.specs.Prelude.{Ok}
use mathlib.Core.Path.{◌≡◌, refl, sym, ◌∙◌}
use mathlib.Core.List.{◌++◌}
use Prim.Native.Nat.{◌+◌, ◌-◌, ◌*◌, ◌%◌, ◌^◌, ◌<◌}
use native.Mathlib.Omega.{arith}
use borrow.Author.Tests.{lt-ltb, le-ltb}
use lib.ListN.{length, get_or, drop, length-set}
use Rattle.code.specs.Layers.{bits}
use Rattle.code.proofs.laws.Lists.{write_next, write_all, drop_next}
use Rattle.code.specs.Label.{in_bits, in_bytes, bytes_for}
use Rattle.label.proofs.Putting.{put_length, up, put_begin, put_fill, put_byte}
use Rattle.label.proofs.bit_fields.put_bits.Goals.{After-slice_known-1}
use Rattle.label.proofs.bit_fields.put_bits.Goals as goal

pub returns-then-out-n : goal.returns-then-out-n
returns-then-out-n c =
    let a = c.args in
    let t = in_bytes (bits a.count a.first ++ in_bits a.width a.lengths.now) in
    let short : length a.out.now < length t = omega (arith, put_length a.count a.first a.width a.lengths.now) in
    rw (lt-ltb (length a.out.now) (length t) short)

pub loop-j-init : goal.loop-j-init
loop-j-init c =
    let a = c.args in
    (omega arith, omega arith, refl, refl, put_begin a.count a.first a.width a.lengths.now _ (omega arith) (omega arith))

pub loop-j-preserved-then-left-lt8 : goal.loop-j-preserved-then-left-lt8
loop-j-preserved-then-left-lt8 c =
    let a = c.args in
    let l = c.loop-j in
    let t = in_bytes (bits a.count a.first ++ in_bits a.width a.lengths.now) in
    let held : (l.held % 256 * 2 ^ a.width) % 4294967296 + c.length_at.result ≡ l.held % 256 * 2 ^ a.width + get_or a.lengths.now l.i 0 =
    omega (arith, up l.held a.width c.requires.widths.2, c.length_at.ensures) in
    let more = put_fill (drop l.j t) a.width a.lengths.now _ l.left l.held l.i c.if-left-lt8.true (omega arith) c.requires.lengths.0 l.invariant.4 in
    (omega arith, l.invariant.1, l.invariant.2, l.invariant.3, rw held more)

pub loop-j-preserved : goal.loop-j-preserved
loop-j-preserved c =
    let a = c.args in
    let l = c.loop-j in
    let t = in_bytes (bits a.count a.first ++ in_bits a.width a.lengths.now) in
    let n = bytes_for (a.count + a.width * length a.lengths.now) in
    let p = put_byte (drop l.j t) a.width a.lengths.now (n - l.j) (n - (l.j + 1)) l.left (l.left - 8) l.held l.i (omega arith) (omega arith) l.invariant.4 in (
      omega arith,
      omega arith,
      simp length-set l.invariant.2,
      rw l.invariant.3 (write_next t p.0 a.out.now l.j _ p.1 (omega arith)),
      rw (drop_next t p.0 l.j _ p.1) p.2,
    )

pub returns : goal.returns
returns c =
    let a = c.args in
    let l = c.loop-j in
    let t = in_bytes (bits a.count a.first ++ in_bits a.width a.lengths.now) in
    let n = put_length a.count a.first a.width a.lengths.now in
    rw (le-ltb (length a.out.now) (length t) (omega arith)) (λ i. (Ok (sym n i), (l.invariant.3 ∙ write_all t a.out.now l.j (omega arith)) i))
