use mathlib.Core.Path.{◌≡◌, ◌∙◌}
use Prim.Native.Nat.{◌+◌, ◌*◌}
use native.Mathlib.Omega.{arith}
use lib.ListN.{get_or}
use Rattle.code.proofs.laws.Lists.{write_all}
use Rattle.code.specs.Symbols.{symbols, symbols_of}
use Rattle.code.proofs.laws.Symbols.{length-symbols}
use Rattle.packing.proofs.Words.{bytes_of_word}
use Rattle.packing.proofs.Loops.{symbols_next, put_chunk}
use Rattle.packing.proofs.unpack.Goals as goal

pub loop-i-preserved : goal.loop-i-preserved
loop-i-preserved c =
    let l = c.loop-i in
    let a = c.args in
    let n : 4 * (l.i + 1) ≡ 4 * l.i + 4 = omega arith in
    let four : c.copy_from_slice.new.self ≡ symbols_of (get_or a.bytes.now l.i 0) = c.copy_from_slice.ensures.after ∙ c.to_le_bytes.ensures ∙ bytes_of_word c.spread.result _ _ _ _ c.spread.ensures (omega arith) (omega arith) (omega arith) (omega arith) in
    rw (n, four) (put_chunk (symbols a.bytes.now) a.out.now l.out (symbols_of (get_or a.bytes.now l.i 0)) (4 * l.i) l.invariant (omega (arith, length-symbols a.bytes.now)) (symbols_next a.bytes.now l.i (omega arith)))

pub returns : goal.returns
returns c =
    let l = c.loop-i in
    let a = c.args in
    let n = length-symbols a.bytes.now in
    l.invariant ∙ write_all (symbols a.bytes.now) a.out.now (4 * l.i) (omega arith) ∙ rw n
