use mathlib.Core.Path.{◌∙◌}
use Prim.Native.Nat.{◌+◌, ◌*◌}
use native.Mathlib.Omega.{arith}
use Rattle.code.proofs.laws.Lists.{write_all}
use Rattle.code.specs.Symbols.{bytes}
use Rattle.code.proofs.laws.Symbols.{length-bytes}
use Rattle.packing.proofs.Words.{word_symbols}
use Rattle.packing.proofs.Loops.{pack_step}
use Rattle.packing.proofs.pack.Goals as goal

pub pack_word-requires : goal.pack_word-requires
pack_word-requires c =
    let j = 4 * c.loop-i.i in
    let w = word_symbols c.args.symbols.now j c.four_at.result c.requires.symbols (omega arith) c.four_at.ensures in
    (rw w.0 (c.requires.symbols j), rw w.1 (c.requires.symbols (j + 1)), rw w.2 (c.requires.symbols (j + 2)), rw w.3 (c.requires.symbols (j + 3)))

pub loop-i-preserved : goal.loop-i-preserved
loop-i-preserved c =
    let l = c.loop-i in
    let a = c.args in
    let w = word_symbols a.symbols.now (4 * l.i) c.four_at.result c.requires.symbols (omega arith) c.four_at.ensures in
    rw (c.pack_word.ensures, w.0, w.1, w.2, w.3, l.invariant) (pack_step a.symbols.now a.out.now l.i (omega arith) (omega arith))

pub returns : goal.returns
returns c =
    let l = c.loop-i in
    let a = c.args in
    let n = length-bytes a.symbols.now in
    l.invariant ∙ write_all (bytes a.symbols.now) a.out.now l.i (omega arith) ∙ rw n
