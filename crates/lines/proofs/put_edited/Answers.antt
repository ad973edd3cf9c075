use native.Mathlib.Omega.{arith}
use lib.ListN.{length-append}
use Rattle.text.specs.Decimal.{decimal}
use Rattle.text.proofs.laws.Put.{Grown-both, Grown-length}
use Rattle.lines.specs.Report.{edited}
use Rattle.lines.proofs.laws.Lines.{length-edited}
use Rattle.lines.proofs.put_edited.Goals as goal

pub put_named-requires : goal.put_named-requires
unfolding edited
put_named-requires c = let a = c.args in omega (arith, c.requires, length-edited a.word.now a.i a.x, length-append a.word.now (decimal a.i))

pub put-requires : goal.put-requires
unfolding edited
put-requires c =
    let a = c.args in
    omega (arith, c.requires, length-edited a.word.now a.i a.x, length-append a.word.now (decimal a.i), Grown-length c.put_named.ensures)

pub returns : goal.returns
unfolding edited
returns c = rw (← c.letter_of.ensures) (Grown-both c.put_named.ensures c.put.ensures)
