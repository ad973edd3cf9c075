use native.Mathlib.Omega.{arith}
use Rattle.text.proofs.laws.Put.{Grown-both, Grown-length}
use Rattle.lines.specs.Report.{segment_line}
use Rattle.lines.proofs.laws.Lines.{length_line}
use Rattle.lines.proofs.put_line.Goals as goal

pub put_decimal-requires : goal.put_decimal-requires
unfolding segment_line
put_decimal-requires c = omega (arith, c.requires, length_line c.args.n c.args.v)

pub put-requires : goal.put-requires
unfolding segment_line
put-requires c = omega (arith, c.requires, length_line c.args.n c.args.v, Grown-length c.put_decimal.ensures)

pub put_words-requires : goal.put_words-requires
unfolding segment_line
put_words-requires c = omega (arith, c.requires, length_line c.args.n c.args.v, Grown-length c.put_decimal.ensures, Grown-length c.put.ensures)

pub put-requires-2 : goal.put-requires-2
unfolding segment_line
put-requires-2 c = omega (arith, c.requires, length_line c.args.n c.args.v, Grown-length c.put_decimal.ensures, Grown-length c.put.ensures, Grown-length c.put_words.ensures)

pub returns : goal.returns
unfolding segment_line
returns c = Grown-both (Grown-both c.put_decimal.ensures (Grown-both c.put.ensures c.put_words.ensures)) c.put-2.ensures
