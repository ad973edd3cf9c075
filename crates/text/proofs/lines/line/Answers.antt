use mathlib.Core.Path.{sym}
use native.Mathlib.Omega.{arith}
use lib.Seq.{length-take-le}
use Rattle.text.proofs.laws.Lines.{line_length-le, take-line}
use Rattle.text.proofs.lines.line.Goals as goal

pub slice_bounds-result-end : goal.slice_bounds-result-end
slice_bounds-result-end c = let s = c.args.text.now in sym (length-take-le c.line_length.result s (omega (arith, line_length-le s)))

pub returns : goal.returns
returns c = rw c.line_length.ensures (take-line c.args.text.now)
