use native.Mathlib.Omega.{arith}
use Rattle.text.proofs.laws.Decimal.{length-decimal}
use Rattle.text.proofs.laws.Put.{Grown-both, Grown-length}
use Rattle.console.specs.RefusedLine.{refused_line}
use Rattle.console.proofs.put_refused.Goals as goal

pub put_named-requires : goal.put_named-requires
unfolding refused_line
put_named-requires c = omega (arith, length-decimal 2 c.from-2.result (omega arith))

pub put-requires : goal.put-requires
unfolding refused_line
put-requires c = omega (arith, Grown-length c.put_named.ensures, length-decimal 2 c.from-2.result (omega arith))

pub returns : goal.returns
unfolding refused_line
returns c = rw (← c.from.ensures, ← c.from-2.ensures) (Grown-both c.put_named.ensures c.put.ensures)
