use mathlib.Core.Path.{sym}
use native.Mathlib.Omega.{arith}
use Rattle.repair.proofs.Stretches.{lowest_none, next_lowest}
use Rattle.repair.proofs.put_symbols.Goals as goal

pub loop-i-init : goal.loop-i-init
loop-i-init c = sym (lowest_none c.args.symbols.now 0)

pub loop-i-preserved : goal.loop-i-preserved
loop-i-preserved c = let l = c.loop-i in next_lowest c.args.symbols.now l.out l.i (omega arith) (omega arith) l.invariant
