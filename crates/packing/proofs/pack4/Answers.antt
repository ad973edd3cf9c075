use native.Mathlib.Omega.{arith}
use Rattle.packing.proofs.Words.{or_symbols}
use Rattle.packing.proofs.pack4.Goals as goal

pub returns : goal.returns
returns k = let a = k.args in or_symbols a.a a.b a.c a.d (omega arith) (omega arith) (omega arith) (omega arith)
