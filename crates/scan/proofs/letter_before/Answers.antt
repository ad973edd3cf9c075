use Prim.Native.Nat.{◌-◌}
use Rattle.scan.specs.Scans.{letter_before}
use Rattle.scan.proofs.laws.Scans.{symbol_at}
use Rattle.scan.proofs.letter_before.Goals as goal

pub returns-in-Some : goal.returns-in-Some
unfolding letter_before
returns-in-Some c = rw c.in-Some.is

pub returns-in-None : goal.returns-in-None
unfolding letter_before
returns-in-None c = let a = c.args in rw c.in-None.is (symbol_at a.letters.now (a.at - 1))
