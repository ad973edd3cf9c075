use Prim.Native.Nat.{◌+◌, ◌-◌, ◌*◌}
use lib.ListN.{drop}
use Rattle.code.specs.Symbols.{as_symbols}
use Rattle.code.specs.Reading.{clean}
use Rattle.scan.specs.Scans.{letter_before}
use Rattle.scan.proofs.Search.{Turn, Compared}
use Rattle.scan.proofs.find_clean.Given as goal

abbrev pub invariant-loop-j : goal.invariant-loop-j
invariant-loop-j l = Compared l.letters l.tail l.behind (clean l.k (letter_before l.given (as_symbols l.letters) l.at) (drop l.at l.letters) (drop l.at l.letters)) l.j

abbrev pub invariant-starts : goal.invariant-starts
invariant-starts l = Turn l.letters l.from l.centre l.k l.wide l.given l.passed l.last l.tried l.step

abbrev pub decreases-starts : goal.decreases-starts
decreases-starts l = 2 * l.centre + 3 - l.tried
