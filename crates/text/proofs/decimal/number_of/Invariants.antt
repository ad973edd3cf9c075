use mathlib.Core.Path.{◌≡◌}
use Prim.Native.Nat.{◌≤◌}
use lib.ListN.{drop}
use Rattle.text.specs.Decimal.{number_in}
use Rattle.text.proofs.Numbers.{read_from}
use Rattle.text.proofs.decimal.number_of.Given as goal

-- the bytes so far are digits, and n is their number
abbrev pub invariant-loop-c : goal.invariant-loop-c
invariant-loop-c l = (l.n ≤ 65535) × (number_in l.text ≡ read_from l.n (drop l.c-index l.text))
