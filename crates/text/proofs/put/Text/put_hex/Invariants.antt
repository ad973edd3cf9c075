use lib.ListN.{take}
use Rattle.text.specs.Hex.{hex_digits}
use Rattle.text.specs.Put.{Grown}
use Rattle.text.proofs.put.Text.put_hex.Given as goal

-- the digits of the bytes so far are put
abbrev pub invariant-loop-x : goal.invariant-loop-x
invariant-loop-x l = Grown l.initial.self (hex_digits (take l.x-index l.bytes)) l.self
