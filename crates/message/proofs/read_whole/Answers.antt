use native.Mathlib.Omega.{arith}
use lib.ListN.{length, drop, length-drop}
use Rattle.message.proofs.Separators.{found_Some}
use Rattle.message.proofs.read_whole.Goals as goal

pub at_separator-requires : goal.at_separator-requires
at_separator-requires c =
    let a = c.args in
    let f = found_Some (length a.out.now) (drop a.d a.s.now) a.found c.requires.found _ c.in-Some.is in
    record { received = (c.requires.received.0, c.requires.received.1); inside = omega (arith, f.room, length-drop a.d a.s.now); sums = c.requires.sums; tail = c.requires.tail }
