use mathlib.Core.Path.{sym, ap, ◌∙◌}
use native.Mathlib.Omega.{arith}
use Prim.Native.Nat.{◌-◌}
use lib.ListN.{take, drop}
use Rattle.code.proofs.laws.Segment.{check_below}
use Rattle.layers.specs.declared.Summed.{Summed}
use Rattle.clean.proofs.Syndromes.{last_place, separator_there}
use Rattle.clean.proofs.Segment.{four_symbols, front_fails, front_holds}
use Rattle.clean.proofs.tail_stands.Goals as goal

pub bounds-s-to : goal.bounds-s-to
bounds-s-to c = omega (arith, last_place _ _ _ c.requires.placed.0 c.requires.placed.2)

pub bounds-s-to-2 : goal.bounds-s-to-2
bounds-s-to-2 c = omega (arith, last_place _ _ _ c.requires.placed.0 c.requires.placed.2)

pub sep_of-x-requires : goal.sep_of-x-requires
sep_of-x-requires c = omega (arith, ap (λ (u : Summed). u.check) c.requires.sums, check_below (take (c.args.to - c.args.d) (drop c.args.d c.args.s.now)))

pub returns-else-same : goal.returns-else-same
returns-else-same c =
    let a = c.args in
    let e = ap (λ (u : Summed). u.check) c.requires.sums in
    let x = c.sep_of-x in
    c.if-same.false ∙ front_fails (take (a.to - a.d) (drop a.d a.s.now)) a.s.now a.to x.result (separator_there a.s.now a.d a.to a.end c.requires.placed.0 c.requires.placed.1 c.requires.placed.2 c.requires.placed.3 c.requires.received.symbols x.result (rw (← e) x.ensures)) (rw (← e) (sym (four_symbols a.s.now a.to c.args.sums.check x.result (omega (arith, last_place _ _ _ c.requires.placed.0 c.requires.placed.2))) ∙ c.if-same.false))

pub returns-then-same : goal.returns-then-same
returns-then-same c =
    let a = c.args in
    let e = ap (λ (u : Summed). u.check) c.requires.sums in
    let x = c.sep_of-x in
    front_holds (take (a.to - a.d) (drop a.d a.s.now)) a.s.now a.to x.result (separator_there a.s.now a.d a.to a.end c.requires.placed.0 c.requires.placed.1 c.requires.placed.2 c.requires.placed.3 c.requires.received.symbols x.result (rw (← e) x.ensures)) (rw (← e) (sym (four_symbols a.s.now a.to c.args.sums.check x.result (omega (arith, last_place _ _ _ c.requires.placed.0 c.requires.placed.2))) ∙ c.if-same.true)) _ c.syndrome_stands.ensures
