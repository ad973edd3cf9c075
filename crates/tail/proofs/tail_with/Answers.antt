use mathlib.Core.Path.{◌≡◌, ap}
use Prim.Native.Nat.{◌-◌}
use native.Mathlib.Omega.{arith}
use lib.ListN.{length}
use Rattle.code.specs.Bounds.{widest}
use Rattle.code.proofs.laws.Layers.{width-Least}
use Rattle.code.proofs.laws.Segment.{check_below, width_two}
use Rattle.layers.specs.declared.Summed.{Summed}
use Rattle.tail.proofs.Tails.{is_tail, syndromes_paired, symbol_from}
use Rattle.tail.proofs.tail_with.Goals as goal

checks : {x y : Summed} → x ≡ y → x.check ≡ y.check
checks e = ap (λ (s : Summed). s.check) e

pub overflow_sub-width : goal.overflow_sub-width
overflow_sub-width c = omega (arith, c.width_of-width.ensures, width_two (length c.args.message.now) (omega arith))

pub symbol_at-first-requires : goal.symbol_at-first-requires
symbol_at-first-requires c = omega (arith, c.width_of-width.ensures, (width-Least (length c.args.message.now)).least widest (omega arith), width_two (length c.args.message.now) (omega arith))

pub overflow_sub-width-2 : goal.overflow_sub-width-2
overflow_sub-width-2 c = omega (arith, c.width_of-width.ensures, width_two (length c.args.message.now) (omega arith))

pub symbol_at-second-requires : goal.symbol_at-second-requires
symbol_at-second-requires c = omega (arith, c.width_of-width.ensures, (width-Least (length c.args.message.now)).least widest (omega arith), width_two (length c.args.message.now) (omega arith))

pub sep_of-separator-requires : goal.sep_of-separator-requires
sep_of-separator-requires c = omega (arith, checks c.requires.1, check_below c.args.message.now)

pub returns : goal.returns
returns c =
    let m = c.args.message.now in
    let w = c.width_of-width in
    let s = c.syndromes-s in
    let x = c.symbol_at-first in
    let y = c.symbol_at-second in
    let two = width_two (length c.args.message.now) (omega arith) in
    let whole = syndromes_paired m s.result w.result w.ensures s.ensures in
    is_tail m _ _ w.result s.result.high s.result.low x.result y.result (checks c.requires.1) w.ensures whole
    (symbol_from m w.result s.result.high s.result.low 0 (w.result - 1) _ whole (omega (arith, w.ensures, two)) (omega arith) x.ensures)
    (symbol_from m w.result s.result.high s.result.low 1 (w.result - 2) _ whole (omega (arith, w.ensures, two)) (omega arith) y.ensures)
    c.sep_of-separator.ensures
