use mathlib.Core.Path.{ap, ◌∙◌}
use mathlib.Core.List.{List}
use Prim.Native.Nat.{ℕ}
use native.Mathlib.Omega.{arith}
use lib.ListN.{length, get_or}
use Rattle.code.specs.Bounds.{widest}
use Rattle.code.proofs.laws.Layers.{width-Least}
use Rattle.code.proofs.laws.Segment.{check_below, length_syndrome, width_two}
use Rattle.tail.proofs.Tails.{is_tail, numbers_paired}
use Rattle.tail.proofs.tail_given.Goals as goal

pub bounds-written-0 : goal.bounds-written-0
bounds-written-0 c = omega (arith, ap length c.requires.1, length_syndrome c.args.message.now, width_two (length c.args.message.now) (omega arith))

pub bounds-written-1 : goal.bounds-written-1
bounds-written-1 c = omega (arith, ap length c.requires.1, length_syndrome c.args.message.now, width_two (length c.args.message.now) (omega arith))

pub sep_of-separator-requires : goal.sep_of-separator-requires
sep_of-separator-requires c = omega (arith, c.check_of-check.ensures, check_below c.args.message.now)

pub numbers-s-requires : goal.numbers-s-requires
numbers-s-requires c = omega (arith, ap length c.requires.1, length_syndrome c.args.message.now, (width-Least (length c.args.message.now)).least widest (omega arith))

pub returns : goal.returns
returns c =
    let m = c.args.message.now in
    let s = c.numbers-s in
    is_tail m _ _ _ s.result.high s.result.low _ _ c.check_of-check.ensures (ap length c.requires.1 ∙ length_syndrome m)
    (numbers_paired m c.args.written.now s.result c.requires.1 s.ensures)
    (ap (λ (w : List ℕ). get_or w 0 0) c.requires.1) (ap (λ (w : List ℕ). get_or w 1 0) c.requires.1) c.sep_of-separator.ensures
