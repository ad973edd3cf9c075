use mathlib.Core.Path.{sym, ap, ◌∙◌}
use Prim.Native.Nat.{ℕ, ◌+◌}
use native.Mathlib.Omega.{arith}
use lib.ListN.{length, drop}
use Rattle.std.proofs.lemmas.Grind.{common_steps}
use Rattle.code.specs.Segment.{data_at}
use Rattle.code.specs.Reading.{moved}
use Rattle.tail.proofs.Tails.{tail_last, tail_width}
use Rattle.message.specs.MessageAnswers.{shift_as}
use Rattle.message.proofs.Separators.{found_Some}
use Rattle.steps.proofs.Step8.{settled_by, end_last, end_settled}
use Rattle.steps.proofs.step_8.end_of.Goals as goal

pub last_of-requires : goal.last_of-requires
last_of-requires c = tail_width c.args.message.now c.args.tail c.requires.tail c.requires.at_start.message

pub returns-then-is_empty : goal.returns-then-is_empty
returns-then-is_empty c =
    let a = c.args in
    let g = c.requires.at_start in
    end_last a.strand.now a.start a.message.now g.message.0 g.inside a.rest.now (grind (arith, common_steps, c.is_empty.ensures, c.if-is_empty.true)) c.last_of.result (c.last_of.ensures ∙ tail_last a.message.now a.tail c.requires.tail g.message.0)

pub syndrome_at-requires : goal.syndrome_at-requires
syndrome_at-requires c =
    let w = tail_width c.args.message.now c.args.tail c.requires.tail c.requires.at_start.message in
    (omega (arith, c.after_separator-after.ensures.1), w.0, w.1)

pub overflow_add-result : goal.overflow_add-result
overflow_add-result c =
    let w = tail_width c.args.message.now c.args.tail c.requires.tail c.requires.at_start.message in
    omega (arith, w.1, c.after_separator-after.ensures.1)

pub last_of-requires-then-syndrome_at : goal.last_of-requires-then-syndrome_at
last_of-requires-then-syndrome_at c = tail_width c.args.message.now c.args.tail c.requires.tail c.requires.at_start.message

pub returns-then-syndrome_at : goal.returns-then-syndrome_at
returns-then-syndrome_at c =
    let a = c.args in
    let g = c.requires.at_start in
    let f = found_Some (length a.message.now) (drop (data_at a.start.marked) (drop a.start.at a.strand.now.symbols.now)) a.found c.requires.found c.in-Some.shift c.in-Some.is in
    let n = c.after_separator-after in
    let at = n.ensures.0 ∙ ap (λ (d : ℕ). a.start.at + d + (moved (shift_as c.in-Some.shift) (length a.message.now + 1) + 3)) c.data_at.ensures.0 in
    let y = c.syndrome_at in
    let seen = settled_by a.strand.now a.start a.message.now g.message.0 g.inside (shift_as c.in-Some.shift) f.is a.tail c.requires.tail n.result at y.result y.ensures in
    end_settled a.strand.now a.start a.message.now g.message.0 g.inside a.rest.now (grind (arith, common_steps, c.is_empty.ensures, c.if-is_empty.false)) (shift_as c.in-Some.shift) f.is (sym seen ∙ c.if-syndrome_at.true) n.result a.tail.width c.last_of-then-syndrome_at.result at c.requires.tail.width (c.last_of-then-syndrome_at.ensures ∙ tail_last a.message.now a.tail c.requires.tail g.message.0)

pub end_at_clean-requires-2 : goal.end_at_clean-requires-2
end_at_clean-requires-2 c =
    let a = c.args in
    let g = c.requires.at_start in
    let f = found_Some (length a.message.now) (drop (data_at a.start.marked) (drop a.start.at a.strand.now.symbols.now)) a.found c.requires.found c.in-Some.shift c.in-Some.is in
    let n = c.after_separator-after in
    let at = n.ensures.0 ∙ ap (λ (d : ℕ). a.start.at + d + (moved (shift_as c.in-Some.shift) (length a.message.now + 1) + 3)) c.data_at.ensures.0 in
    let y = c.syndrome_at in
    let seen = settled_by a.strand.now a.start a.message.now g.message.0 g.inside (shift_as c.in-Some.shift) f.is a.tail c.requires.tail n.result at y.result y.ensures in
    record { at_start = (g, grind (arith, common_steps, c.is_empty.ensures, c.if-is_empty.false)); tail = c.requires.tail; unsettled = sym seen ∙ c.if-syndrome_at.false }
