use mathlib.Core.Path.{sym, ap, ◌∙◌}
use mathlib.Core.List.{List}
use Prim.Native.Nat.{ℕ, ◌-◌}
use native.Mathlib.Omega.{arith}
use lib.ListN.{length, take, drop}
use lib.Seq.{length-take-le}
use Rattle.code.specs.Edits.{judged}
use Rattle.edits.specs.Judgement.{judged_as}
use Rattle.steps.proofs.Step9.{size_most, anew_front}
use Rattle.steps.proofs.step_9.compared.Goals as goal

pub put_segment-requires : goal.put_segment-requires
put_segment-requires c =
    let a = c.args in
    record { tail = c.requires.tail.0; room = (a.start.symbol, c.requires.tail.1, omega (arith, size_most a.start.marked (length a.message.now) c.requires.tail.1.1)) }

pub slice_bounds-anew-end : goal.slice_bounds-anew-end
slice_bounds-anew-end c =
    let a = c.args in
    omega (arith, c.size_of-n.ensures, size_most a.start.marked (length a.message.now) c.requires.tail.1.1)

pub slice_bounds-judge-end : goal.slice_bounds-judge-end
slice_bounds-judge-end c =
    let a = c.args in
    sym (length-take-le c.size_of-n.result c.put_segment.new.out (omega (arith, c.size_of-n.ensures, size_most a.start.marked (length a.message.now) c.requires.tail.1.1)))

pub returns : goal.returns
returns c =
    let a = c.args in
    let w = anew_front a.start.marked a.start.before a.message.now _ _ _ c.put_segment.ensures c.size_of-n.ensures in
    c.judge.ensures ∙ ap (λ (l : List ℕ). judged_as (judged l (take (a.end - a.start.at) (drop a.start.at a.strand.now.symbols.now)))) w
