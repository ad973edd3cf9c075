use mathlib.Core.Path.{sym, ap, ◌∙◌}
use native.Mathlib.Omega.{arith}
use Rattle.edits.specs.Judgement.{judged_as}
use Rattle.edits.proofs.SharedFront.{shared, common_sym}
use Rattle.edits.proofs.Judgement.{far_many}
use Rattle.edits.proofs.judge.Goals as goal

pub returns-then-piece-written : goal.returns-then-piece-written
returns-then-piece-written c = c.judge_changed.ensures

pub judge_run-requires : goal.judge_run-requires
judge_run-requires c =
    let a = c.args in
    let f = c.first_difference-i in
    let s = shared a.written.now a.piece.now in
    (omega arith, omega arith, omega (arith, f.ensures), f.ensures)

pub returns-then-piece-written-2 : goal.returns-then-piece-written-2
returns-then-piece-written-2 c = c.judge_run.ensures

pub judge_run-requires-then-piece-written-3 : goal.judge_run-requires-then-piece-written-3
judge_run-requires-then-piece-written-3 c =
    let a = c.args in
    let f = c.first_difference-i in
    let s = shared a.written.now a.piece.now in
    (omega arith, omega arith, omega (arith, f.ensures), f.ensures ∙ common_sym a.written.now a.piece.now)

pub returns-then-piece-written-3 : goal.returns-then-piece-written-3
returns-then-piece-written-3 c = c.judge_run-then-piece-written-3.ensures

pub returns : goal.returns
returns c =
    let a = c.args in
    sym (ap judged_as (far_many a.written.now a.piece.now c.if-piece-written.false c.if-piece-written-2.false c.if-piece-written-3.false))
