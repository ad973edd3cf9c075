use mathlib.Core.Path.{sym, ap, ◌∙◌}
use Rattle.edits.specs.Judgement.{judged_as}
use Rattle.edits.proofs.Judgement.{changed_none, changed_sub, changed_many}
use Rattle.edits.proofs.judge_changed.Goals as goal

pub returns-then-written-i : goal.returns-then-written-i
returns-then-written-i c = let a = c.args in sym (ap judged_as (changed_none a.written.now a.piece.now a.i c.requires.1 c.requires.2 c.if-written-i.true))

pub returns-then-stands_at : goal.returns-then-stands_at
returns-then-stands_at c =
    let a = c.args in
    let p = c.requires in
    sym (ap judged_as (changed_sub a.written.now a.piece.now a.i p.1 p.2 c.if-written-i.false (sym c.stands_at.ensures ∙ c.if-stands_at.true)))

pub returns : goal.returns
returns c =
    let a = c.args in
    let p = c.requires in
    sym (ap judged_as (changed_many a.written.now a.piece.now a.i p.1 p.2 c.if-written-i.false (sym c.stands_at.ensures ∙ c.if-stands_at.false)))
