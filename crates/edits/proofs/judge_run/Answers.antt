use mathlib.Core.Path.{sym, ap, ◌∙◌}
use Rattle.edits.specs.Judgement.{judged_as}
use Rattle.edits.proofs.Judgement.{one_many, one_less, one_more}
use Rattle.edits.proofs.judge_run.Goals as goal

pub returns-then-not-stands_at : goal.returns-then-not-stands_at
returns-then-not-stands_at c =
    let a = c.args in
    let p = c.requires in
    sym (ap judged_as (one_many a.long.now a.short.now a.i p.1 p.3 a.less (sym c.stands_at.ensures ∙ c.if-not-stands_at.true)))

pub returns-then-less : goal.returns-then-less
returns-then-less c =
    let a = c.args in
    let p = c.requires in
    let t = sym c.stands_at.ensures ∙ c.if-not-stands_at.false in
    let r = c.run_start-p in
    rw c.if-less.true (sym (ap judged_as (one_less a.long.now a.short.now a.i p.1 p.3 t r.result r.ensures.0 r.ensures.1)))

pub returns : goal.returns
returns c =
    let a = c.args in
    let p = c.requires in
    let t = sym c.stands_at.ensures ∙ c.if-not-stands_at.false in
    let r = c.run_start-p in
    rw c.if-less.false (sym (ap judged_as (one_more a.long.now a.short.now a.i p.1 p.3 t r.result r.ensures.0 r.ensures.1)))
