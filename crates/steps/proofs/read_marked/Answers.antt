use mathlib.Core.Path.{sym, ap, subst, ◌∙◌}
use Prim.Native.Nat.{◌+◌}
use native.Mathlib.Omega.{arith}
use lib.ListN.{length}
use Rattle.clean.proofs.Segment.{size_data, stands_tells}
use Rattle.steps.specs.declared.Answer.{Answer}
use Rattle.steps.specs.Steps.{step_from, IsStep}
use Rattle.steps.proofs.Answers.{read_message-lost, gives_lost}
use Rattle.steps.proofs.CleanSegments.{m_inside, stands_step}
use Rattle.steps.proofs.Step1.{read_message_short}
use Rattle.steps.proofs.read_marked.Goals as goal

pub returns-then-s-to : goal.returns-then-s-to
returns-then-s-to c =
    let a = c.args in
    let k = length a.out.now in
    let d = c.data_at in
    let l = c.lost in
    gives_lost a.strand.now a.start a.rest.now k 6 l.new.out l.result (read_message-lost a.strand.now a.start a.rest.now k 6 (read_message_short a.strand.now a.start k (a.start.at + d.result) (ap (◌+◌ a.start.at) d.ensures.0) c.requires.whole c.if-s-to.true)) l.ensures

pub put_standing-requires : goal.put_standing-requires
put_standing-requires c =
    let a = c.args in
    let k = length a.out.now in
    let d = c.data_at in
    let z = c.is_clean in
    let t = stands_tells a.start.marked a.start.before k a.rest.now a.start.at a.strand.now.symbols.now (sym z.ensures ∙ c.if-is_clean.true) in
    record { message = c.requires.at_start.message; inside = m_inside a.strand.now a.start k (a.start.at + d.result) c.requires.at_start.message.0 (ap (◌+◌ a.start.at) d.ensures.0) (omega (arith, c.if-s-to.false)) t.standing }

pub returns-then-is_clean : goal.returns-then-is_clean
returns-then-is_clean c =
    let a = c.args in
    let k = length a.out.now in
    let d = c.data_at in
    let o = c.put_standing in
    let z = c.is_clean in
    let t = stands_tells a.start.marked a.start.before k a.rest.now a.start.at a.strand.now.symbols.now (sym z.ensures ∙ c.if-is_clean.true) in
    subst (λ (r : Answer). IsStep (step_from a.strand.now a.start k a.rest.now) a.strand.now a.rest.now o.new.out r) (sym o.ensures.answer) (stands_step a.strand.now a.start k (a.start.at + d.result) c.requires.at_start.message.0 (ap (◌+◌ a.start.at) d.ensures.0) (omega (arith, c.if-s-to.false)) t.standing a.rest.now (λ e. omega (arith, t.last e, size_data a.start.marked k, d.ensures.0)) o.new.out o.ensures.message)
