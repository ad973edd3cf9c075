use mathlib.Core.Path.{ap, subst, sym}
use Prim.Native.Nat.{◌+◌}
use native.Mathlib.Omega.{arith}
use lib.ListN.{length}
use Rattle.std.proofs.lemmas.Grind.{common_steps}
use Rattle.steps.specs.declared.Answer.{Answer}
use Rattle.steps.specs.Steps.{step_from, IsStep}
use Rattle.steps.proofs.CleanSegments.{clean_stands, clean_data, m_inside, stands_step}
use Rattle.steps.proofs.read_clean.Goals as goal

pub put_standing-requires : goal.put_standing-requires
put_standing-requires c =
    let a = c.args in
    let k = length a.out.now in
    let g = c.requires.at_start in
    let z = clean_stands a.strand.now a.start k c.requires.clean in
    record { message = g.message; inside = m_inside a.strand.now a.start k (a.start.at + 2) g.message.0 (clean_data a.strand.now a.start k c.requires.clean) z.1 z.0 }

pub returns : goal.returns
returns c =
    let a = c.args in
    let k = length a.out.now in
    let g = c.requires.at_start in
    let z = clean_stands a.strand.now a.start k c.requires.clean in
    let o = c.put_standing in
    subst (λ (r : Answer). IsStep (step_from a.strand.now a.start k a.rest.now) a.strand.now a.rest.now o.new.out r) (sym o.ensures.answer) (stands_step a.strand.now a.start k (a.start.at + 2) g.message.0 (clean_data a.strand.now a.start k c.requires.clean) z.1 z.0 a.rest.now (λ e. grind (arith, common_steps, c.is_empty.ensures, c.if-is_empty.false, ap length e)) o.new.out o.ensures.message)
