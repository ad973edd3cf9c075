use mathlib.Core.Path.{◌≡◌, sym, ap, subst, ◌∙◌}
use Prim.Native.Nat.{ℕ, ◌+◌, ◌-◌}
use native.Mathlib.Omega.{arith}
use lib.ListN.{length, take, drop}
use Rattle.code.specs.Segment.{syndrome_of}
use Rattle.message.specs.MessageAnswers.{separator_as}
use Rattle.message.proofs.Steps3to7.{part_is, width_most}
use Rattle.steps.specs.Step8.{separator_in}
use Rattle.steps.specs.Steps.{AtStart}
use Rattle.steps.proofs.CleanSegments.{clean_stands, clean_data, clean_Message, m_inside, m_long, m_syndrome}
use Rattle.steps.proofs.Step1.{whole_separator}
use Rattle.steps.proofs.read_last_clean.Goals as goal

pub copy-requires : goal.copy-requires
copy-requires c =
    let a = c.args in
    omega (arith, (clean_stands a.strand.now a.start (length a.out.now) c.requires.clean).1)

pub overflow_add-end : goal.overflow_add-end
overflow_add-end c = omega (arith, c.width_of.ensures, width_most (length c.args.out.now) c.requires.at_start.0.message.1, c.requires.at_start.0.inside, c.args.strand.now.received.short, c.requires.at_start.0.message.1)

pub overflow_add-end-2 : goal.overflow_add-end-2
overflow_add-end-2 c = omega (arith, c.width_of.ensures, width_most (length c.args.out.now) c.requires.at_start.0.message.1, c.requires.at_start.0.inside, c.args.strand.now.received.short, c.requires.at_start.0.message.1)

pub slice_bounds-tail_given-end : goal.slice_bounds-tail_given-end
slice_bounds-tail_given-end c =
    let a = c.args in
    let k = length a.out.now in
    let z = clean_stands a.strand.now a.start k c.requires.clean in
    omega (arith, c.width_of.ensures, m_inside a.strand.now a.start k (a.start.at + 2) c.requires.at_start.0.message.0 (clean_data a.strand.now a.start k c.requires.clean) z.1 z.0)

pub tail_given-tail-requires : goal.tail_given-tail-requires
tail_given-tail-requires c =
    let a = c.args in
    let s = a.strand.now.symbols.now in
    let k = length a.out.now in
    let d = a.start.at + 2 in
    let z = clean_stands a.strand.now a.start k c.requires.clean in
    let b = clean_data a.strand.now a.start k c.requires.clean in
    let w = c.width_of in
    let o = c.copy in
    let n : length o.new.out ≡ k = ap length o.ensures ∙ m_long a.strand.now a.start k d c.requires.at_start.0.message.0 b z.1 z.0 in
    let at = d + k + 4 in
    let q : take (d + k + (4 + w.result) - at) (drop at s) ≡ take w.result (drop at s) = part_is at w.result s (d + k + (4 + w.result)) (omega arith) in
    (rw n c.requires.at_start.0.message, q ∙ (ap (λ (i : ℕ). take i (drop at s)) w.ensures ∙ (m_syndrome a.strand.now a.start k d c.requires.at_start.0.message.0 b z.1 z.0 ∙ ap syndrome_of (sym o.ensures))))

pub finished-requires : goal.finished-requires
finished-requires c =
    let a = c.args in
    let k = length a.out.now in
    let d = a.start.at + 2 in
    let z = clean_stands a.strand.now a.start k c.requires.clean in
    let b = clean_data a.strand.now a.start k c.requires.clean in
    let o = c.copy in
    let y = o.new.out in
    let t = c.tail_given-tail in
    let n : length y ≡ k = ap length o.ensures ∙ m_long a.strand.now a.start k d c.requires.at_start.0.message.0 b z.1 z.0 in
    record { at_start = subst (λ (i : ℕ). AtStart a.strand.now a.start a.rest.now i) (sym n) c.requires.at_start.0; found = c.find_separator-found.ensures ∙ (ap separator_as (whole_separator a.strand.now a.start k d b) ∙ ap (λ (i : ℕ). separator_as (separator_in a.strand.now a.start i)) (sym n)); message = clean_Message a.strand.now a.start k d c.requires.at_start.0.message.0 b z.1 z.0 y o.ensures t.result t.ensures }
