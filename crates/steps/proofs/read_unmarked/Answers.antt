use mathlib.Core.Path.{◌≡◌, sym, ap, subst, ◌∙◌}
use Prim.Native.Nat.{ℕ}
use native.Mathlib.Omega.{arith}
use lib.ListN.{length}
use Rattle.message.specs.MessageAnswers.{separator_as}
use Rattle.message.proofs.RepairedLayers.{is_read_message}
use Rattle.steps.specs.Step8.{separator_in}
use Rattle.steps.specs.Steps.{message_from, AtStart}
use Rattle.steps.proofs.Step1.{hit_separator, read_message_hit}
use Rattle.steps.proofs.read_unmarked.Goals as goal

pub finished-requires : goal.finished-requires
finished-requires c =
    let a = c.args in
    let k = length a.out.now in
    let r = c.read_hit-read in
    let y = r.new.out in
    let n : length y ≡ k = omega arith in
    record { at_start = subst (λ (i : ℕ). AtStart a.strand.now a.start a.rest.now i) (sym n) c.requires.at_start; found = c.find_separator-found.ensures ∙ (ap separator_as (hit_separator a.strand.now a.start k c.requires.not_whole) ∙ ap (λ (i : ℕ). separator_as (separator_in a.strand.now a.start i)) (sym n)); message = is_read_message _ _ y r.result (ap (λ (i : ℕ). message_from a.strand.now a.start i) n ∙ read_message_hit a.strand.now a.start k c.requires.not_whole) r.ensures }
