use mathlib.Core.Path.{sym, ◌∙◌}
use Rattle.console.proofs.Lines.{no_digits, other_size, Held-label}
use Rattle.console.proofs.label_of.Goals as goal

pub returns-in_err-n : goal.returns-in_err-n
returns-in_err-n c =
    let d = c.decode in
    rw c.from_residual.ensures (no_digits c.args.line.now c.args.label.now d.new.out c.requires ((λ i. (sym c.in_err-n.was i, d.new.out)) ∙ d.ensures))

pub returns-then-not-is_whole : goal.returns-then-not-is_whole
returns-then-not-is_whole c =
    let d = c.decode in
    other_size c.args.line.now c.args.label.now d.new.out c.requires _ ((λ i. (sym c.in_ok-n.was i, d.new.out)) ∙ d.ensures) _ c.front.ensures (sym c.is_whole.ensures ∙ c.if-not-is_whole.true)

pub returns : goal.returns
returns c =
    let d = c.decode in
    Held-label c.args.line.now c.args.label.now d.new.out c.requires _ ((λ i. (sym c.in_ok-n.was i, d.new.out)) ∙ d.ensures) _ c.front.ensures (sym c.is_whole.ensures ∙ c.if-not-is_whole.false)
