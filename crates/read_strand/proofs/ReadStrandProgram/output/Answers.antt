use mathlib.Core.Path.{ap, ◌∙◌}
use Rattle.text.specs.Lines.{line}
use Rattle.console.proofs.laws.LabelLine.{lines_taken, lines_refused}
use Rattle.read_strand.specs.ReadOutput.{read_text, read_output}
use Rattle.read_strand.proofs.ReadStrandProgram.output.Goals as goal

pub returns-in-Ok : goal.returns-in-Ok
unfolding read_output
returns-in-Ok c =
    let second = c.line-in-Ok.ensures ∙ ap line c.behind.ensures in
    rw (← lines_taken read_text c.args.input.now _ _ c.line.ensures c.order_of.ensures _ _ _ c.lengths.ensures second c.in-Ok.is) c.put_reading.ensures

pub returns-in-Err : goal.returns-in-Err
unfolding read_output
returns-in-Err c = rw (← lines_refused read_text c.args.input.now _ _ c.line.ensures c.order_of.ensures _ c.in-Err.is) c.put_refused.ensures
