use Rattle.std.specs.Prelude.{Some, None}
use Rattle.console.specs.LabelLine.{Held}
use Rattle.convert_label.proofs.Shown.{line_shown, bad_shown}
use Rattle.convert_label.proofs.ConvertLabelProgram.output.Goals as goal

pub returns-in-Some : goal.returns-in-Some
returns-in-Some c =
    let l = c.label_of in
    let h : Held c.line.result.now (Some c.in-Some.n) l.new.label = rw c.in-Some.is at l.ensures in
    rw (← line_shown c.args.input.now _ l.new.label c.line.ensures c.in-Some.n _ h c.front.ensures) c.put_converted.ensures

pub returns-in-None : goal.returns-in-None
returns-in-None c =
    let l = c.label_of in
    let h : Held c.line.result.now None l.new.label = rw c.in-None.is at l.ensures in
    rw (← bad_shown c.args.input.now _ l.new.label c.line.ensures h) c.put_refused.ensures
