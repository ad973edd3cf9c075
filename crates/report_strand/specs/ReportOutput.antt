-- What report_strand prints.
--   report_text     the lines of letters for an order, or the refusal
--   report_output   what is printed for an input
use Rattle.std.specs.Prelude.{List, ℕ}
use Rattle.code.specs.Refusals.{unless_refused}
use Rattle.code.specs.Order.{Order}
use Rattle.report.specs.ReportCall.{report_of, strand_test}
use Rattle.console.specs.LabelLine.{printed}
use Rattle.console.specs.RefusedLine.{refused_line}

-- a line for each segment of letters for an order, or the refusal
unfoldable pub report_text : Order → List ℕ → List ℕ
report_text o letters = unless_refused (strand_test o letters) (report_of o letters) refused_line

-- what is printed for an input: its first line holds the label, its second the letters
unfoldable pub report_output : List ℕ → List ℕ
report_output input = printed report_text input
