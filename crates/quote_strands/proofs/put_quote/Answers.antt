use mathlib.Core.Path.{sym, ◌∙◌}
use Rattle.text.specs.Decimal.{three_named}
use Rattle.quote_strands.specs.QuoteOutput.{quote_lines, shown}
use Rattle.quote_strands.proofs.put_quote.Goals as goal

pub returns-in-Ok : goal.returns-in-Ok
unfolding three_named quote_lines shown
returns-in-Ok c = rw (← (sym c.in-Ok.is ∙ c.quote.ensures)) c.put_three.ensures

pub returns-in-Err : goal.returns-in-Err
unfolding three_named quote_lines shown
returns-in-Err c = rw (← (sym c.in-Err.is ∙ c.quote.ensures)) c.put_refused.ensures
