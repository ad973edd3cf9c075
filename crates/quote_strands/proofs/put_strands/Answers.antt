use mathlib.Core.Path.{sym, ◌∙◌}
use Rattle.quote_strands.specs.QuoteOutput.{strands_in, quote_text}
use Rattle.quote_strands.proofs.put_strands.Goals as goal

pub returns-in-Some : goal.returns-in-Some
unfolding strands_in quote_text
returns-in-Some c = rw (← (sym c.in-Some.is ∙ c.number_of.ensures)) c.put_quote.ensures

pub returns-in-None : goal.returns-in-None
unfolding strands_in quote_text
returns-in-None c = rw (← (sym c.in-None.is ∙ c.number_of.ensures)) c.put_refused.ensures
