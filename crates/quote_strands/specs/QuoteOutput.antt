-- What quote_strands prints.
--   quote_lines    a line for each number of a quote
--   shown          a quote's answer
--   strands_in     the same for the number that a line holds
--   quote_text     the same for an order and a line
--   quote_output   what is printed for an input
--   output_room    room for all that is printed
use Rattle.std.specs.Prelude.{Option, Some, None, Result, Ok, Err, List, [], ◌∷◌, ◌++◌, ℕ}
use Rattle.code.specs.declared.Refusal.{Refusal}
use Rattle.code.specs.declared.Quote.{Quote}
use Rattle.code.specs.declared.Refusal.TheVariants.{MessageSize}
use Rattle.code.specs.Order.{Order}
use Rattle.code.specs.Quote.{quote_call}
use Rattle.text.specs.Lines.{feed}
use Rattle.text.specs.Decimal.{named, number_in}
use Rattle.console.specs.LabelLine.{printed}
use Rattle.console.specs.RefusedLine.{refused_line}

-- the letters, the bytes of sheets and the starts, each in a line with its name
unfoldable pub quote_lines : ℕ → ℕ → ℕ → List ℕ
quote_lines letters bytes starts = named "letters " letters ++ feed ∷ named "sheet bytes " bytes ++ feed ∷ named "starts " starts ++ feed ∷ []

-- what a quote answers: its lines, or the refusal
unfoldable pub shown : Result Quote Refusal → List ℕ
shown (Ok q) = quote_lines q.letters q.bytes q.starts
shown (Err r) = refused_line r

-- the same for an order and the number of strands that a line holds, or refused 2
unfoldable pub strands_in : Order → Option ℕ → List ℕ
strands_in o (Some n) = shown (quote_call o n)
strands_in o None = refused_line MessageSize

-- the same for an order and a line
unfoldable pub quote_text : Order → List ℕ → List ℕ
quote_text o digits = strands_in o (number_in digits)

-- what is printed for an input: its first line holds the label, its second the number of strands
unfoldable pub quote_output : List ℕ → List ℕ
quote_output input = printed quote_text input

-- room for all that is printed: the words of three lines, three numbers of at most ten digits and a line feed for each
abbrev pub output_room : ℕ
output_room = 60
