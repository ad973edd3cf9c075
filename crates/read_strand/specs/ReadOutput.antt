-- What read_strand prints.
--   counts_line                the line with the counts
--   shown                      a reading's answer and its message
--   read_text                  the same for an order and letters
--   read_output                what is printed for an input
--   counts_room, output_room   room for the counts, and for all that is printed
use Rattle.std.specs.Prelude.{Result, Ok, Err, List, [], ◌∷◌, ◌++◌, ℕ, ◌+◌, ◌*◌, take, replicate}
use Rattle.code.specs.declared.Refusal.{Refusal}
use Rattle.code.specs.declared.Counts.{Counts}
use Rattle.code.specs.Limits.{most_bytes}
use Rattle.code.specs.Order.{Order}
use Rattle.code.specs.ReadCall.{read_call}
use Rattle.text.specs.Lines.{feed}
use Rattle.text.specs.Hex.{hex_digits}
use Rattle.text.specs.Decimal.{named}
use Rattle.console.specs.LabelLine.{printed}
use Rattle.console.specs.RefusedLine.{refused_line}

-- how many segments are clean, corrected and lost
unfoldable pub counts_line : ℕ → ℕ → ℕ → List ℕ
counts_line clean corrected lost = named "clean " clean ++ named " corrected " corrected ++ named " lost " lost ++ feed ∷ []

-- what a reading answers, for B: the first B bytes of the message buffer in a line of their own and the counts, or the refusal
unfoldable pub shown : ℕ → Result Counts Refusal × (List ℕ × List ℕ) → List ℕ
shown b (Ok n, (message, sheet)) = hex_digits (take b message) ++ feed ∷ counts_line n.clean n.corrected n.lost
shown b (Err r, buffers) = refused_line r

-- the same for an order and letters, with buffers of zeros
unfoldable pub read_text : Order → List ℕ → List ℕ
read_text o letters = shown o.b (read_call o letters (replicate most_bytes 0) (replicate 16 0))

-- what is printed for an input: its first line holds the label, its second the letters
unfoldable pub read_output : List ℕ → List ℕ
read_output input = printed read_text input

-- room for the line with the counts: its words, three numbers of at most ten digits and a line feed
abbrev pub counts_room : ℕ
counts_room = 54

-- room for all that is printed: two digits for each of 512 bytes, a line feed and the counts
abbrev pub output_room : ℕ
output_room = 2 * most_bytes + 1 + counts_room
