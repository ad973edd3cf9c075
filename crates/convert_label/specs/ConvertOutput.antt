-- What convert_label prints.
--   shown                         a conversion's answer and its buffer
--   convert_text                  the same for a line
--   convert_output                what is printed for an input
--   most_converted, output_room   room for a converted label, and for all that is printed
use Rattle.std.specs.Prelude.{Result, Ok, Err, cond, List, [], ◌∷◌, ◌++◌, ℕ, ◌+◌, ◌*◌, take, replicate}
use Rattle.code.specs.declared.Refusal.{Refusal}
use Rattle.code.specs.declared.Refusal.TheVariants.{Label}
use Rattle.code.specs.Conversion.{convert_call}
use Rattle.text.specs.Lines.{feed, line}
use Rattle.text.specs.Hex.{hex_bytes, hex_digits}
use Rattle.console.specs.LabelLine.{holds_label}
use Rattle.console.specs.RefusedLine.{refused_line}

-- the most bytes of a label that is written: one of edition 3 with 64 lengths
abbrev pub most_converted : ℕ
most_converted = 75

-- what a conversion answers: the label's digits in a line, or the refusal
unfoldable pub shown : Result ℕ Refusal × List ℕ → List ℕ
shown (Ok n, label) = hex_digits (take n label) ++ feed ∷ []
shown (Err r, label) = refused_line r

-- the same for a line, with a buffer of zeros: the line holds a label, or refused 8
unfoldable pub convert_text : List ℕ → List ℕ
convert_text text = cond (holds_label text) (shown (convert_call (hex_bytes text) (replicate most_converted 0))) (refused_line Label)

-- what is printed for an input: its first line holds the label
unfoldable pub convert_output : List ℕ → List ℕ
convert_output input = convert_text (line input)

-- room for all that is printed: two digits for each byte of the label, and a line feed
abbrev pub output_room : ℕ
output_room = 2 * most_converted + 1
