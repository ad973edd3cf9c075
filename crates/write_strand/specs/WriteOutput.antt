-- What write_strand prints.
--   written        the writer's answer and its buffer
--   write_text     the same for an order and digits
--   write_output   what is printed for an input
--   output_room    room for all that is printed
use Rattle.std.specs.Prelude.{Result, Ok, Err, cond, List, [], ◌∷◌, ◌++◌, ℕ, ◌+◌, take, replicate}
use Rattle.code.specs.declared.Refusal.{Refusal}
use Rattle.code.specs.declared.Refusal.TheVariants.{MessageSize}
use Rattle.code.specs.Limits.{most_bytes, most_letters}
use Rattle.code.specs.Order.{Order}
use Rattle.code.specs.Writing.{write_call}
use Rattle.text.specs.Lines.{feed}
use Rattle.text.specs.Hex.{hex_bytes, decodable}
use Rattle.console.specs.LabelLine.{printed}
use Rattle.console.specs.RefusedLine.{refused_line}

-- what the writer answers: the letters of its buffer in a line, or the refusal
unfoldable pub written : Result ℕ Refusal × List ℕ → List ℕ
written (Ok n, strand) = take n strand ++ feed ∷ []
written (Err r, strand) = refused_line r

-- the same for an order and a line, with a buffer of zeros: the line is at most 512 bytes in hexadecimal digits, or refused 2
unfoldable pub write_text : Order → List ℕ → List ℕ
write_text o digits = cond (decodable digits most_bytes) (written (write_call o (hex_bytes digits) (replicate most_letters 0))) (refused_line MessageSize)

-- what is printed for an input: its first line holds the label, its second the message
unfoldable pub write_output : List ℕ → List ℕ
write_output input = printed write_text input

-- room for all that is printed: the buffer and a line feed
abbrev pub output_room : ℕ
output_room = most_letters + 1
