-- The line that holds a label, and the output of a program whose input begins with it.
--   holds_label   a line holds a label
--   most_label    the most bytes that it has
--   Held          what is answered of such a line
--   order_line    what such a line answers
--   order_text    the text of an order that is answered, or the refusal
--   printed       the text of an order and the second line, or the refusal
use Rattle.std.specs.Prelude.{Option, Some, None, Result, Ok, Err, ◌≡◌, Bool, true, false, cond, ◌&&◌, List, ℕ, ◌%◌, eqb, length, take}
use Rattle.code.specs.declared.Refusal.{Refusal}
use Rattle.code.specs.declared.Refusal.TheVariants.{Label}
use Rattle.code.specs.declared.Labelled.{Labelled}
use Rattle.code.specs.Order.{Order}
use Rattle.code.specs.Label.{needed, label_read, order_in}
use Rattle.text.specs.Lines.{line, behind}
use Rattle.text.specs.HexDigit.{no_digit, all_digits}
use Rattle.text.specs.Hex.{hex_bytes}
use Rattle.console.specs.RefusedLine.{refused_line}

-- a line holds exactly the bytes that its label needs, in digits of either case
abbrev pub holds_label : List ℕ → Bool
holds_label text = eqb (length text % 2) 0 && all_digits no_digit text && eqb (length (hex_bytes text)) (needed (hex_bytes text))

-- the most bytes that a label needs
abbrev pub most_label : ℕ
most_label = 146

-- what is answered of a line: how many bytes its label has, which stand at the front of a buffer; or that it holds none
abbrev pub Held : List ℕ → Option ℕ → List ℕ → Type 0
Held text (Some n) buffer = (holds_label text ≡ true) × (take n buffer ≡ hex_bytes text)
Held text None buffer = holds_label text ≡ false

-- the order of the label that a line holds, or refused 8
abbrev pub order_line : List ℕ → Result Labelled Refusal
order_line text = cond (holds_label text) (label_read (hex_bytes text)) (Err Label)

-- the text of an order that is answered, or the line of the refusal
abbrev pub order_text : (Order → List ℕ) → Result Labelled Refusal → List ℕ
order_text text (Ok l) = text (order_in l)
order_text text (Err r) = refused_line r

-- what is printed for an input: the text of its label's order and its second line, or the refusal
abbrev pub printed : (Order → List ℕ → List ℕ) → List ℕ → List ℕ
printed text input = order_text (λ o. text o (line (behind input))) (order_line (line input))
