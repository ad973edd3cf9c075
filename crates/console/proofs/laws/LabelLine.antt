-- Laws of the line that holds a label.
--   line_inside     the lengths of a line's order stand in their array
--   lines_taken     what is printed of an order that is taken
--   lines_refused   what is printed of a refusal
use Rattle.text.specs.Hex.{hex_bytes}
use Rattle.code.proofs.laws.Label.{label_inside}
use Rattle.std.specs.Prelude.{Result, Ok, Err, ◌≡◌, List, ℕ, take, refl, Bool, true, false, ◌≤◌, length, IfOk}
use Rattle.std.proofs.Common.{sym, ap, ◌∙◌}
use Rattle.code.specs.declared.Refusal.{Refusal}
use Rattle.code.specs.declared.Labelled.{Labelled}
use Rattle.code.specs.Order.{Order, order}
use Rattle.text.specs.Lines.{line, behind}
use Rattle.console.specs.RefusedLine.{refused_line}
use Rattle.console.specs.LabelLine.{order_line, printed, holds_label}

-- the lengths of a line's order stand in their array
pub line_inside : (text : List ℕ) → IfOk (order_line text) (λ l. l.count ≤ length l.lengths)
line_inside text = go (holds_label text) refl
  where
    go : (b : Bool) → holds_label text ≡ b → IfOk (order_line text) (λ l. l.count ≤ length l.lengths)
    go true e = rw e (label_inside (hex_bytes text))
    go false e = rw e tt

-- the text of the first two lines of an input
module _ (f : Order → List ℕ → List ℕ) (input first : List ℕ) (answer : Result Labelled Refusal) (p : first ≡ line input) (e : answer ≡ order_line first) where
  told : order_line (line input) ≡ answer
  told = sym (e ∙ ap order_line p)

  pub lines_taken : (l : Labelled) (lengths second : List ℕ) → lengths ≡ take l.count l.lengths → second ≡ line (behind input) → answer ≡ Ok l → f (order lengths l.b) second ≡ printed f input
  lines_taken l lengths second k q t = rw (told ∙ t) (λ i. f (order (k i) l.b) (q i))

  pub lines_refused : (r : Refusal) → answer ≡ Err r → refused_line r ≡ printed f input
  lines_refused r t = rw (told ∙ t)
