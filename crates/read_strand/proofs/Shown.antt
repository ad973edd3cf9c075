-- What is shown of a reading, by its answer.
--   counts_shown    the message and the counts
--   refused_shown   a refusal
--   digits_most     how many digits the message has at most
use Rattle.std.specs.Prelude.{Result, Ok, Err}
use mathlib.Core.Path.{◌≡◌, sym, ap, ◌∙◌}
use mathlib.Core.List.{List, ◌∷◌, ◌++◌}
use Prim.Native.Nat.{ℕ, ◌*◌, ◌≤◌}
use native.Mathlib.Omega.{arith}
use lib.ListN.{length, take, replicate, length-take}
use Rattle.code.specs.declared.Refusal.{Refusal}
use Rattle.code.specs.declared.Counts.{Counts}
use Rattle.code.specs.Ascii.{ascii}
use Rattle.code.specs.Limits.{most_bytes}
use Rattle.code.specs.Order.{Order}
use Rattle.code.specs.ReadCall.{read_call}
use Rattle.text.specs.Lines.{feed}
use Rattle.text.specs.Hex.{hex_digits}
use Rattle.text.specs.Decimal.{three_named}
use Rattle.text.proofs.laws.Hex.{length-hex_digits}
use Rattle.console.specs.RefusedLine.{refused_line}
use Rattle.read_strand.specs.ReadOutput.{counts_line, shown, read_text}

module _ (o : Order) (letters message sheet : List ℕ) (answer : Result Counts Refusal) (e : (answer, (message, sheet)) ≡ read_call o letters (replicate most_bytes 0) (replicate 16 0)) where
  -- what is shown of an answer and its buffers
  answered : (c : Result Counts Refusal) → answer ≡ c → shown o.b (c, (message, sheet)) ≡ read_text o letters
  unfolding read_text
  answered c told = ap (λ (a : Result Counts Refusal). shown o.b (a, (message, sheet))) (sym told) ∙ ap (shown o.b) e

  pub counts_shown : (c : Counts) → answer ≡ Ok c → hex_digits (take o.b message) ++ feed ∷ three_named (ascii "clean ") c.clean (ascii " corrected ") c.corrected (ascii " lost ") c.lost ≡ read_text o letters
  unfolding shown counts_line three_named
  counts_shown c told = answered (Ok c) told

  pub refused_shown : (r : Refusal) → answer ≡ Err r → refused_line r ≡ read_text o letters
  unfolding shown
  refused_shown r told = answered (Err r) told

-- the first bytes of a message buffer have at most two digits for each of its bytes
pub digits_most : (bytes message : List ℕ) (b : ℕ) → bytes ≡ take b message → length message ≡ most_bytes → length (hex_digits bytes) ≤ 2 * most_bytes
digits_most bytes message b e l = rw e (omega (arith, length-hex_digits (take b message), length-take b message))
