-- What is shown of a message that is written, by the writer's answer and by the decoding of its digits.
--   letters_shown, refused_shown   the letters, or a refusal
--   Bytes-shown, bad_shown         digits that are decoded, and others
--   letters_most                   how many letters there are at most
use Rattle.std.specs.Prelude.{Option, Some, None, Result, Ok, Err}
use mathlib.Core.Path.{◌≡◌, refl, sym, ap, ◌∙◌}
use mathlib.Core.List.{List, [], ◌∷◌, ◌++◌}
use Prim.Native.Nat.{ℕ, ◌≤◌}
use native.Mathlib.Omega.{arith}
use lib.ListN.{length, take, replicate, length-take}
use lib.Seq.{take_at}
use Rattle.code.specs.declared.Refusal.{Refusal}
use Rattle.code.specs.declared.Refusal.TheVariants.{MessageSize}
use Rattle.code.specs.Limits.{most_bytes, most_letters}
use Rattle.code.specs.Order.{Order}
use Rattle.code.specs.Writing.{write_call}
use Rattle.text.specs.Lines.{feed}
use Rattle.text.specs.Hex.{hex_bytes, decode_call}
use Rattle.text.proofs.laws.Hex.{decode_good, decode_bad}
use Rattle.console.specs.RefusedLine.{refused_line}
use Rattle.write_strand.specs.WriteOutput.{written, write_text}

module _ (o : Order) (message strand : List ℕ) (answer : Result ℕ Refusal) (e : (answer, strand) ≡ write_call o message (replicate most_letters 0)) where
  -- what is shown of an answer and its buffer
  answered : (w : Result ℕ Refusal) → answer ≡ w → written (w, strand) ≡ written (write_call o message (replicate most_letters 0))
  answered w told = ap (λ (a : Result ℕ Refusal). written (a, strand)) (sym told) ∙ ap written e

  pub letters_shown : (n : ℕ) → answer ≡ Ok n → take n strand ++ feed ∷ [] ≡ written (write_call o message (replicate most_letters 0))
  unfolding written
  letters_shown n told = answered (Ok n) told

  pub refused_shown : (r : Refusal) → answer ≡ Err r → refused_line r ≡ written (write_call o message (replicate most_letters 0))
  unfolding written
  refused_shown r told = answered (Err r) told

module _ (o : Order) (digits message : List ℕ) (answer : Option ℕ) (e : (answer, message) ≡ decode_call digits (replicate most_bytes 0)) where
  pub Bytes-shown : (n : ℕ) (bytes : List ℕ) → answer ≡ Some n → bytes ≡ take n message → written (write_call o bytes (replicate most_letters 0)) ≡ write_text o digits
  unfolding write_text
  Bytes-shown n bytes told f =
      let d = decode_good digits (replicate most_bytes 0) message n ((λ i. (sym told i, message)) ∙ e) in
      let g : bytes ≡ hex_bytes digits = f ∙ rw (d.1, d.2) (take_at (hex_bytes digits) _ _ refl) in
      rw (d.0, g)

  pub bad_shown : answer ≡ None → refused_line MessageSize ≡ write_text o digits
  unfolding write_text
  bad_shown told = rw (decode_bad digits (replicate most_bytes 0) message ((λ i. (sym told i, message)) ∙ e))

-- the first letters of a buffer are at most as many as it has
pub letters_most : (letters strand : List ℕ) (n : ℕ) → letters ≡ take n strand → length strand ≡ most_letters → length letters ≤ most_letters
letters_most letters strand n e l = rw e (omega (arith, length-take n strand))
