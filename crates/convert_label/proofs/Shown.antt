-- What is shown of a conversion, by its answer and by the line that holds the label.
--   label_shown, refused_shown   the label on the other side, or a refusal
--   line_shown, bad_shown        a line that holds a label, and one that does not
--   digits_most                  how many digits there are at most
use Rattle.std.specs.Prelude.{Some, None, Result, Ok, Err}
use mathlib.Core.Path.{◌≡◌, sym, ap, ◌∙◌}
use mathlib.Core.List.{List, [], ◌∷◌, ◌++◌}
use Prim.Native.Nat.{ℕ, ◌*◌, ◌≤◌}
use native.Mathlib.Omega.{arith}
use lib.ListN.{length, take, replicate, length-take}
use Rattle.code.specs.declared.Refusal.{Refusal}
use Rattle.code.specs.declared.Refusal.TheVariants.{Label}
use Rattle.code.specs.Conversion.{convert_call}
use Rattle.text.specs.Lines.{feed, line}
use Rattle.text.specs.Hex.{hex_digits}
use Rattle.text.proofs.laws.Hex.{length-hex_digits}
use Rattle.console.specs.LabelLine.{Held}
use Rattle.console.specs.RefusedLine.{refused_line}
use Rattle.convert_label.specs.ConvertOutput.{most_converted, shown, convert_text, convert_output}

module _ (bytes label : List ℕ) (answer : Result ℕ Refusal) (e : (answer, label) ≡ convert_call bytes (replicate most_converted 0)) where
  -- what is shown of an answer and its buffer
  answered : (w : Result ℕ Refusal) → answer ≡ w → shown (w, label) ≡ shown (convert_call bytes (replicate most_converted 0))
  answered w told = ap (λ (a : Result ℕ Refusal). shown (a, label)) (sym told) ∙ ap shown e

  pub label_shown : (n : ℕ) → answer ≡ Ok n → hex_digits (take n label) ++ feed ∷ [] ≡ shown (convert_call bytes (replicate most_converted 0))
  unfolding shown
  label_shown n told = answered (Ok n) told

  pub refused_shown : (r : Refusal) → answer ≡ Err r → refused_line r ≡ shown (convert_call bytes (replicate most_converted 0))
  unfolding shown
  refused_shown r told = answered (Err r) told

module _ (input first buffer : List ℕ) (p : first ≡ line input) where
  pub line_shown : (n : ℕ) (bytes : List ℕ) → Held first (Some n) buffer → bytes ≡ take n buffer → shown (convert_call bytes (replicate most_converted 0)) ≡ convert_output input
  unfolding convert_text convert_output
  line_shown n bytes h f =
      let t : convert_text first ≡ shown (convert_call bytes (replicate most_converted 0)) = rw (h.0, ← h.1, f) in
      sym t ∙ ap convert_text p

  pub bad_shown : Held first None buffer → refused_line Label ≡ convert_output input
  unfolding convert_text convert_output
  bad_shown h =
      let t : convert_text first ≡ refused_line Label = rw h in
      sym t ∙ ap convert_text p

-- a label has at most as many bytes as its buffer, two digits each
pub digits_most : (bytes label : List ℕ) (n : ℕ) → bytes ≡ take n label → length label ≡ most_converted → length (hex_digits bytes) ≤ 2 * most_converted
digits_most bytes label n e l = omega (arith, length-hex_digits bytes, ap length e, length-take n label)
