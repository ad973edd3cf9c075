-- A line that holds a label, by its decoding.
--   no_digits    a line that is not decoded holds no label
--   other_size   neither does one with more or fewer bytes than its label needs
--   Held-label   else its bytes are the label's
use mathlib.Core.Path.{◌≡◌, refl, sym, ap, ◌∙◌}
use mathlib.Core.Bool.{Bool, true, false, ◌&&◌}
use mathlib.Core.List.{List}
use Prim.Native.Nat.{ℕ, ◌/◌, ◌%◌, ◌≤◌}
use native.Mathlib.Omega.{arith}
use borrow.Author.Tests.{ne_eqb, leb-false}
use lib.Dec.{eqb, leb}
use lib.ListN.{length, take}
use lib.Seq.{take_at}
use Rattle.code.specs.Label.{needed}
use Rattle.code.proofs.laws.Label.{needed_most}
use Rattle.std.specs.Prelude.{Some, None}
use Rattle.text.specs.HexDigit.{no_digit, all_digits}
use Rattle.text.specs.Hex.{hex_bytes, decode_call}
use Rattle.text.proofs.laws.Hex.{length-hex_bytes, decode_good, decode_bad}
use Rattle.console.specs.LabelLine.{holds_label, most_label, Held}

-- a last test behind others
not_held : (a c d : Bool) → (c ≡ false → d ≡ false) → (a && c) ≡ false → (a && d) ≡ false
not_held true c d w e = w e
not_held false c d w e = e

held : (a c d : Bool) → (a && c) ≡ true → (a && d) ≡ d
held true c d e = refl
held false c d e = let z : ◌≡◌ {A = ℕ} 0 1 = cc in absurd (omega arith)

-- a line that is decoded to a buffer with room for the longest label
module _ (text buffer bytes : List ℕ) (room : most_label ≤ length buffer) where
  abbrev size : Bool
  size = eqb (length (hex_bytes text)) (needed (hex_bytes text))

  -- no label needs more bytes than the buffer has
  too_long : leb (length text / 2) (length buffer) ≡ false → size ≡ false
  too_long e = ne_eqb (length (hex_bytes text)) (needed (hex_bytes text)) (λ q. omega (arith, leb-false (length text / 2) (length buffer) e, needed_most (hex_bytes text), length-hex_bytes text))

  pub no_digits : (None, bytes) ≡ decode_call text buffer → Held text None bytes
  no_digits h = not_held (eqb (length text % 2) 0 && all_digits no_digit text) (leb (length text / 2) (length buffer)) size too_long (decode_bad text buffer bytes h)

  -- the bytes that were decoded
  module _ (n : ℕ) (h : (Some n, bytes) ≡ decode_call text buffer) (part : List ℕ) (f : part ≡ take n bytes) where
    part_is : take n bytes ≡ hex_bytes text
    part_is = let g = decode_good text buffer bytes n h in rw (g.1, g.2) (take_at (hex_bytes text) _ _ refl)

    holds_is : holds_label text ≡ eqb (length part) (needed part)
    holds_is = held (eqb (length text % 2) 0 && all_digits no_digit text) (leb (length text / 2) (length buffer)) size (decode_good text buffer bytes n h).0 ∙ ap (λ (x : List ℕ). eqb (length x) (needed x)) (sym (f ∙ part_is))

    pub other_size : eqb (length part) (needed part) ≡ false → Held text None bytes
    other_size e = holds_is ∙ e

    pub Held-label : eqb (length part) (needed part) ≡ true → Held text (Some n) bytes
    Held-label e = (holds_is ∙ e, part_is)
