use mathlib.Core.Path.{◌≡◌, sym, ◌∙◌}
use mathlib.Core.Bool.{true}
use borrow.Author.Tests.{eq-eqb, le-leb}
use Rattle.std.specs.Prelude.{Some}
use Rattle.text.specs.HexDigit.{no_digit, all_digits}
use Rattle.text.proofs.laws.Hex.{length-hex_bytes}
use Rattle.text.proofs.hex.decode.Goals as goal

pub returns : goal.returns
returns c =
    let a = c.args in
    let t = eq-eqb _ _ c.if-text-ne0.false in
    let d : all_digits no_digit a.text.now ≡ true = sym c.all_digits.ensures ∙ c.if-not-all_digits.false in
    let s = le-leb _ _ c.if-out-n.false in
    let n = length-hex_bytes a.text.now in
    simp (t, d, s) (λ i. (Some (sym n i), c.put_bytes.ensures i))
