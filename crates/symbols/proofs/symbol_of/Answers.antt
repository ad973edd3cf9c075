use mathlib.Core.Path.{◌≡◌, sym, ◌∙◌}
use mathlib.Core.Bool.{true, false}
use Rattle.symbols.specs.Letters.{is_letter}
use Rattle.symbols.proofs.LetterBits.{symbol_number, unknown_letter, no_letter}
use Rattle.symbols.proofs.symbol_of.Goals as goal

pub returns-then-is_letter : goal.returns-then-is_letter
returns-then-is_letter c =
    let e = c.number_of.ensures in
    let h : is_letter false c.args.letter ≡ true = sym c.is_letter.ensures ∙ c.if-is_letter.true in
    rw (← e) (sym (symbol_number c.number_of.result (rw e h)))

pub returns-then-is_letter-2 : goal.returns-then-is_letter-2
returns-then-is_letter-2 c =
    let p = sym c.is_letter.ensures ∙ c.if-is_letter.false in
    sym (unknown_letter c.args.letter p (sym c.is_letter-2.ensures ∙ c.if-is_letter-2.true))

pub returns : goal.returns
returns c = sym (no_letter c.args.letter (sym c.is_letter-2.ensures ∙ c.if-is_letter-2.false))
