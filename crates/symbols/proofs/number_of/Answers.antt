use mathlib.Core.Path.{◌≡◌, subst}
use mathlib.Core.Bool.{Bool, true}
use Rattle.symbols.specs.Letters.{is_letter}
use Rattle.symbols.proofs.LetterBits.{symbol_bits, letter_bits}
use Rattle.symbols.proofs.number_of.Goals as goal

pub returns-then-unknown : goal.returns-then-unknown
returns-then-unknown c = letter_bits c.args.c (subst (λ (n : Bool). is_letter n c.args.c ≡ true) c.if-unknown.true c.requires)

pub returns-else-unknown : goal.returns-else-unknown
returns-else-unknown c = symbol_bits c.args.c (subst (λ (n : Bool). is_letter n c.args.c ≡ true) c.if-unknown.false c.requires)
