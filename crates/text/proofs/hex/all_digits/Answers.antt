use mathlib.Core.Path.{◌∙◌}
use borrow.Author.Rules.{rules}
use borrow.Author.Tests.{tests}
use Rattle.std.proofs.lemmas.Iterator.{YieldsList-from_slice}
use Rattle.std.proofs.lemmas.Iterator.Search.{all_from_yields_List}
use Rattle.text.specs.HexDigit.{no_digit}
use Rattle.text.proofs.laws.HexDigit.{is_below, all_digits_all}
use Rattle.text.proofs.hex.all_digits.Goals as goal

pub returns : goal.returns
returns c =
    let s = c.args.text.now in
    all_from_yields_List (is_below no_digit) _ _ c.all.result c.all.ensures.ran (YieldsList-from_slice s cc) (λ x b q k. search (rules, tests)) ∙ all_digits_all no_digit s
