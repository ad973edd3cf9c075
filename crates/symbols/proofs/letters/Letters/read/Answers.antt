use Rattle.std.proofs.Common.{◌≡◌, arith, sym, ap, ◌∙◌}
use Rattle.code.specs.declared.Decoded.TheVariants as D
use Rattle.code.specs.Symbols.{decoded}
use Rattle.symbols.proofs.Decoded.{decoded_front, decoded_length, decoded_unknown}
use Rattle.symbols.proofs.letters.Letters.read.Goals.{In-Whole}
use Rattle.symbols.proofs.letters.Letters.read.Goals as goal

-- every byte is a letter
whole : (c : In-Whole) → decoded c.args.letters.now ≡ D.Whole c.in-Whole.unknown
whole c = sym c.decode.ensures.0 ∙ c.in-Whole.is

pub invariant_of-result : goal.invariant_of-result
invariant_of-result c =
    let cs = c.args.letters.now in
    let e = c.decode.ensures.1 in
    (omega (arith, decoded_length _ cs _ _ e (whole c)), sym (decoded_unknown _ cs _ _ e (whole c)))

pub returns-in-Whole-clause-ok : goal.returns-in-Whole-clause-ok
returns-in-Whole-clause-ok c =
    let cs = c.args.letters.now in
    let e = c.decode.ensures.1 in
    (decoded_front _ cs _ _ e (whole c), whole c ∙ ap D.Whole (sym (decoded_unknown _ cs _ _ e (whole c))))
