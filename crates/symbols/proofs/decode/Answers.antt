use mathlib.Core.Path.{◌≡◌, sym, ap, ◌∙◌}
use mathlib.Core.List.{List}
use Prim.Native.Nat.{ℕ}
use lib.ListN.{length, take}
use Rattle.code.specs.Buffers.{over_front}
use Rattle.std.proofs.Common.{rules, tests}
use Rattle.std.proofs.lemmas.Iterator.{YieldsList-from_slice}
use Rattle.std.proofs.lemmas.Iterator.Search.{position_from_yields_List}
use Rattle.code.specs.Symbols.{legible}
use Rattle.symbols.proofs.Verdicts.{symbols_whole, unknown_whole, first_foreign, letters_before, foreign_verdict}
use Rattle.symbols.proofs.decode.Goals.{After-unwrap_or-first}
use Rattle.symbols.proofs.decode.Goals as goal

pub returns-then-all_letters : goal.returns-then-all_letters
returns-then-all_letters c =
    let a = c.args in
    (symbols_whole a.letters.now (sym c.all_letters.ensures ∙ c.if-all_letters.true), c.decode_letters.ensures)

pub returns-then-all_letters-2 : goal.returns-then-all_letters-2
returns-then-all_letters-2 c =
    let a = c.args in
    let f = sym c.all_letters.ensures ∙ c.if-all_letters.false in
    let t = sym c.all_letters-2.ensures ∙ c.if-all_letters-2.true in
    (unknown_whole a.letters.now f t, c.decode_letters-then-all_letters-2.ensures)

-- the first place that is no letter
first : (c : After-unwrap_or-first) → c.unwrap_or-first.result ≡ length (legible c.args.letters.now)
first c =
    first_foreign c.args.letters.now c.position.result _ (position_from_yields_List _ _ _ _ c.position.ensures.ran (YieldsList-from_slice _ c.iter.ensures.rest) (λ x b q k. search (rules, tests))) c.unwrap_or-first.ensures

pub decode_letters-requires-2-clause-letters : goal.decode_letters-requires-2-clause-letters
decode_letters-requires-2-clause-letters c = rw (first (goal.at.decode_letters-requires-2-clause-letters c).After-unwrap_or-first) ((letters_before c.args.letters.now).0)

pub returns : goal.returns
returns c =
    let cs = c.args.letters.now in
    let f = sym c.all_letters-2.ensures ∙ c.if-all_letters-2.false in
    let n = first (goal.at.returns c).After-unwrap_or-first in
    let same : legible (take c.unwrap_or-first.result cs) ≡ legible cs = rw n ((letters_before cs).1) in
    (foreign_verdict cs _ f n, c.decode_letters-2.ensures ∙ ap (λ (l : List ℕ). over_front l c.args.out.now) same)
