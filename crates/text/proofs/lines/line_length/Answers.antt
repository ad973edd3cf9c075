use borrow.Author.Rules.{rules}
use borrow.Author.Tests.{tests}
use Rattle.std.proofs.lemmas.Iterator.{YieldsList-from_slice}
use Rattle.std.proofs.lemmas.Iterator.Search.{position_from_yields_List}
use Rattle.text.proofs.laws.Lines.{is_feed, line_length_found}
use Rattle.text.proofs.lines.line_length.Goals as goal

pub returns : goal.returns
returns c =
    let s = c.args.text.now in
    let p = position_from_yields_List is_feed _ _ c.position.result c.position.ensures.ran (YieldsList-from_slice s cc) (λ x b q k. search (rules, tests)) in
    rw (← line_length_found s, ← p) (search rules)
