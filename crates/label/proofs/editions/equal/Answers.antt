use Rattle.std.proofs.Common.{rules, ◌∙◌, arith, le-ltb, eqb}
use borrow.Author.Tests.{tests}
use Rattle.std.specs.Prelude.{◌≡◌, false, length, get_or}
use Rattle.std.proofs.lemmas.Iterator.{YieldsList-from_slice}
use Rattle.std.proofs.lemmas.Iterator.Search.{all_from_yields_List}
use Rattle.code.specs.Limits.{most_segments}
use Rattle.code.specs.Refusals.{outside}
use Rattle.label.proofs.SameLengths.{all_equal}
use Rattle.label.proofs.editions.equal.Goals as goal

pub returns-then-lengths-le-MOST_SEGMENTS : goal.returns-then-lengths-le-MOST_SEGMENTS
returns-then-lengths-le-MOST_SEGMENTS c =
    let s = c.args.lengths.now in
    let k = get_or s 0 0 in
    let inside : outside 1 most_segments (length s) ≡ false = rw (le-ltb (length s) 1 (omega arith), le-ltb most_segments (length s) (omega arith)) in
    rw inside (all_from_yields_List (λ x. eqb x k) _ _ c.all.result c.all.ensures.ran (YieldsList-from_slice s cc) (λ x b q j. search (rules, tests)) ∙ all_equal k s)
