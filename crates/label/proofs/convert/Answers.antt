use Rattle.std.proofs.Common.{rules}
use Rattle.std.specs.Prelude.{Ok}
use mathlib.Core.Path.{◌≡◌, sym, ap, ◌∙◌}
use mathlib.Core.Bool.{true, false, not}
use Rattle.code.specs.Limits.{most_length, most_bytes}
use Rattle.code.specs.Order.{Order, order_test}
use Rattle.code.proofs.laws.Order.{Within-fine}
use Rattle.code.specs.Label.{listing, too_large, old_bits, edition_of, order_of, label_read_test}
use Rattle.code.proofs.laws.Label.{edition_Ordered}
use Rattle.code.proofs.laws.LabelTaken.{label_Good}
use Rattle.label.specs.PutBits.{put_call}
use borrow.Author.Tests.{tests}
use Rattle.std.proofs.Common.{eqb}
use Rattle.label.proofs.Numbers.{is_third}
use Rattle.label.proofs.Calls.{answer_refused, answer_taken, answer_order, convert_refused, convert_old, convert_large, convert_third}
use Rattle.label.proofs.convert.Goals.{After-known-order, After-ne, In_ok-label}
use Rattle.label.proofs.convert.Goals as goal

-- the label is taken
taken : (c : In_ok-label) → label_read_test c.args.bytes.now ≡ Ok tt
taken c = (answer_taken c.args.bytes.now c.read.result c.read.ensures _ c.in_ok-label.was).0

-- its order
same : (c : After-known-order) → c.known-order.result ≡ order_of c.args.bytes.now
same c = c.known-order.ensures ∙ rw c.lengths.ensures (answer_order c.args.bytes.now c.read.result c.read.ensures _ c.in_ok-label.was)

-- whether its edition is 3
told : (c : After-ne) → c.ne.result ≡ not (eqb (edition_of c.args.bytes.now) 3)
told c = c.ne.ensures ∙ ap not (is_third (edition_of c.args.bytes.now) _ c.edition_of.result c.edition_of.ensures)

third : (c : After-ne) → c.ne.result ≡ false → edition_of c.args.bytes.now ≡ 3
third c e = search (rules, tests, told c, e)

other : (c : After-ne) → c.ne.result ≡ true → edition_of c.args.bytes.now ≡ 3 → ⊥
other c e p = search (rules, tests, told c, e, p)

pub returns-in_err-label : goal.returns-in_err-label
returns-in_err-label c = rw (convert_refused c.args.bytes.now c.args.out.now _ (answer_refused c.args.bytes.now c.read.result c.read.ensures _ c.in_err-label.was)) (search rules)

pub known-order-requires : goal.known-order-requires
known-order-requires c =
    let label = c.args.bytes.now in
    let h = edition_Ordered (edition_of label) (order_of label) (label_Good label (taken (goal.at.known-order-requires c).In_ok-label)).fine in
    let e = answer_order label c.read.result c.read.ensures _ c.in_ok-label.was in
    rw c.lengths.ensures (ap (λ (o : Order). order_test o false (Ok tt)) e ∙ Within-fine most_length most_bytes (order_of label) h)

pub returns-then-ne : goal.returns-then-ne
returns-then-ne c =
    let label = c.args.bytes.now in
    c.put_listing.ensures
    ∙ ap (λ (o : Order). put_call (listing 3 o) c.args.out.now) (same (goal.at.returns-then-ne c).After-known-order)
    ∙ sym (convert_old label c.args.out.now (taken (goal.at.returns-then-ne c).In_ok-label) (λ e. other (goal.at.returns-then-ne c).After-ne c.if-ne.true e))

pub returns-then-too_large : goal.returns-then-too_large
returns-then-too_large c =
    let large = ap too_large (sym (same (goal.at.returns-then-too_large c).After-known-order)) ∙ sym c.too_large.ensures ∙ c.if-too_large.true in
    sym (convert_large c.args.bytes.now c.args.out.now (taken (goal.at.returns-then-too_large c).In_ok-label) (third (goal.at.returns-then-too_large c).After-ne c.if-ne.false) large)

pub returns : goal.returns
returns c =
    let label = c.args.bytes.now in
    let small = ap too_large (sym (same (goal.at.returns c).After-known-order)) ∙ sym c.too_large.ensures ∙ c.if-too_large.false in
    c.put_old.ensures
    ∙ ap (λ (o : Order). put_call (old_bits o) c.args.out.now) (same (goal.at.returns c).After-known-order)
    ∙ sym (convert_third label c.args.out.now (taken (goal.at.returns c).In_ok-label) (third (goal.at.returns c).After-ne c.if-ne.false) small)
