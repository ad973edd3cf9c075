use Rattle.std.proofs.Common.{◌≡◌, sym, ap, ◌∙◌, Err, length}
use Rattle.std.proofs.lemmas.Result.{err_from_is_err_and}
use Rattle.code.specs.Order.{Order, order}
use Rattle.code.specs.ReadCall.{read_test, read_call}
use Rattle.code.proofs.laws.ReadCall.{received_refused}
use Rattle.reader.proofs.Calls.{promised}
use Rattle.reader.proofs.read.Goals as goal

pub returns-then-b-le-SHORT_BYTES-clause-one_edit : goal.returns-then-b-le-SHORT_BYTES-clause-one_edit
returns-then-b-le-SHORT_BYTES-clause-one_edit c =
    let a = c.args in
    (promised (order a.lengths.now a.b) a.letters.now a.message.now a.sheet.now _ (c.read_within.ensures ∙ ap (λ (o : Order). read_call o a.letters.now a.message.now a.sheet.now) c.known-order.ensures)).1

pub returns-else-letters-le-SHORT_LETTERS-clause-one_edit : goal.returns-else-letters-le-SHORT_LETTERS-clause-one_edit
returns-else-letters-le-SHORT_LETTERS-clause-one_edit c =
    let a = c.args in
    (promised (order a.lengths.now a.b) a.letters.now a.message.now a.sheet.now _ (c.read_within-else-letters-le-SHORT_LETTERS.ensures ∙ ap (λ (o : Order). read_call o a.letters.now a.message.now a.sheet.now) c.known-order.ensures)).1

pub returns-in_err-received_test-clause-one_edit : goal.returns-in_err-received_test-clause-one_edit
returns-in_err-received_test-clause-one_edit c =
    let a = c.args in
    let o = order a.lengths.now a.b in
    let r = c.in_err-received_test.field-0.0 in
    let q : read_test o a.letters.now (length a.message.now) (length a.sheet.now) ≡ Err r = received_refused o (length a.letters.now) r _ (sym c.received_test.ensures ∙ c.in_err-received_test.was) in
    let p = err_from_is_err_and c.from_residual.result c.from_residual.ensures.1 in
    let e : c.from_residual.result ≡ Err r = p.1 ∙ ap Err p.2 in
    (promised o a.letters.now a.message.now a.sheet.now _ (rw q (λ i. (e i, (a.message.now, a.sheet.now))))).1
