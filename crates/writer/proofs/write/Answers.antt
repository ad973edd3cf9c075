use Rattle.std.proofs.Common.{rules}
use Rattle.std.specs.Prelude.{Ok}
use mathlib.Core.Path.{◌≡◌, sym, ap, ◌∙◌}
use mathlib.Core.Bool.{Bool, false, not}
use mathlib.Core.List.{List}
use Prim.Native.Nat.{ℕ, ◌≤◌}
use native.Mathlib.Omega.{arith}
use lib.Dec.{eqb}
use lib.ListN.{length}
use Rattle.code.specs.Layout.{extent}
use Rattle.code.specs.Order.{Order, order, order_test}
use Rattle.code.specs.Buffers.{over_front}
use Rattle.code.specs.Writing.{strand_of, write_call}
use Rattle.code.proofs.laws.Order.{Ordered, order_fine}
use Rattle.code.proofs.laws.Writing.{write_refused, write_short, write_fine, ordered-length}
use Rattle.writer.proofs.write.Goals.{Else-out-n, In_ok-order}
use Rattle.writer.proofs.write.Goals as goal

-- tests 1 to 3 are not met
taken : (c : In_ok-order) → order_test (order c.args.lengths.now c.args.b) (not (eqb (length c.args.message.now) c.args.b)) (Ok tt) ≡ Ok tt
taken c =
    let t = c.in_ok-order.ensures in
    ap (λ (other : Bool). order_test (order c.args.lengths.now c.args.b) other (Ok tt)) t.same ∙ ap (λ (o : Order). order_test o false (Ok tt)) (sym t.ok) ∙ t.taken

-- the message has B bytes
size : (c : In_ok-order) → length c.args.message.now ≡ c.args.b
size c = ordered-length (order c.args.lengths.now c.args.b) c.args.message.now 0 (taken c)

-- the strand's letters, and that they fit
extent_is : (c : Else-out-n) → c.extent_of-n.result ≡ extent false c.args.lengths.now
extent_is c = c.extent_of-n.ensures ∙ ap (extent false) c.lengths.ensures.value ∙ ap (λ (o : Order). extent false o.lengths) c.in_ok-order.ensures.ok

-- what is written
told : (c : Else-out-n) (after : List ℕ) → order_test (order c.args.lengths.now c.args.b) (not (eqb (length c.args.message.now) c.args.b)) (Ok tt) ≡ Ok tt → after ≡ over_front (strand_of c.in_ok-order.order.lengths c.args.message.now) c.args.out.now → (Ok c.extent_of-n.result, after) ≡ write_call (order c.args.lengths.now c.args.b) c.args.message.now c.args.out.now
told c after e w =
    let t = write_fine (order c.args.lengths.now c.args.b) c.args.message.now (length c.args.out.now) e (omega (arith, extent_is c, c.if-out-n.false)) in
    let v = w ∙ ap (λ (o : Order). over_front (strand_of o.lengths c.args.message.now) c.args.out.now) c.in_ok-order.ensures.ok in
    rw t (λ i. (Ok (extent_is c i), v i))

pub returns-in_err-order : goal.returns-in_err-order
returns-in_err-order c = rw (write_refused (order c.args.lengths.now c.args.b) c.args.message.now (length c.args.out.now) _ c.in_err-order.ensures.err) (search rules)

pub returns-then-out-n : goal.returns-then-out-n
returns-then-out-n c =
    let n = c.extent_of-n.ensures ∙ ap (extent false) c.lengths.ensures.value ∙ ap (λ (o : Order). extent false o.lengths) c.in_ok-order.ensures.ok in
    rw (write_short (order c.args.lengths.now c.args.b) c.args.message.now (length c.args.out.now) (taken (goal.at.returns-then-out-n c).In_ok-order) (omega (arith, n, c.if-out-n.true)))

pub write_letters-requires : goal.write_letters-requires
write_letters-requires c =
    let m = size (goal.at.write_letters-requires c).In_ok-order in
    record {
      message = m ∙ ap (λ (o : Order). o.b) (sym c.in_ok-order.ensures.ok);
      symbols = (omega (arith, m, c.if-b-le-SHORT_BYTES.true), omega arith);
      room = omega (arith, c.extent_of-n.ensures, ap (extent false) c.lengths.ensures.value, c.if-out-n.false);
    }

pub returns-then-b-le-SHORT_BYTES : goal.returns-then-b-le-SHORT_BYTES
returns-then-b-le-SHORT_BYTES c = told (goal.at.returns-then-b-le-SHORT_BYTES c).Else-out-n _ (taken (goal.at.returns-then-b-le-SHORT_BYTES c).In_ok-order) c.write_letters.ensures

pub write_letters-requires-else-b-le-SHORT_BYTES : goal.write_letters-requires-else-b-le-SHORT_BYTES
write_letters-requires-else-b-le-SHORT_BYTES c =
    let i = (goal.at.write_letters-requires-else-b-le-SHORT_BYTES c).In_ok-order in
    let m = size i in
    record {
      message = m ∙ ap (λ (o : Order). o.b) (sym c.in_ok-order.ensures.ok);
      symbols = (omega (arith, m, (order_fine (order c.args.lengths.now c.args.b) _ (taken i)).bytes_fit), omega arith);
      room = omega (arith, c.extent_of-n.ensures, ap (extent false) c.lengths.ensures.value, c.if-out-n.false);
    }

pub returns-else-b-le-SHORT_BYTES : goal.returns-else-b-le-SHORT_BYTES
returns-else-b-le-SHORT_BYTES c = told (goal.at.returns-else-b-le-SHORT_BYTES c).Else-out-n _ (taken (goal.at.returns-else-b-le-SHORT_BYTES c).In_ok-order) c.write_letters-else-b-le-SHORT_BYTES.ensures
