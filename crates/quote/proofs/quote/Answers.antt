use Rattle.std.proofs.Common.{rules}
use Rattle.std.specs.Prelude.{Ok}
use mathlib.Core.Path.{◌≡◌, sym, ap, ◌∙◌}
use mathlib.Core.Bool.{false}
use Prim.Native.Nat.{◌*◌, ◌≤◌}
use native.Mathlib.Nat.{mul-le-mul}
use native.Mathlib.Omega.{arith}
use Rattle.code.specs.Limits.{most_written}
use lib.ListN.{length}
use Rattle.code.specs.Sheet.{sheet_bytes}
use Rattle.code.specs.Layout.{extent}
use Rattle.code.specs.Order.{Order, order, order_test}
use Rattle.code.specs.Starts.{most_starts}
use Rattle.code.proofs.laws.Order.{order_fine}
use Rattle.code.proofs.laws.WithinLimits.{extent_most}
use Rattle.code.proofs.laws.Starts.{most_starts_lem}
use Rattle.quote.proofs.quote.Goals.{After-extent_of}
use Rattle.quote.proofs.quote.Goals as goal

-- the letters of a strand, and of all
letters_most : (c : After-extent_of) → (c.extent_of.result ≤ most_written) × (c.from-n.result * c.extent_of.result ≤ 65535 * most_written)
letters_most c =
    let o = c.in_ok-order in
    let e : c.extent_of.result ≤ most_written = omega (arith, c.extent_of.ensures, ap (extent false) c.lengths.ensures.value, extent_most o.order false (order_fine o.order false o.ensures.taken)) in
    (e, mul-le-mul {n₁ = c.from-n.result} {n₂ = 65535} (omega (arith, c.from-n.ensures)) e)

pub overflow_cast-result : goal.overflow_cast-result
overflow_cast-result c = record { fits = omega (arith, (letters_most c).0) }

pub overflow_mul-result : goal.overflow_mul-result
overflow_mul-result c = record { fits = omega (arith, (letters_most c).1) }

pub overflow_cast-result-2 : goal.overflow_cast-result-2
overflow_cast-result-2 c = record { fits = omega (arith, c.sheet_bytes.ensures, c.segments.ensures.fit) }

pub overflow_mul-result-2 : goal.overflow_mul-result-2
overflow_mul-result-2 c =
    let e : c.sheet_bytes.result ≤ 16 = omega (arith, c.sheet_bytes.ensures, c.segments.ensures.fit) in
    record { fits = omega (arith, mul-le-mul {n₁ = c.from-n.result} {n₂ = 65535} (omega (arith, c.from-n.ensures)) e) }

pub overflow_cast-result-3 : goal.overflow_cast-result-3
overflow_cast-result-3 c =
    let o = c.in_ok-order in
    let h = order_fine o.order false o.ensures.taken in
    record { fits = omega (arith, c.most_starts.ensures, most_starts_lem o.order.lengths h.lengths h.segments_fit) }

pub returns : goal.returns
returns c =
    let o = c.in_ok-order in
    let t : order_test (order c.args.lengths.now c.args.b) false (Ok tt) ≡ Ok tt = ap (λ (o : Order). order_test o false (Ok tt)) (sym o.ensures.ok) ∙ o.ensures.taken in
    let n = c.from-n.ensures in
    let letters = c.extent_of.ensures ∙ ap (extent false) c.lengths.ensures.value ∙ ap (λ (o : Order). extent false o.lengths) o.ensures.ok in
    let segments = c.segments.ensures.value ∙ ap (λ (o : Order). length o.lengths) o.ensures.ok in
    let starts = c.most_starts.ensures ∙ ap (λ (o : Order). most_starts o.lengths) o.ensures.ok in
    rw t (λ i. Ok (record { letters = n i * letters i; bytes = n i * (c.sheet_bytes.ensures ∙ ap sheet_bytes segments) i; starts = starts i }))

pub returns-in_err-order : goal.returns-in_err-order
returns-in_err-order c = rw c.in_err-order.ensures.err (search rules)
