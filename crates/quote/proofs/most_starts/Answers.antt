use mathlib.Core.Path.{◌≡◌, sym, ap, ◌∙◌}
use Prim.Native.Nat.{◌+◌, ◌-◌}
use native.Mathlib.Omega.{arith}
use lib.ListN.{length}
use Rattle.code.specs.Limits.{most_length}
use Rattle.code.specs.Starts.{most_starts}
use Rattle.code.proofs.laws.Starts.{in_numbers_lem}
use Rattle.quote.proofs.Starts.{above_most, starts_fit}
use Rattle.quote.proofs.most_starts.Goals as goal

pub overflow_mul-result-2 : goal.overflow_mul-result-2
overflow_mul-result-2 c = record { fits = omega (arith, c.segments-m.ensures.fit, starts_fit (c.segments-m.result - 1) (omega (arith, c.segments-m.ensures.fit))) }

pub overflow_add-result-2 : goal.overflow_add-result-2
overflow_add-result-2 c = record { fits = omega (arith, c.segments-m.ensures.fit, starts_fit (c.segments-m.result - 1) (omega (arith, c.segments-m.ensures.fit))) }

pub overflow_sub-result : goal.overflow_sub-result
overflow_sub-result c =
    let ks = c.lengths.result.now in
    let m : c.segments-m.result ≡ length ks = c.segments-m.ensures.value ∙ ap length (sym c.lengths.ensures.value) in
    omega (arith, m, c.not_above.ensures, above_most ks)

pub returns : goal.returns
returns c =
    let ks = c.lengths.result.now in
    let m : c.segments-m.result ≡ length ks = c.segments-m.ensures.value ∙ ap length (sym c.lengths.ensures.value) in
    let e : length ks - 1 + 1 ≡ length ks = omega (arith, c.lengths.ensures.some) in
    rw (m, e, c.not_above.ensures) (sym (in_numbers_lem most_length ks c.lengths.ensures.within) ∙ ap most_starts c.lengths.ensures.value)
