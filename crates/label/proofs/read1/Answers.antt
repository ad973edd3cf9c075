use mathlib.Core.Path.{◌≡◌, sym, ap, ◌∙◌}
use Prim.Native.Nat.{ℕ, ◌+◌, ◌-◌, ◌*◌, ◌/◌, min}
use native.Mathlib.Omega.{arith}
use lib.ListN.{drop, take, replicate}
use Rattle.code.specs.Label.{in_bits}
use Rattle.code.proofs.laws.Lists.{take-replicate}
use Rattle.code.proofs.laws.Bits.{number_least}
use Rattle.label.proofs.Calls.{read_order1}
use Rattle.label.proofs.read1.Goals as goal

pub times-n-requires : goal.times-n-requires
times-n-requires c = omega (arith, c.number_at-b.ensures, number_least 8 (drop 11 (in_bits 8 c.args.bytes.now)))

pub overflow_cast-lengths : goal.overflow_cast-lengths
overflow_cast-lengths c = omega (arith, c.number_at-k.ensures, number_least 7 (drop 4 (in_bits 8 c.args.bytes.now)))

pub returns : goal.returns
returns c =
    let label = c.args.bytes.now in
    let h = c.requires in
    let k = c.number_at-k in
    let b = c.number_at-b in
    let n = c.times-n in
    let part : take n.result (replicate 65 k.result) ≡ replicate (min 65 (1 + (4 * b.result / k.result - 1))) k.result =
    take-replicate n.result 65 k.result (omega arith) ∙ ap (λ (m : ℕ). replicate m k.result) n.ensures in
    c.answer.ensures
    ∙ read_order1 label h.0 h.1 (sym c.number_at.ensures ∙ c.if-number_at-ne0.false) k.result b.result k.ensures b.ensures _ part
