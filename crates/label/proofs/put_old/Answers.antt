use mathlib.Core.Path.{sym, ap, ◌∙◌}
use mathlib.Core.Bool.{false}
use mathlib.Core.List.{List, [], ◌++◌}
use Prim.Native.Nat.{ℕ, ◌+◌, ◌*◌, ◌%◌}
use lib.ListN.{get_or}
use Rattle.code.specs.Limits.{old_length, old_bytes}
use Rattle.code.specs.Layers.{Word, bits}
use Rattle.code.specs.Label.{in_bits, equal}
use Rattle.code.proofs.laws.Order.{order_fine, Within}
use Rattle.code.proofs.laws.Label.{Within-old}
use Rattle.label.specs.PutBits.{put_call}
use Rattle.label.proofs.Calls.{equal-bits}
use Rattle.label.proofs.put_old.Goals.{After-length_at, After-lengths-lengths}
use Rattle.label.proofs.put_old.Goals as goal

-- the order is within the limits of the old editions
within : (c : After-lengths-lengths) → Within old_length old_bytes c.args.order.now false
within c = Within-old c.args.order.now (order_fine c.args.order.now false c.lengths-lengths.ensures.taken) c.requires

pub returns-then-equal : goal.returns-then-equal
returns-then-equal c =
    let o = c.args.order.now in
    let l = c.lengths-lengths.ensures.value in
    let e = equal-bits o (within (goal.at.returns-then-equal c).After-lengths-lengths) _ (c.length_at.ensures ∙ ap (λ (ks : List ℕ). get_or ks 0 0) l) (ap equal (sym l) ∙ sym c.equal.ensures ∙ c.if-equal.true) in
    c.put_bits.ensures ∙ ap (λ (u : Word). put_call u c.args.out.now) (ap (λ (b : ℕ). bits 32 (268435456 + c.length_at.result * 2097152 % 4294967296 + b * 8192 % 4294967296) ++ in_bits 7 []) c.bytes.ensures.value ∙ sym e)
