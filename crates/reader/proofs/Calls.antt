-- What the reading call uses.
--   room       buffers that are not too short
--   promised   both clauses of the promise, from the first
use Rattle.std.specs.Prelude.{Result}
use mathlib.Core.Path.{◌≡◌}
use mathlib.Core.Bool.{false}
use mathlib.Core.List.{List}
use Prim.Native.Nat.{ℕ, ◌≤◌}
use borrow.Author.Tests.{ltb-false}
use lib.Dec.{ltb}
use lib.ListN.{length}
use Rattle.code.specs.declared.Counts.{Counts}
use Rattle.code.specs.declared.Refusal.{Refusal}
use Rattle.code.specs.Order.{Order}
use Rattle.code.proofs.laws.Refusals.{or-false}
use Rattle.code.specs.Sheet.{sheet_bytes}
use Rattle.code.specs.ReadCall.{short_buffers, read_call}
use Rattle.code.specs.ReadDemand.{Demand3Call}
use Rattle.code.proofs.laws.ReadDemand.{demand_3_call}

-- buffers that are not too short
pub room : (o : Order) (n m : ℕ) → short_buffers o n m ≡ false → (o.b ≤ n) × (sheet_bytes (length o.lengths) ≤ m)
room o n m e =
    let p = or-false (ltb n o.b) (ltb m (sheet_bytes (length o.lengths))) e in
    (ltb-false n o.b p.0, ltb-false m (sheet_bytes (length o.lengths)) p.1)

module _ (o : Order) (cs message sheet : List ℕ) (result : Result Counts Refusal × (List ℕ × List ℕ)) where
  -- both clauses of the promise, from the first
  pub promised : result ≡ read_call o cs message sheet → (result ≡ read_call o cs message sheet) × Demand3Call o cs message sheet result
  promised e = (e, rw e (demand_3_call o cs message sheet))
