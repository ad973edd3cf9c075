-- Demand 3 of the C call that reads.
--   Demand3Counts   its numbers are those of an answer that keeps demand 3
use Rattle.std.specs.Prelude.{Result, ◌≡◌, List, ℕ}
use Rattle.code.specs.declared.Refusal.{Refusal}
use Rattle.code.specs.declared.Counts as code_counts
use Rattle.code.specs.Order.{Order}
use Rattle.code.specs.ReadDemand.{Demand3Call}
use Rattle.dnalm.specs.declared.structs.Counts.{Counts}
use Rattle.dnalm.specs.CallAnswers.{from_counted}

-- the numbers of a call are those of an answer that keeps demand 3 with the same buffers
pub record Demand3Counts (o : Order) (cs message sheet : List ℕ) (result : Counts × (List ℕ × List ℕ)) : Type 0 where
  pub counted : Result code_counts.Counts Refusal
  pub told : result.0 ≡ from_counted counted
  pub kept : Demand3Call o cs message sheet (counted, result.1)
