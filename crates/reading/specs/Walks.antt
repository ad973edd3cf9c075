-- The walk over a layout.
--   ends_from   where the pieces of outcomes end
--   Lent        the buffers that a walk is lent
--   Walked      what it leaves in them
--   Found       what is said of the segments, and where they end
--   Told        the same, as a value
--   start_in    where a piece starts, by the ends
use Rattle.std.specs.Prelude.{◌≡◌, List, [], ◌∷◌, map, ℕ, zero, suc, ◌+◌, length, get_or}
use Rattle.code.specs.Layout.{sum}
use Rattle.code.specs.Strands.{Outcome, outcomes, messages_of, verdicts_of}
use Rattle.code.specs.Verdicts.{verdict_number}

-- where the pieces end, the first of which starts at p
unfoldable pub ends_from : ℕ → List Outcome → List ℕ
ends_from p [] = []
ends_from p (o ∷ os) = (p + length o.piece) ∷ ends_from (p + length o.piece) os

-- room for the symbols of a layout, and for a verdict and an end of each segment
abbrev pub Lent : List ℕ → List ℕ → List ℕ → List ℕ → Type 0
Lent ks symbols verdicts ends = (length symbols ≡ sum ks) × (length verdicts ≡ length ks) × (length ends ≡ length ks)

-- the messages of the segments of letters, the numbers of their verdicts, and where their pieces end
pub record Walked (ks letters symbols verdicts ends : List ℕ) : Type 0 where
  pub messages : symbols ≡ messages_of (outcomes ks letters)
  pub numbers : verdicts ≡ map verdict_number (verdicts_of (outcomes ks letters))
  pub places : ends ≡ ends_from 0 (outcomes ks letters)

-- the numbers of the verdicts of the segments of letters, and where their pieces end
pub record Found (ks letters verdicts ends : List ℕ) : Type 0 where
  pub numbers : verdicts ≡ map verdict_number (verdicts_of (outcomes ks letters))
  pub places : ends ≡ ends_from 0 (outcomes ks letters)

-- what is told of segments: the numbers of their verdicts, and where their pieces end
pub record Told : Type 0 where
  pub numbers : List ℕ
  pub ends : List ℕ

-- where the piece behind the first i starts: where the one before it ends
abbrev pub start_in : List ℕ → ℕ → ℕ
start_in ends zero = 0
start_in ends (suc i) = get_or ends i 0
