-- Adding the counts of one reading to a tally.
--   most_count   the largest count
--   full         a count would pass it
--   tallied      the tally with one strand more, or refused whole
use Rattle.std.specs.Prelude.{Result, Ok, Err, Bool, true, false, ◌||◌, ℕ, ◌+◌, ltb}
use Rattle.code.specs.declared.Refusal.{Refusal}
use Rattle.code.specs.declared.Refusal.TheVariants.{TallyFull}
use Rattle.code.specs.declared.Counts.{Counts}
use Rattle.code.specs.declared.Tally.{Tally}

-- the largest count, that of 32 bits
abbrev pub most_count : ℕ
most_count = 4294967295

-- a count with n added would pass it
abbrev pub passes : ℕ → ℕ → Bool
passes count n = ltb most_count (count + n)

-- one of the four counts would
abbrev pub full : Tally → Counts → Bool
full t n = passes t.strands 1 || passes t.counts.clean n.clean || passes t.counts.corrected n.corrected || passes t.counts.lost n.lost

-- the tally with the counts of one reading
abbrev pub added : Tally → Counts → Tally
added t n =
    record {
      strands = t.strands + 1;
      counts = record {
        clean = t.counts.clean + n.clean;
        corrected = t.counts.corrected + n.corrected;
        lost = t.counts.lost + n.lost;
      };
    }

-- the sum, or the refusal
abbrev pub unless_full : Bool → Tally → Result Tally Refusal
unless_full true t = Err TallyFull
unless_full false t = Ok t

-- what adding a reading's counts answers
abbrev pub tallied : Tally → Counts → Result Tally Refusal
tallied t n = unless_full (full t n) (added t n)
