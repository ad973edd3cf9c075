-- Where a segment ends.
--   separator_in   the separator of the segment at a start
--   settled_at     whether the symbols after it settle the end
--   end_from       where the segment of a message ends, with its last symbol
--   IsEnd          what a call answers of it
use Rattle.std.specs.Prelude.{◌≡◌, Bool, List, ℕ, length, drop}
use Rattle.std.proofs.Math.Option.{Option}
use Rattle.code.specs.Segment.{last_of, data_at}
use Rattle.code.specs.Reading.{Shift, separator_at, settled, end_of}
use Rattle.scan.specs.declared.Next.{Next}
use Rattle.scan.specs.Scans.{Ahead, start_of, start_from, Known}
use Rattle.steps.specs.declared.strand.Strand.{Strand}
use Rattle.steps.specs.declared.strand.Start.{Start}

-- the separator of the segment of k message symbols at a start
abbrev pub separator_in : Strand → Start → ℕ → Option Shift
separator_in strand start k = separator_at k (drop (data_at start.marked) (drop start.at strand.symbols.now))

-- the symbols after that separator settle the end of the message m
abbrev pub settled_at : Strand → Start → List ℕ → Bool
settled_at strand start m = settled (length m) (drop (data_at start.marked) (drop start.at strand.symbols.now)) m (separator_in strand start (length m))

-- where the segment of the message m ends, with its last symbol; ks are the lengths behind it
abbrev pub end_from : Strand → Start → List ℕ → List ℕ → Option Ahead
end_from strand start m ks = start_from 0 start.at (λ o. last_of m) (end_of start.marked (length m) ks (drop start.at strand.symbols.now) (drop start.at strand.letters.now) m)

-- r names that end
abbrev pub IsEnd : Strand → Start → List ℕ → List ℕ → Next → Type 0
IsEnd strand start m ks r = (start_of r ≡ end_from strand start m ks) × Known strand.symbols.now strand.letters.now ks r
