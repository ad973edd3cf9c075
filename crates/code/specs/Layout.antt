-- A layout, the lengths of a strand's messages; and the written strand.
--   sum       the number of symbols of a layout
--   Lengths   the lengths that a layout may have
--   cut       symbols cut into messages by a layout
--   joined    messages joined
--   written   the segments of messages, one after the other
--   strand    the written strand
--   extent    the length of a written strand
use Rattle.std.specs.Prelude.{Bool, true, false, List, [], ◌∷◌, ◌++◌, ℕ, ◌+◌, ◌≤◌, take, drop}
use Rattle.code.specs.Limits.{least_length}
use Rattle.code.specs.Segment.{segment, last_of, size}

-- the number of symbols of a layout
unfoldable pub sum : List ℕ → ℕ
sum [] = 0
sum (k ∷ ks) = k + sum ks

-- every length of a layout is at least the smallest, and at most `most`
pub data Lengths (most : ℕ) : List ℕ → Type 0 where
  done : Lengths most []
  more : {k : ℕ} {ks : List ℕ} → least_length ≤ k → k ≤ most → Lengths most ks → Lengths most (k ∷ ks)

-- symbols cut into messages of the lengths of a layout
unfoldable pub cut : List ℕ → List ℕ → List (List ℕ)
cut [] s = []
cut (k ∷ ks) s = take k s ∷ cut ks (drop k s)

-- messages joined
unfoldable pub joined : List (List ℕ) → List ℕ
joined [] = []
joined (m ∷ ms) = m ++ joined ms

-- the segments of messages; whether the first has a marker, and f for it, are given
unfoldable pub written : Bool → ℕ → List (List ℕ) → List ℕ
written marked f [] = []
written marked f (m ∷ ms) = segment marked f m ++ written true (last_of m) ms

-- the written strand: its first segment has no marker
abbrev pub strand : List (List ℕ) → List ℕ
strand ms = written false 0 ms

-- the length of the segments of a layout
unfoldable pub extent : Bool → List ℕ → ℕ
extent marked [] = 0
extent marked (k ∷ ks) = size marked k + extent true ks
