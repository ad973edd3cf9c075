-- A written segment in its place.
--   Placed           a message and what follows it lie inside
--   may_end          another is to follow it, or the strand ends with it
--   behind_message   what follows a message in its segment
--   stands           the segment of the symbols at D stands at a place
--   stands_at        it stands, and may end where it does
use Rattle.std.specs.Prelude.{◌≡◌, Bool, true, ◌&&◌, List, [], ◌∷◌, ℕ, ◌+◌, ◌-◌, ◌≤◌, eqb, length, take, drop}
use Rattle.code.specs.Limits.{least_length}
use Rattle.code.specs.Bounds.{longest}
use Rattle.code.specs.Layers.{width}
use Rattle.code.specs.Segment.{check, separator, syndrome_of, segment, size, data_at}
use Rattle.code.specs.Reading.{is_prefix}

-- the symbols from d to before `to` are a message, and what follows it in its segment lies inside s, up to `end`
abbrev pub Placed : ℕ → ℕ → ℕ → List ℕ → Type 0
Placed d to end s = (d + least_length ≤ to) × (to ≤ d + longest) × (end ≡ to + (4 + width (to - d))) × (end ≤ length s)

-- a segment of the lengths ks is to follow; or the place is the end of n symbols
abbrev pub may_end : List ℕ → ℕ → ℕ → Bool
may_end [] end n = eqb end n
may_end (k ∷ ks) end n = true

-- check, three times the separator, syndrome
unfoldable pub behind_message : List ℕ → List ℕ
behind_message m = check m ∷ separator m ∷ separator m ∷ separator m ∷ syndrome_of m

-- the segment of the k symbols at D stands at p
abbrev pub stands : Bool → ℕ → ℕ → ℕ → List ℕ → Bool
stands marked f k p s = is_prefix (segment marked f (take k (drop (data_at marked) (drop p s)))) (drop p s)

-- that segment stands, and may end where it does
unfoldable pub stands_at : Bool → ℕ → ℕ → List ℕ → ℕ → List ℕ → Bool
stands_at marked f k ks p s = stands marked f k p s && may_end ks (p + size marked k) (length s)
