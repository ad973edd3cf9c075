-- What stands before and behind a message in its segment.
--   mark          the marker's symbols, or nothing
--   syndrome_in   the syndrome symbols of a tail
--   IsTail        the tail of a message
--   tail_of       the symbols of a tail
use Rattle.std.specs.Prelude.{◌≡◌, Bool, true, false, List, [], ◌∷◌, ℕ, length}
use Rattle.code.specs.Layers.{pair, bits, width}
use Rattle.code.specs.Segment.{check, separator, syndrome_of, marker}
use Rattle.tail.specs.declared.Tail.{Tail}

-- the marker's two symbols, where a segment has one
unfoldable pub mark : Bool → ℕ → List ℕ → List ℕ
mark true f m = marker f m ∷ marker f m ∷ []
mark false f m = []

-- both syndromes of a tail, paired bit by bit
abbrev pub syndrome_in : Tail → List ℕ
syndrome_in t = pair (bits t.width t.high) (bits t.width t.low)

-- t is what follows the message m: check, separator and syndrome
pub record IsTail (m : List ℕ) (t : Tail) : Type 0 where
  pub check : t.check ≡ check m
  pub separator : t.separator ≡ separator m
  pub width : t.width ≡ width (length m)
  pub symbols : syndrome_in t ≡ syndrome_of m

-- the symbols of a tail: check, three times the separator, syndrome
unfoldable pub tail_of : Tail → List ℕ
tail_of t = t.check ∷ t.separator ∷ t.separator ∷ t.separator ∷ syndrome_in t
