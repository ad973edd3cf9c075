-- A written segment (SPECIFICATION.md, section 2 and table 3; Definition 1 of the published paper).
--   check         the sum of the message's symbols modulo 4
--   sep           the separator function, Sep
--   syndrome_of   the t syndrome symbols of a message
--   separator     the symbol s of the separator s s s
--   marker        the symbol m of the marker m m
--   block         a segment without its marker
--   segment       a segment with or without its marker
--   last_of       the last symbol of a segment, f for the one after it
--   data_at       where the message stands in a segment
--   size          the length n of a segment of k message symbols
use Rattle.std.specs.Prelude.{Bool, true, false, cond, ◌||◌, List, [], ◌∷◌, ◌++◌, ℕ, ◌+◌, ◌-◌, ◌%◌, eqb, length, get_or}
use Rattle.code.specs.Layers.{layer, pair, syndrome, width, bits}

-- the sum of symbols
unfoldable pub total : List ℕ → ℕ
total [] = 0
total (x ∷ m) = x + total m

-- the symbol sum modulo 4
unfoldable pub check : List ℕ → ℕ
check m = total m % 4

-- x is b or c
abbrev pub either : ℕ → ℕ → ℕ → Bool
either x b c = eqb x b || eqb x c

-- Sep(a, b, c): a + 2 modulo 4 if that is neither b nor c; else a + 3 if that is neither; else a + 1
unfoldable pub sep : ℕ → ℕ → ℕ → ℕ
sep a b c = cond (either ((a + 2) % 4) b c) (cond (either ((a + 3) % 4) b c) ((a + 1) % 4) ((a + 3) % 4)) ((a + 2) % 4)

-- the syndrome symbols a1 .. at: both layers' syndromes in t bits, paired bit by bit
unfoldable pub syndrome_of : List ℕ → List ℕ
syndrome_of m = pair (bits (width (length m)) (syndrome (layer 1 m))) (bits (width (length m)) (syndrome (layer 0 m)))

-- s = Sep(c, a1, a2)
unfoldable pub separator : List ℕ → ℕ
separator m = sep (check m) (get_or (syndrome_of m) 0 0) (get_or (syndrome_of m) 1 0)

-- m = Sep(f, x1, x2)
unfoldable pub marker : ℕ → List ℕ → ℕ
marker f m = sep f (get_or m 0 0) (get_or m 1 0)

-- message, check, separator, syndrome
unfoldable pub block : List ℕ → List ℕ
block m = m ++ check m ∷ separator m ∷ separator m ∷ separator m ∷ syndrome_of m

-- a segment with its marker, f being the last symbol of the segment before; or without
unfoldable pub segment : Bool → ℕ → List ℕ → List ℕ
segment true f m = marker f m ∷ marker f m ∷ block m
segment false f m = block m

-- the last symbol of a segment, which is that of its syndrome
unfoldable pub last_of : List ℕ → ℕ
last_of m = get_or (syndrome_of m) (width (length m) - 1) 0

-- where the message stands in a segment: behind the marker
abbrev pub data_at : Bool → ℕ
data_at marked = cond marked 2 0

-- n: k + t + 6 with the marker, k + t + 4 without
unfoldable pub size : Bool → ℕ → ℕ
size marked k = cond marked 2 0 + (k + (4 + width k))
