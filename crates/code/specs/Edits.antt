-- Edits of one segment.
--   applied    a list under an edit
--   place_of   the place of an edit
--   Fits       the edit's place is one of the list's, and its letter is one
--   same       two lists are equal, as a test
--   judged     the edit that turns a written segment into a piece, the smallest place first
use Rattle.std.specs.Prelude.{Bool, true, false, cond, ◌&&◌, List, [], ◌∷◌, ℕ, zero, suc, ◌<◌, ◌≤◌, eqb, length, get_or, set}
use Rattle.std.proofs.Math.Option.{Option, some, none}
use Rattle.code.specs.Repair.{put_in, leave_out}
use Rattle.code.specs.declared.Edit.{Edit}
use Rattle.code.specs.declared.Edit.TheVariants.{None, Sub, Del, Ins}

-- w with one letter replaced by x, one left out, or x put in before place i; places count from 0
abbrev pub applied : Edit → List ℕ → List ℕ
applied None w = w
applied (Sub i x) w = set w i x
applied (Del i x) w = leave_out i w
applied (Ins i x) w = put_in i x w

-- the place of an edit; no edit counts as the first place
abbrev pub place_of : Edit → ℕ
place_of None = 0
place_of (Sub i x) = i
place_of (Del i x) = i
place_of (Ins i x) = i

-- the letter left out or replaced is one of n; the letter put in stands before one of them or after the last; there are q letters
abbrev pub Fits : ℕ → Edit → ℕ → Type 0
Fits q None n = Unit {0}
Fits q (Sub i x) n = (i < n) × (x < q)
Fits q (Del i x) n = i < n
Fits q (Ins i x) n = (i ≤ n) × (x < q)

-- two lists are equal
unfoldable pub same : List ℕ → List ℕ → Bool
same [] [] = true
same [] (y ∷ v) = false
same (x ∷ w) [] = false
same (x ∷ w) (y ∷ v) = eqb x y && same w v

-- the edit e, if it turns w into v
abbrev pub if_turns : Edit → List ℕ → List ℕ → Option Edit → Option Edit
if_turns e w v other = cond (same (applied e w) v) (some e) other

-- the first edit that turns w into v, among those at the n places from i on
unfoldable pub first_edit : List ℕ → List ℕ → ℕ → ℕ → Option Edit
first_edit w v i zero = none
first_edit w v i (suc n) =
    if_turns (Sub i (get_or v i 0)) w v
    (if_turns (Del i (get_or w i 0)) w v
    (if_turns (Ins i (get_or v i 0)) w v
    (first_edit w v (suc i) n)))

-- no edit, or the one with the smallest place, that turns the written segment w into the piece v; none where one edit is not enough
unfoldable pub judged : List ℕ → List ℕ → Option Edit
judged w v = if_turns None w v (first_edit w v 0 (suc (length w)))
