-- Steps 1 to 9 of reading one segment (SPECIFICATION.md, section 4). `letters` is the received letters from the segment's start P on, N among
-- them; `s` is the symbols that they are read as, N as A. Only the tests for a clean segment, in steps 8 and 10, look at the letters. A place past
-- the end matches nothing.
--   is_prefix      a block stands at the front of a list
--   Shift          the small numbers 0, −1 and +1 in the order in which they are tried
--   whole          step 1
--   separator_at   step 2
--   read_message   steps 3 to 7: the message, or the step that loses it
--   clean          a clean segment stands at the front of a list
--   end_of         step 8
--   read_segment   steps 1 to 9: message, edit and end, or the step that loses the segment
use Rattle.std.specs.Prelude.{Bool, true, false, cond, ◌&&◌, ◌||◌, List, [], ◌∷◌, ℕ, ◌+◌, ◌-◌, eqb, ltb, length, take, drop}
use Rattle.std.proofs.Math.Option.{Option, some, none}
use Rattle.code.specs.Layers.{Word, layer, pair, width, number}
use Rattle.code.specs.Repair.{repair}
use Rattle.code.specs.Segment.{check, syndrome_of, segment, last_of, size, data_at}
use Rattle.code.specs.Edits.{judged}
use Rattle.code.specs.declared.Edit.{Edit}
use Rattle.code.specs.declared.Link.{Link}
use Rattle.code.specs.declared.Link.TheVariants.{Changed, More, Less}

-- the block stands at the front of the list
unfoldable pub is_prefix : List ℕ → List ℕ → Bool
is_prefix [] s = true
is_prefix (x ∷ b) [] = false
is_prefix (x ∷ b) (y ∷ s) = eqb x y && is_prefix b s

-- two equal symbols stand at the front
unfoldable pub two_equal : List ℕ → Bool
two_equal [] = false
two_equal (x ∷ []) = false
two_equal (x ∷ y ∷ s) = eqb x y

-- three equal symbols stand at the front
unfoldable pub three_equal : List ℕ → Bool
three_equal [] = false
three_equal (x ∷ []) = false
three_equal (x ∷ y ∷ []) = false
three_equal (x ∷ y ∷ z ∷ s) = eqb x y && eqb y z

-- the numbers 0, −1 and +1
pub data Shift : Type 0 where
  level early late : Shift

-- a place moved by a shift
abbrev pub moved : Shift → ℕ → ℕ
moved level n = n
moved early n = n - 1
moved late n = n + 1

-- the first shift that passes a test, in the order 0, −1, +1
abbrev pub first_shift : (Shift → Bool) → Option Shift
first_shift p = cond (p level) (some level) (cond (p early) (some early) (cond (p late) (some late) none))

-- step 1: the marker is whole if its two symbols are equal; a first segment has none and counts as whole
abbrev pub whole : Bool → List ℕ → Bool
whole true s = two_equal s
whole false s = true

-- step 2: where three equal symbols stand, from D: at k + 1 moved by 0, −1 or +1; d is the symbols from D on
unfoldable pub separator_at : ℕ → List ℕ → Option Shift
separator_at k d = first_shift (λ j. three_equal (drop (moved j (k + 1)) d))

-- the symbols after a separator that was found moved by j
abbrev pub after_separator : Shift → ℕ → List ℕ → List ℕ
after_separator j k d = drop (moved j (k + 1) + 3) d

-- the check agrees with the message m at D
unfoldable pub check_agrees : ℕ → List ℕ → List ℕ → Bool
check_agrees k d m = is_prefix (check m ∷ []) (drop k d)

-- the t symbols after the separator are the syndrome of m
unfoldable pub syndrome_agrees : Shift → ℕ → List ℕ → List ℕ → Bool
syndrome_agrees j k d m = is_prefix (syndrome_of m) (after_separator j k d)

-- a message, or the step that loses it
pub data MessageResult : Type 0 where
  message : List ℕ → MessageResult
  lost : ℕ → MessageResult

-- the message of two repaired layers; lost in step 7 if one has no word
abbrev pub both_layers : Option Word → Option Word → MessageResult
both_layers (some h) (some l) = message (pair h l)
both_layers (some h) none = lost 7
both_layers none (some l) = lost 7
both_layers none none = lost 7

-- step 7: each layer of r is repaired with the syndrome that the first t symbols of w write; lost if they run past the end
unfoldable pub repaired : Link → ℕ → List ℕ → List ℕ → MessageResult
repaired l t r w =
    cond (ltb (length w) t) (lost 7)
    (both_layers (repair l (number (layer 1 (take t w))) (layer 1 r)) (repair l (number (layer 0 (take t w))) (layer 0 r)))

-- the edit that a moved separator names: as many symbols with one changed, one symbol less, one more
abbrev pub link_of : Shift → Link
link_of level = Changed
link_of early = Less
link_of late = More

-- steps 4 and 5: when the k symbols at D are taken as they stand
abbrev pub taken : Shift → ℕ → List ℕ → List ℕ → Bool
taken level k d m = check_agrees k d m || syndrome_agrees level k d m
taken early k d m = syndrome_agrees early k d m
taken late k d m = syndrome_agrees late k d m

-- steps 4 and 5: the k symbols at D, or each layer repaired from the k, k − 1 or k + 1 symbols at D
unfoldable pub message_at : Shift → ℕ → List ℕ → MessageResult
message_at j k d = cond (taken j k d (take k d)) (message (take k d)) (repaired (link_of j) (width k) (take (moved j k) d) (after_separator j k d))

-- step 6: with no separator the k symbols at D, if the check agrees
unfoldable pub message_without : ℕ → List ℕ → MessageResult
message_without k d = cond (check_agrees k d (take k d)) (message (take k d)) (lost 6)

-- steps 4 to 6: the marker is whole
abbrev pub read_whole : ℕ → List ℕ → Option Shift → MessageResult
read_whole k d (some j) = message_at j k d
read_whole k d none = message_without k d

-- step 3: the marker is hit; the message is the k symbols before the check, which is the symbol before the separator
abbrev pub read_hit : ℕ → List ℕ → Option Shift → MessageResult
read_hit k s (some j) = message (take k (drop (moved j 2) s))
read_hit k s none = lost 3

-- steps 3 to 7
unfoldable pub read_message : Bool → ℕ → List ℕ → MessageResult
read_message marked k s =
    cond (whole marked s) (read_whole k (drop (data_at marked) s) (separator_at k (drop (data_at marked) s)))
    (read_hit k s (separator_at k (drop (data_at marked) s)))

-- a clean segment of k message symbols stands at the front: the letters are exactly a segment, f being the last symbol before it; an N is
-- no letter of one
unfoldable pub clean : ℕ → ℕ → List ℕ → List ℕ → Bool
clean k f s letters = is_prefix (segment true f (take k (drop 2 s))) letters

-- step 8: whether the symbols after the separator settle the end
abbrev pub settled : ℕ → List ℕ → List ℕ → Option Shift → Bool
settled k d m (some j) = syndrome_agrees j k d m
settled k d m none = false

-- the place after the syndrome, from D
abbrev pub behind : ℕ → Option Shift → ℕ
behind k (some j) = moved j (k + 1) + 3 + width k
behind k none = 0

-- P + n + e, from P
abbrev pub around : ℕ → Option Shift → Option ℕ
around n (some e) = some (moved e n)
around n none = none

-- step 8: the end, from P: the strand's for the last segment; else after the syndrome if that is the message's; else where a clean next segment starts
unfoldable pub end_of : Bool → ℕ → List ℕ → List ℕ → List ℕ → List ℕ → Option ℕ
end_of marked k [] s letters m = some (length letters)
end_of marked k (next ∷ ks) s letters m =
    let d = drop (data_at marked) s in
    cond (settled k d m (separator_at k d)) (some (data_at marked + behind k (separator_at k d)))
    (around (size marked k) (first_shift (λ e. clean next (last_of m) (drop (moved e (size marked k)) s) (drop (moved e (size marked k)) letters))))

-- a segment read, with message, edit and end; or the step that loses it
pub data SegmentResult : Type 0 where
  read : List ℕ → Edit → ℕ → SegmentResult
  lost : ℕ → SegmentResult

-- step 9: the piece, as symbols, against the segment written anew
abbrev pub with_edit : List ℕ → ℕ → Option Edit → SegmentResult
with_edit m o (some e) = read m e o
with_edit m o none = SegmentResult.lost 9

abbrev pub with_end : Bool → ℕ → List ℕ → List ℕ → Option ℕ → SegmentResult
with_end marked f s m (some o) = with_edit m o (judged (segment marked f m) (take o s))
with_end marked f s m none = SegmentResult.lost 8

abbrev pub with_message : Bool → ℕ → ℕ → List ℕ → List ℕ → List ℕ → MessageResult → SegmentResult
with_message marked f k ks s letters (message m) = with_end marked f s m (end_of marked k ks s letters m)
with_message marked f k ks s letters (lost step) = SegmentResult.lost step

-- steps 1 to 9 of a segment of k message symbols; ks are the lengths of those after it
unfoldable pub read_segment : Bool → ℕ → ℕ → List ℕ → List ℕ → List ℕ → SegmentResult
read_segment marked f k ks s letters = with_message marked f k ks s letters (read_message marked k s)
