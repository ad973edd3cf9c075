-- What holds between the editions of a label, in one page. The statements are proved in proofs/laws/Editions.antt, each under its name in small letters.
--   ReadsAsBefore   a label of edition 1 or 2, or of no known edition, is read as before edition 3
--   TurnedDown      the reader of that time turns down every label of edition 3 that is taken, with 8
--   Oldest          a label is written in the oldest edition that carries its order
--   ThereAndBack    a label that is converted there and back has the same bytes, from an old edition and from edition 3
--   ConvertedOnce   a label of an old edition that is taken is converted, if there is room
--   TooLargeFirst   one of edition 3 that the old editions do not carry is refused with 13, before the buffer is looked at
--   Apart           two orders never share a label that is written
use Rattle.std.specs.Prelude.{Ok, Err, ◌≡◌, true, false, List, [], ℕ, ◌≤◌, length, take}
use Rattle.code.specs.declared.Refusal.TheVariants.{Label, TooLarge}
use Rattle.code.specs.Symbols.{Below}
use Rattle.code.specs.Order.{Order, order, Taken}
use Rattle.code.specs.Buffers.{over_front}
use Rattle.code.specs.Label.{label_bytes, too_large, equal, edition_of, order_of, needed, label_read_test, labelled, label_read}
use Rattle.code.specs.OldLabel.{old_read}
use Rattle.code.specs.Conversion.{converted, convert_test, convert_call}

-- a label that is not of edition 3 is answered as it was before that edition, taken or refused
abbrev pub ReadsAsBefore : Type 0
ReadsAsBefore = (label : List ℕ) → (edition_of label ≡ 3 → ⊥) → label_read label ≡ old_read label

-- the reader from before edition 3 refuses each label of that edition that is taken, with 8
abbrev pub TurnedDown : Type 0
TurnedDown = (label : List ℕ) → edition_of label ≡ 3 → label_read_test label ≡ Ok tt → old_read label ≡ Err Label

-- the label of an order has edition 3 only where the old editions do not carry the order, and of these edition 1 for equal lengths
pub record Oldest : Type 0 where
  pub first : (o : Order) → Taken o → too_large o ≡ false → equal o.lengths ≡ true → edition_of (label_bytes o) ≡ 1
  pub second : (o : Order) → Taken o → too_large o ≡ false → equal o.lengths ≡ false → edition_of (label_bytes o) ≡ 2
  pub third : (o : Order) → Taken o → too_large o ≡ true → edition_of (label_bytes o) ≡ 3

-- a label that is converted to a buffer comes back from there with its own bytes, to any buffer that has room
abbrev pub ThereAndBack : Type 0
ThereAndBack =
    (label middle out : List ℕ) → Below 256 label → convert_test label (length middle) ≡ Ok tt → needed label ≤ length out →
    convert_call (convert_call label middle).1 out ≡ (Ok (needed label), over_front (take (needed label) label) out)

-- from an old edition nothing but a short buffer stands in its way
abbrev pub ConvertedOnce : Type 0
ConvertedOnce = (label : List ℕ) (n : ℕ) → (edition_of label ≡ 3 → ⊥) → label_read_test label ≡ Ok tt → length (converted label) ≤ n → convert_test label n ≡ Ok tt

-- a label of edition 3 that the old editions do not carry is refused with 13, whatever buffer is lent
abbrev pub TooLargeFirst : Type 0
TooLargeFirst = (label : List ℕ) (n : ℕ) → edition_of label ≡ 3 → label_read_test label ≡ Ok tt → too_large (order_of label) ≡ true → convert_test label n ≡ Err TooLarge

-- two orders that have one label are one
abbrev pub Apart : Type 0
Apart = (o p : Order) → Taken o → Taken p → label_bytes o ≡ label_bytes p → o ≡ p
