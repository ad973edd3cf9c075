-- The reader of labels before edition 3, as it was defined; fields that have not changed are those of Label.
--   old_test        the tests 1, 2 and 3 of an order by the old limits
--   old_needed      how many bytes a label needed
--   old_order_of    the order that a label carried
--   old_bad_label   a label was not as its edition lays it out
--   old_read_test   the tests of a label that was read, 5, 8, 1, 2 and 3
--   old_read        what a label that was read answered
use Rattle.std.specs.Prelude.{Result, Ok, Bool, false, cond, not, ◌||◌, List, ℕ, ◌+◌, ◌-◌, ◌*◌, eqb, ltb, length, drop}
use Rattle.code.specs.declared.Refusal.{Refusal}
use Rattle.code.specs.declared.Refusal.TheVariants.{ShortBuffer, Label}
use Rattle.code.specs.declared.Labelled.{Labelled}
use Rattle.code.specs.Refusals.{refuse}
use Rattle.code.specs.Order.{Order, order, test_within}
use Rattle.code.specs.Label.{in_bits, from_bits, bytes_for, equal, field, edition_of, length_in, bytes_in1, repeated, bad1, answer_to}

-- the tests 1, 2 and 3 of an order: k to 64 and B to 128
abbrev pub old_test : Order → Result (Unit {0}) Refusal
old_test o = test_within 64 128 o false (Ok tt)

-- B and the number of lengths of a label of edition 2, and where its lengths end
abbrev pub bytes_in2 : List ℕ → ℕ
bytes_in2 label = field 4 8 label

abbrev pub count_in2 : List ℕ → ℕ
count_in2 label = field 12 7 label

abbrev pub end_of_lengths2 : List ℕ → ℕ
end_of_lengths2 label = 19 + 7 * count_in2 label

-- the lengths that a label of edition 2 lists
abbrev pub lengths_in2 : List ℕ → List ℕ
lengths_in2 label = from_bits 7 (count_in2 label) (drop 19 (in_bits 8 label))

-- how many bytes a label needed: those of its own edition, an unknown edition four
abbrev pub old_needed : List ℕ → ℕ
old_needed label = cond (eqb (edition_of label) 2) (bytes_for (end_of_lengths2 label)) 4

-- the order that a label carried, of edition 2 or 1
abbrev pub old_order_of : List ℕ → Order
old_order_of label =
    cond (eqb (edition_of label) 2)
    (order (lengths_in2 label) (bytes_in2 label))
    (order (repeated (length_in label) (bytes_in1 label)) (bytes_in1 label))

-- a label of edition 2 has a bit set behind its last length, or lists equal lengths
abbrev pub bad2 : List ℕ → Bool
bad2 label = not (eqb (field (end_of_lengths2 label) (8 * old_needed label - end_of_lengths2 label) label) 0) || equal (lengths_in2 label)

-- a label was of no known edition, or not as its edition lays it out
abbrev pub old_bad_label : List ℕ → Bool
old_bad_label label = cond (eqb (edition_of label) 2) (bad2 label) (not (eqb (edition_of label) 1) || bad1 label)

-- the tests of a label that was read
abbrev pub old_read_test : List ℕ → Result (Unit {0}) Refusal
old_read_test label =
    refuse (ltb (length label) (old_needed label)) ShortBuffer
    (refuse (old_bad_label label) Label
    (old_test (old_order_of label)))

-- what a label that was read answered
abbrev pub old_read : List ℕ → Result Labelled Refusal
old_read label = answer_to (old_read_test label) (old_order_of label)
