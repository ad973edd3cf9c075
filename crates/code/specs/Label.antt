-- The label of an order (SPECIFICATION.md, table 7): its fields in bits, the most significant first.
--   in_bits                   numbers as a word of so many bits each
--   from_bits                 the numbers that such a word writes
--   equal                     lengths that are all the same
--   edition1                  the fields of a label for equal lengths
--   bytes_bits, length_bits   how many bits B and a length have in an edition
--   listing                   the fields of a label that lists its lengths, of edition 2 or 3
--   too_large                 an order that the old editions do not carry
--   old_bits                  the fields of an order's label in an old edition
--   label_bytes               the label of an order
--   label_write_test          the tests of a label that is written, 1, 2, 3 and 5
--   label_call                what writing a label answers, and the lent buffer afterwards
--   field                     a number that stands in bytes
--   needed                    how many bytes a label needs
--   order_of                  the order that a label carries
--   test_in                   the tests 1, 2 and 3 of an order in a label of an edition
--   label_read_test           the tests of a label that is read, 5, 8, 1, 2 and 3
--   labelled                  an order by value
--   label_read                what a label that is read answers
--   order_in                  the order that such an answer holds
use Rattle.std.specs.Prelude.{Result, Ok, Err, Bool, true, false, cond, not, ◌&&◌, ◌||◌, List, [], ◌∷◌, ◌++◌, ℕ, zero, suc, ◌+◌, ◌-◌, ◌*◌, ◌/◌, eqb, ltb, length, get_or, take, drop, replicate}
use Rattle.code.specs.declared.Refusal.{Refusal}
use Rattle.code.specs.Limits.{most_segments, old_length, old_bytes}
use Rattle.code.specs.declared.Refusal.TheVariants.{ShortBuffer, Label}
use Rattle.code.specs.declared.Labelled.{Labelled}
use Rattle.code.specs.Layers.{Word, bits, number}
use Rattle.code.specs.Refusals.{refuse, unless_refused, outside}
use Rattle.code.specs.Order.{Order, order, bad_length, test_within, order_test}
use Rattle.code.specs.Buffers.{over_front}

-- numbers in w bits each, one behind the other
unfoldable pub in_bits : ℕ → List ℕ → Word
in_bits w [] = []
in_bits w (x ∷ xs) = bits w x ++ in_bits w xs

-- the first n numbers of w bits each
unfoldable pub from_bits : ℕ → ℕ → Word → List ℕ
from_bits w zero bs = []
from_bits w (suc n) bs = number (take w bs) ∷ from_bits w n (drop w bs)

-- how many bytes n bits need
abbrev pub bytes_for : ℕ → ℕ
bytes_for n = (n + 7) / 8

-- how many zero bits fill the last byte of n bits
abbrev pub spare : ℕ → ℕ
spare n = 8 * bytes_for n - n

-- the bytes of a word, zero bits filling the last
abbrev pub in_bytes : Word → List ℕ
in_bytes bs = from_bits 8 (bytes_for (length bs)) (bs ++ replicate 7 false)

-- every number of a list is k
unfoldable pub all_are : ℕ → List ℕ → Bool
all_are k [] = true
all_are k (x ∷ xs) = eqb x k && all_are k xs

-- 1 to 64 equal lengths
abbrev pub equal : List ℕ → Bool
equal ks = not (outside 1 most_segments (length ks)) && all_are (get_or ks 0 0) ks

-- edition 1, for equal lengths: edition 4 bits, k 7, B 8, and 13 spare zero bits
abbrev pub edition1 : ℕ → ℕ → Word
edition1 k b = bits 4 1 ++ bits 7 k ++ bits 8 b ++ bits 13 0

-- how many bits B has in an edition: 8, in edition 3 10
abbrev pub bytes_bits : ℕ → ℕ
bytes_bits e = cond (eqb e 3) 10 8

-- how many bits a length has in an edition: 7, in edition 3 9
abbrev pub length_bits : ℕ → ℕ
length_bits e = cond (eqb e 3) 9 7

-- edition 2 or 3: edition 4 bits, B 8 or 10, the number of lengths 7, and each length 7 or 9
abbrev pub listing : ℕ → Order → Word
listing e o = bits 4 e ++ bits (bytes_bits e) o.b ++ bits 7 (length o.lengths) ++ in_bits (length_bits e) o.lengths

-- the old editions, 1 and 2, do not carry an order: a length or B is above what they carry
abbrev pub too_large : Order → Bool
too_large o = bad_length old_length o.lengths || ltb old_bytes o.b

-- the fields of an order's label in an old edition: 1 for equal lengths, 2 for others
abbrev pub old_bits : Order → Word
old_bits o = cond (equal o.lengths) (edition1 (get_or o.lengths 0 0) o.b) (listing 2 o)

-- the fields of an order's label, in the oldest edition that carries it
abbrev pub label_bits : Order → Word
label_bits o = cond (too_large o) (listing 3 o) (old_bits o)

-- the label of an order
abbrev pub label_bytes : Order → List ℕ
label_bytes o = in_bytes (label_bits o)

-- the tests of a label for an order written to a buffer of n bytes
abbrev pub label_write_test : Order → ℕ → Result (Unit {0}) Refusal
label_write_test o n = order_test o false (refuse (ltb n (length (label_bytes o))) ShortBuffer (Ok tt))

-- what writing the label of an order to a buffer answers, and the buffer afterwards: unchanged where it is refused
abbrev pub label_call : Order → List ℕ → Result ℕ Refusal × List ℕ
label_call o out =
    unless_refused (label_write_test o (length out))
    (Ok (length (label_bytes o)), over_front (label_bytes o) out)
    (λ r. (Err r, out))

-- the number in w bits of bytes, behind the first i bits
abbrev pub field : ℕ → ℕ → List ℕ → ℕ
field i w bytes = number (take w (drop i (in_bits 8 bytes)))

-- the edition of a label
abbrev pub edition_of : List ℕ → ℕ
edition_of label = field 0 4 label

-- k and B of a label of edition 1
abbrev pub length_in : List ℕ → ℕ
length_in label = field 4 7 label

abbrev pub bytes_in1 : List ℕ → ℕ
bytes_in1 label = field 11 8 label

-- an edition lists its lengths
abbrev pub lists : ℕ → Bool
lists e = eqb e 2 || eqb e 3

-- B of a label that lists its lengths, the number of lengths, where they begin and where they end
abbrev pub bytes_in : List ℕ → ℕ
bytes_in label = field 4 (bytes_bits (edition_of label)) label

abbrev pub count_in : List ℕ → ℕ
count_in label = field (4 + bytes_bits (edition_of label)) 7 label

abbrev pub lengths_at : List ℕ → ℕ
lengths_at label = 11 + bytes_bits (edition_of label)

abbrev pub end_of_lengths : List ℕ → ℕ
end_of_lengths label = lengths_at label + length_bits (edition_of label) * count_in label

-- the lengths that it lists
abbrev pub lengths_in : List ℕ → List ℕ
lengths_in label = from_bits (length_bits (edition_of label)) (count_in label) (drop (lengths_at label) (in_bits 8 label))

-- how many bytes a label needs: those of its own edition, an unknown edition four
abbrev pub needed : List ℕ → ℕ
needed label = cond (lists (edition_of label)) (bytes_for (end_of_lengths label)) 4

-- k as often as it goes into 4B, and once at least
abbrev pub repeated : ℕ → ℕ → List ℕ
repeated k b = replicate (1 + (4 * b / k - 1)) k

-- the order that a label carries: one that lists its lengths, or one of edition 1
abbrev pub order_of : List ℕ → Order
order_of label =
    cond (lists (edition_of label))
    (order (lengths_in label) (bytes_in label))
    (order (repeated (length_in label) (bytes_in1 label)) (bytes_in1 label))

-- a label of edition 1 has a spare bit set
abbrev pub bad1 : List ℕ → Bool
bad1 label = not (eqb (field 19 13 label) 0)

-- a label that lists its lengths has a bit set behind the last one
abbrev pub bad_end : List ℕ → Bool
bad_end label = not (eqb (field (end_of_lengths label) (spare (end_of_lengths label)) label) 0)

-- a label is of no known edition, or not as its edition lays it out; edition 2 lists no equal lengths
abbrev pub bad_label : List ℕ → Bool
bad_label label =
    cond (lists (edition_of label))
    (bad_end label || (eqb (edition_of label) 2 && equal (lengths_in label)))
    (not (eqb (edition_of label) 1) || bad1 label)

-- the tests 1, 2 and 3 of an order in a label of edition e: the old editions keep their own limits
abbrev pub test_in : ℕ → Order → Result (Unit {0}) Refusal
test_in e o = cond (eqb e 3) (order_test o false (Ok tt)) (test_within old_length old_bytes o false (Ok tt))

-- the tests of a label that is read
abbrev pub label_read_test : List ℕ → Result (Unit {0}) Refusal
label_read_test label =
    refuse (ltb (length label) (needed label)) ShortBuffer
    (refuse (bad_label label) Label
    (test_in (edition_of label) (order_of label)))

-- an order by value: zeros stand behind its lengths
abbrev pub labelled : Order → Labelled
labelled o =
    record {
      b = o.b;
      count = length o.lengths;
      lengths = o.lengths ++ replicate (most_segments - length o.lengths) 0;
    }

-- the answer to an order that is tested: where it is refused there is none
abbrev pub answer_to : Result (Unit {0}) Refusal → Order → Result Labelled Refusal
answer_to tested o = unless_refused tested (Ok (labelled o)) Err

-- what a label that is read answers
abbrev pub label_read : List ℕ → Result Labelled Refusal
label_read label = answer_to (label_read_test label) (order_of label)

-- the order that an answer holds
abbrev pub order_in : Labelled → Order
order_in l = order (take l.count l.lengths) l.b
