-- The conversion of a label to the other side: from an old edition to edition 3, and back.
--   other_bits     the fields of the label on the other side
--   converted      that label
--   convert_test   the tests of a conversion, 5, 8, 1, 2, 3, 13 and 5
--   convert_call   what a conversion answers, and the lent buffer afterwards
use Rattle.std.specs.Prelude.{Result, Ok, Err, cond, ◌&&◌, List, ℕ, eqb, ltb, length}
use Rattle.code.specs.declared.Refusal.{Refusal}
use Rattle.code.specs.declared.Refusal.TheVariants.{ShortBuffer, TooLarge}
use Rattle.code.specs.Layers.{Word}
use Rattle.code.specs.Refusals.{refuse, unless_refused}
use Rattle.code.specs.Buffers.{over_front}
use Rattle.code.specs.Label.{in_bytes, listing, too_large, old_bits, edition_of, order_of, label_read_test}

-- the fields of the label on the other side: of edition 3 in an old edition, of an old edition in edition 3
abbrev pub other_bits : List ℕ → Word
other_bits label = cond (eqb (edition_of label) 3) (old_bits (order_of label)) (listing 3 (order_of label))

-- the label on the other side
abbrev pub converted : List ℕ → List ℕ
converted label = in_bytes (other_bits label)

-- the tests of a conversion to a buffer of n bytes: those of the label, then whether the old editions carry its order, then the buffer
abbrev pub convert_test : List ℕ → ℕ → Result (Unit {0}) Refusal
convert_test label n =
    unless_refused (label_read_test label)
    (refuse (eqb (edition_of label) 3 && too_large (order_of label)) TooLarge
    (refuse (ltb n (length (converted label))) ShortBuffer (Ok tt)))
    Err

-- what converting a label to a buffer answers, and the buffer afterwards: unchanged where it is refused
abbrev pub convert_call : List ℕ → List ℕ → Result ℕ Refusal × List ℕ
convert_call label out =
    unless_refused (convert_test label (length out))
    (Ok (length (converted label)), over_front (converted label) out)
    (λ r. (Err r, out))
