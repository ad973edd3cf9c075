-- What the reading call and the piece calls test, answer and write (SPECIFICATION.md, tables 5 and 6).
--   foreign_test    test 6 before others
--   overlong        test 4
--   received_test   the tests 1 to 4 of received letters
--   short_buffers   test 5 of a reading
--   read_test       the tests 1 to 6 of a reading
--   piece_test      the tests of a piece call
--   outcomes_of     the outcomes of letters, for an order
--   marks_for       the marks of letters, for an order
--   read_as         a reading's answer and its buffers, from the outcomes
--   read_call       the reader's answer, and both lent buffers afterwards
--   piece_start     where a piece starts
--   piece_of        the letters of a piece
--   piece_call      the part that a piece call hands back, and the refusal's number and place
--   located_as      where a piece stands
--   locate_call     where the piece of a segment stands, or the refusal
use Rattle.std.specs.Prelude.{Result, Ok, Err, Bool, false, ◌||◌, List, [], map, ℕ, ◌+◌, ◌-◌, ltb, length, get_or, take, drop}
use Rattle.code.specs.declared.Refusal.{Refusal}
use Rattle.code.specs.declared.Decoded.{Decoded}
use Rattle.code.specs.declared.Decoded.TheVariants as D
use Rattle.code.specs.declared.Refusal.TheVariants.{Overlong, ShortBuffer, ForeignLetter, NoSuchSegment}
use Rattle.code.specs.declared.Counts.{Counts}
use Rattle.code.specs.declared.Span.{Span}
use Rattle.code.specs.Symbols.{legible, decoded, bytes}
use Rattle.code.specs.Layout.{sum}
use Rattle.code.specs.Limits.{most_letters}
use Rattle.code.specs.Refusals.{number_of, place_of, refuse, unless_refused, outside}
use Rattle.code.specs.Order.{Order, order_test}
use Rattle.code.specs.Buffers.{over_front}
use Rattle.code.specs.Sheet.{marks_of, sheet_of, counts_of, sheet_bytes}
use Rattle.code.specs.Strands.{Outcome, outcomes, messages_of, verdicts_of}

-- a foreign letter is refused with its place; else what follows
abbrev pub foreign_test : Decoded → Result (Unit {0}) Refusal → Result (Unit {0}) Refusal
foreign_test (D.Whole unknown) next = next
foreign_test (D.Foreign i) next = Err (ForeignLetter i)

-- a received strand of n letters has too many
abbrev pub overlong : ℕ → Bool
overlong n = ltb most_letters n

-- tests 1 to 4 of n letters received for an order, and then what follows
abbrev pub received_test : Order → ℕ → Result (Unit {0}) Refusal → Result (Unit {0}) Refusal
received_test o n next = order_test o false (refuse (overlong n) Overlong next)

-- a message buffer of n bytes or a sheet buffer of m bytes is too short for an order
abbrev pub short_buffers : Order → ℕ → ℕ → Bool
short_buffers o n m = ltb n o.b || ltb m (sheet_bytes (length o.lengths))

-- the tests of a reading: letters cs for an order, a message buffer of n bytes and a sheet buffer of m bytes
abbrev pub read_test : Order → List ℕ → ℕ → ℕ → Result (Unit {0}) Refusal
read_test o cs n m =
    received_test o (length cs)
    (refuse (short_buffers o n m) ShortBuffer
    (foreign_test (decoded cs) (Ok tt)))

-- the tests of a piece call: letters cs for an order, and the segment's number i, from 1
abbrev pub piece_test : Order → List ℕ → ℕ → Result (Unit {0}) Refusal
piece_test o cs i =
    received_test o (length cs)
    (foreign_test (decoded cs)
    (refuse (outside 1 (length o.lengths) i) NoSuchSegment (Ok tt)))

-- the outcomes of the segments of letters, for an order
abbrev pub outcomes_of : Order → List ℕ → List Outcome
outcomes_of o cs = outcomes o.lengths (legible cs)

-- the marks of the segments of letters, for an order
abbrev pub marks_for : Order → List ℕ → List ℕ
marks_for o cs = marks_of (verdicts_of (outcomes_of o cs))

-- what a reading that is taken answers, and leaves in the buffers lent for the message and the sheet
abbrev pub read_as : List Outcome → List ℕ → List ℕ → Result Counts Refusal × (List ℕ × List ℕ)
read_as os message sheet =
    let marks = marks_of (verdicts_of os) in
    (Ok (counts_of marks), (over_front (bytes (messages_of os)) message, over_front (sheet_of marks) sheet))

-- what reading letters cs for an order answers, and the buffers for message and sheet afterwards: unchanged where it is refused
abbrev pub read_call : Order → List ℕ → List ℕ → List ℕ → Result Counts Refusal × (List ℕ × List ℕ)
read_call o cs message sheet =
    unless_refused (read_test o cs (length message) (length sheet))
    (read_as (outcomes_of o cs) message sheet)
    (λ r. (Err r, (message, sheet)))

-- the pieces of outcomes
abbrev pub pieces_of : List Outcome → List (List ℕ)
pieces_of os = map (λ (o : Outcome). o.piece) os

-- where the piece behind the first i pieces starts
abbrev pub piece_start : List Outcome → ℕ → ℕ
piece_start os i = sum (take i (map length (pieces_of os)))

-- how many letters the piece behind the first i pieces has
abbrev pub piece_length : List Outcome → ℕ → ℕ
piece_length os i = get_or (map length (pieces_of os)) i 0

-- the letters of the i-th piece, from 1: as many as the piece has, from its start on
abbrev pub piece_of : List Outcome → List ℕ → ℕ → List ℕ
piece_of os cs i = take (piece_length os (i - 1)) (drop (piece_start os (i - 1)) cs)

-- the piece of segment i of letters cs for an order, with 0 and 0; or an empty part, with the refusal's number and place
abbrev pub piece_call : Order → List ℕ → ℕ → List ℕ × (ℕ × ℕ)
piece_call o cs i =
    unless_refused (piece_test o cs i)
    (piece_of (outcomes_of o cs) cs i, (0, 0))
    (λ r. ([], (number_of r, place_of r)))

-- where the piece behind the first i pieces stands
abbrev pub located_as : List Outcome → ℕ → Result Span Refusal
located_as os i = Ok (record { start = piece_start os i; end = piece_start os i + piece_length os i })

-- where the piece of segment i stands, or the refusal
abbrev pub locate_call : Order → List ℕ → ℕ → Result Span Refusal
locate_call o cs i = unless_refused (piece_test o cs i) (located_as (outcomes_of o cs) (i - 1)) Err
