-- What is turned down (SPECIFICATION.md, table 4).
--   number_of        the paper's number of a refusal
--   place_of         the place that a refusal names
--   refuse           a test before others
--   unless_refused   what is answered after the tests
--   outside          a number is outside its limits
use Rattle.std.specs.Prelude.{Result, Ok, Err, Bool, true, false, ◌||◌, ℕ, ltb}
use Rattle.code.specs.declared.Refusal.{Refusal}
use Rattle.code.specs.declared.Refusal.TheVariants.{SegmentLength, MessageSize, Cut, Overlong, ShortBuffer, ForeignLetter, TallyFull, Label, NoSuchSegment, TooLarge}

-- the number of a refusal
abbrev pub number_of : Refusal → ℕ
number_of SegmentLength = 1
number_of MessageSize = 2
number_of Cut = 3
number_of Overlong = 4
number_of ShortBuffer = 5
number_of (ForeignLetter i) = 6
number_of TallyFull = 7
number_of Label = 8
number_of NoSuchSegment = 9
number_of TooLarge = 13

-- the place that a refusal names: the first foreign letter's, from 0
abbrev pub place_of : Refusal → ℕ
place_of SegmentLength = 0
place_of MessageSize = 0
place_of Cut = 0
place_of Overlong = 0
place_of ShortBuffer = 0
place_of (ForeignLetter i) = i
place_of TallyFull = 0
place_of Label = 0
place_of NoSuchSegment = 0
place_of TooLarge = 0

-- a test before others: where it is met, its refusal
abbrev pub refuse : Bool → Refusal → Result (Unit {0}) Refusal → Result (Unit {0}) Refusal
refuse true r c = Err r
refuse false r c = c

-- what is answered after the tests: as where nothing is against it, or as the refusal says
abbrev pub unless_refused : {A : Type 0} → Result (Unit {0}) Refusal → A → (Refusal → A) → A
unless_refused (Ok _) taken refused = taken
unless_refused (Err r) taken refused = refused r

-- x is outside low .. high
abbrev pub outside : ℕ → ℕ → ℕ → Bool
outside low high x = ltb x low || ltb high x
