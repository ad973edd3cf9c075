-- The numbers of a verdict.
--   kind_of       its kind
--   at_of         the place of its edit
--   letter_byte   the letter of its edit
--   step_of       the step that lost its segment
use Rattle.std.specs.Prelude.{ℕ}
use Rattle.code.specs.Symbols.{letter_of}
use Rattle.code.specs.declared.Edit.TheVariants.{None, Sub, Del, Ins}
use Rattle.code.specs.declared.Verdict.{Verdict}
use Rattle.code.specs.declared.Verdict.TheVariants.{Read, Unknown, Lost, NoStart}

-- its kind: 0 no edit, 1 unknown, 2 sub, 3 del, 4 ins, 5 lost in a step, 6 lost for want of a start
abbrev pub kind_of : Verdict → ℕ
kind_of (Read None) = 0
kind_of (Read (Sub i x)) = 2
kind_of (Read (Del i x)) = 3
kind_of (Read (Ins i x)) = 4
kind_of Unknown = 1
kind_of (Lost step) = 5
kind_of NoStart = 6

-- the place of its edit, or 0
abbrev pub at_of : Verdict → ℕ
at_of (Read None) = 0
at_of (Read (Sub i x)) = i
at_of (Read (Del i x)) = i
at_of (Read (Ins i x)) = i
at_of Unknown = 0
at_of (Lost step) = 0
at_of NoStart = 0

-- the letter of its edit in ASCII, or 0
abbrev pub letter_byte : Verdict → ℕ
letter_byte (Read None) = 0
letter_byte (Read (Sub i x)) = letter_of x
letter_byte (Read (Del i x)) = letter_of x
letter_byte (Read (Ins i x)) = letter_of x
letter_byte Unknown = 0
letter_byte (Lost step) = 0
letter_byte NoStart = 0

-- the step that lost its segment, or 0
abbrev pub step_of : Verdict → ℕ
step_of (Read None) = 0
step_of (Read (Sub i x)) = 0
step_of (Read (Del i x)) = 0
step_of (Read (Ins i x)) = 0
step_of Unknown = 0
step_of (Lost step) = step
step_of NoStart = 0
