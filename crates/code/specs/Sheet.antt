-- The segment sheet (SPECIFICATION.md, section 5): marks of verdicts, two bits each, and how many there are of each.
--   mark_of      the mark of a verdict
--   marks_of     the marks of verdicts
--   sheet_bytes  the bytes of a sheet
--   sheet_of     the sheet of marks
--   count_of     how many marks are n
--   counts_of    how many are clean, corrected and lost
use Rattle.std.specs.Prelude.{cond, List, [], ◌∷◌, ◌++◌, map, ℕ, ◌+◌, ◌-◌, ◌/◌, ◌%◌, eqb, length, replicate}
use Rattle.code.specs.Symbols.{bytes}
use Rattle.code.specs.declared.Edit.TheVariants.{None, Sub, Del, Ins}
use Rattle.code.specs.declared.Verdict.{Verdict}
use Rattle.code.specs.declared.Verdict.TheVariants.{Read, Unknown, Lost, NoStart}
use Rattle.code.specs.declared.Counts.{Counts}

-- the mark of a verdict: 0 clean, 1 corrected, 2 lost
abbrev pub mark_of : Verdict → ℕ
mark_of (Read None) = 0
mark_of (Read (Sub i x)) = 1
mark_of (Read (Del i x)) = 1
mark_of (Read (Ins i x)) = 1
mark_of Unknown = 1
mark_of (Lost step) = 2
mark_of NoStart = 2

-- the marks of verdicts
abbrev pub marks_of : List Verdict → List ℕ
marks_of vs = map mark_of vs

-- the bytes of a sheet of l marks
abbrev pub sheet_bytes : ℕ → ℕ
sheet_bytes l = (l + 3) / 4

-- two bits a mark, most significant first; spare bits are zero
abbrev pub sheet_of : List ℕ → List ℕ
sheet_of marks = bytes (marks ++ replicate ((4 - length marks % 4) % 4) 0)

-- how many marks are n
unfoldable pub count_of : ℕ → List ℕ → ℕ
count_of n [] = 0
count_of n (x ∷ marks) = cond (eqb x n) 1 0 + count_of n marks

-- how many marks are clean, corrected and lost
abbrev pub counts_of : List ℕ → Counts
counts_of marks = record { clean = count_of 0 marks; corrected = count_of 1 marks; lost = count_of 2 marks }
