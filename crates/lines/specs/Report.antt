-- The lines of a reading: what happened to each segment (SPECIFICATION.md, section 7).
--   in_letters     a verdict that names letters
--   reported       what is reported of an outcome
--   space          the space in ASCII
--   edited         the words of an edit
--   words          the words of a verdict
--   segment_line   the line of a segment
--   lines_from     the lines of verdicts
--   lines_of       the lines of a reading
--   most_line      the most bytes of a line
--   most_report    the most bytes of a report
use Rattle.std.specs.Prelude.{List, [], ◌∷◌, ◌++◌, map, ℕ, suc, ◌*◌, get_or}
use Rattle.code.specs.Ascii.{ascii}
use Rattle.code.specs.Symbols.{letter_of}
use Rattle.code.specs.Limits.{most_segments}
use Rattle.code.specs.Strands.{Outcome}
use Rattle.code.specs.declared.Edit.TheVariants.{None, Sub, Del, Ins}
use Rattle.code.specs.declared.Verdict.{Verdict}
use Rattle.code.specs.declared.Verdict.TheVariants.{Read, Unknown, Lost, NoStart}
use Rattle.text.specs.Lines.{feed}
use Rattle.text.specs.Decimal.{decimal, named}

-- a verdict that names letters: for a substitution and an insertion the one that was received at the edit's place in the piece, N as 4; for a
-- deletion the written one
abbrev pub in_letters : Verdict → List ℕ → Verdict
in_letters (Read None) piece = Read None
in_letters (Read (Sub i x)) piece = Read (Sub i (get_or piece i 0))
in_letters (Read (Del i x)) piece = Read (Del i x)
in_letters (Read (Ins i x)) piece = Read (Ins i (get_or piece i 0))
in_letters Unknown piece = Unknown
in_letters (Lost step) piece = Lost step
in_letters NoStart piece = NoStart

-- what is reported of a segment
abbrev pub reported : Outcome → Verdict
reported o = in_letters o.verdict o.piece

-- the space in ASCII
abbrev pub space : ℕ
space = 32

-- an edit: its word, its place, a space and its letter
unfoldable pub edited : List ℕ → ℕ → ℕ → List ℕ
edited word i x = word ++ decimal i ++ space ∷ letter_of x ∷ []

-- the words of a verdict
unfoldable pub words : Verdict → List ℕ
words (Read None) = ascii "clean"
words (Read (Sub i x)) = edited (ascii "sub ") i x
words (Read (Del i x)) = edited (ascii "del ") i x
words (Read (Ins i x)) = edited (ascii "ins ") i x
words Unknown = ascii "unknown"
words (Lost step) = named "lost " step
words NoStart = ascii "lost start"

-- the line of the n-th segment: its number, a space, the words of its verdict and a line feed
unfoldable pub segment_line : ℕ → Verdict → List ℕ
segment_line n v = decimal n ++ space ∷ words v ++ feed ∷ []

-- the lines of verdicts, the first being that of the n-th segment
unfoldable pub lines_from : ℕ → List Verdict → List ℕ
lines_from n [] = []
lines_from n (v ∷ vs) = segment_line n v ++ lines_from (suc n) vs

-- the lines of a reading: segments are counted from 1
abbrev pub lines_of : List Outcome → List ℕ
lines_of os = lines_from 1 (map reported os)

-- the most bytes of a line: a number of two digits, a space, the word of an edit, a place of five, a space, a letter and a line feed
abbrev pub most_line : ℕ
most_line = 15

-- the most bytes of a report
abbrev pub most_report : ℕ
most_report = most_segments * most_line
