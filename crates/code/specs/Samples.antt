-- Sample strands of SPECIFICATION.md that are proved of the definitions, in one table. One proof, in proofs/laws/Samples.antt, covers every row.
use Rattle.std.specs.Prelude.{Bool, false, ◌&&◌, ℕ, eqb, replicate}
use mathlib.Core.List.{List, [], ◌∷◌}
use Rattle.code.specs.Ascii.{ascii, digits}
use Rattle.code.specs.Symbols.{bytes, legible}
use Rattle.code.specs.Segment.{sep}
use Rattle.code.specs.Layout.{written}
use Rattle.code.specs.Order.{order}
use Rattle.code.specs.Writing.{strand_of}
use Rattle.code.specs.Label.{label_bytes}
use Rattle.code.specs.Edits.{same}
use Rattle.code.specs.Sheet.{marks_of, sheet_of}
use Rattle.code.specs.Strands.{outcomes, messages_of, verdicts_of}

-- a row: what is given, and what it must come to
pub data Row : Type 0 where
  -- the segments of messages, one after the other, as symbols
  segments : List (List ℕ) → List ℕ → Row
  -- Sep(a, b, c) is s
  separates : ℕ → ℕ → ℕ → ℕ → Row
  -- the letters of the strand of some bytes on a layout
  writes : List ℕ → List ℕ → List ℕ → Row
  -- the bytes and the sheet of a strand's letters on a layout
  reads : List ℕ → List ℕ → List ℕ → List ℕ → Row
  -- the label of a layout and B
  labels : List ℕ → ℕ → List ℕ → Row

-- the row is right
unfoldable pub holds : Row → Bool
holds (segments ms s) = same (written false 0 ms) s
holds (separates a b c s) = eqb (sep a b c) s
holds (writes ks bs s) = same (strand_of ks bs) s
holds (reads ks s bs sheet) = same (bytes (messages_of (outcomes ks (legible s)))) bs && same (sheet_of (marks_of (verdicts_of (outcomes ks (legible s))))) sheet
holds (labels ks b bs) = same (label_bytes (order ks b)) bs

abbrev pub rows : List Row
rows =
    segments (digits "013" ∷ digits "210" ∷ []) (digits "0130333123002103222012")
    ∷ separates 0 1 2 3
    ∷ separates 3 2 1 0
    ∷ separates 3 0 1 2
    ∷ writes (4 ∷ []) (0x1B ∷ []) (ascii "ATCGCAAAGGC")
    ∷ writes (2 ∷ 2 ∷ []) (0x1B ∷ []) (ascii "ATTGGGTATTCGTAAAGC")
    ∷ reads (2 ∷ 2 ∷ []) (ascii "ATGGGTATTCGTAAAGC") (0x1B ∷ []) (0x40 ∷ [])
    ∷ reads (2 ∷ 2 ∷ []) (ascii "ATTGGGTCTTCGTAAAGC") (0x1B ∷ []) (0x40 ∷ [])
    ∷ reads (2 ∷ 2 ∷ []) (ascii "ATTGGGTCATCGTAAAGC") (0x00 ∷ []) (0xA0 ∷ [])
    ∷ reads (2 ∷ 2 ∷ []) [] (0x00 ∷ []) (0xA0 ∷ [])
    ∷ labels (replicate 8 16) 32 (0x12 ∷ 0x04 ∷ 0x00 ∷ 0x00 ∷ [])
    ∷ []
