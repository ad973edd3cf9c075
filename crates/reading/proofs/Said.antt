-- What is said of a segment by its piece, in numbers.
use mathlib.Core.List.{List}
use Prim.Native.Nat.{ℕ}
use Rattle.code.specs.Strands.{told}
use Rattle.code.specs.Verdicts.{Numbered}
use Rattle.code.specs.declared.Edit.TheVariants.{None, Sub, Del, Ins}
use Rattle.code.specs.declared.Verdict.{Verdict}
use Rattle.code.specs.declared.Verdict.TheVariants.{Read, Unknown, Lost, NoStart}

-- a verdict has a number if what is said of its piece has one
pub untold_Numbered : (v : Verdict) (piece : List ℕ) → Numbered (told v piece) → Numbered v
untold_Numbered (Read None) piece h = tt
untold_Numbered (Read (Sub i x)) piece h = h
untold_Numbered (Read (Del i x)) piece h = h
untold_Numbered (Read (Ins i x)) piece h = h
untold_Numbered Unknown piece h = h
untold_Numbered (Lost step) piece h = h
untold_Numbered NoStart piece h = h
