-- Verdicts as numbers, since a slice holds no enums.
--   verdict_number   the number of a verdict
--   verdict_of       the verdict of a number
--   Numbered         a verdict that its number gives back
use Rattle.std.specs.Prelude.{ℕ, zero, suc, ◌+◌, ◌*◌, ◌/◌, ◌%◌, ◌<◌}
use Rattle.code.specs.Bounds.{reach}
use Rattle.code.specs.declared.Edit.TheVariants.{None, Sub, Del, Ins}
use Rattle.code.specs.declared.Verdict.{Verdict}
use Rattle.code.specs.declared.Verdict.TheVariants.{Read, Unknown, Lost, NoStart}

-- a kind of verdict in three bits, a symbol or a step in four, and a place
abbrev pub numbered : ℕ → ℕ → ℕ → ℕ
numbered kind x i = kind + 8 * (x + 16 * i)

-- the kinds are 0 no edit, 1 unknown, 2 sub, 3 del, 4 ins, 5 lost in a step, 6 lost for want of a start
abbrev pub verdict_number : Verdict → ℕ
verdict_number (Read None) = numbered 0 0 0
verdict_number (Read (Sub i x)) = numbered 2 x i
verdict_number (Read (Del i x)) = numbered 3 x i
verdict_number (Read (Ins i x)) = numbered 4 x i
verdict_number Unknown = numbered 1 0 0
verdict_number (Lost step) = numbered 5 step 0
verdict_number NoStart = numbered 6 0 0

-- the verdict of a kind, a symbol or a step, and a place
abbrev pub verdict_of_kind : ℕ → ℕ → ℕ → Verdict
verdict_of_kind zero x i = Read None
verdict_of_kind (suc zero) x i = Unknown
verdict_of_kind (suc (suc zero)) x i = Read (Sub i x)
verdict_of_kind (suc (suc (suc zero))) x i = Read (Del i x)
verdict_of_kind (suc (suc (suc (suc zero)))) x i = Read (Ins i x)
verdict_of_kind (suc (suc (suc (suc (suc zero))))) x i = Lost x
verdict_of_kind (suc (suc (suc (suc (suc (suc kind)))))) x i = NoStart

-- the verdict of a number
abbrev pub verdict_of : ℕ → Verdict
verdict_of n = verdict_of_kind (n % 8) (n / 8 % 16) (n / 128)

-- the symbol or the step fits four bits, and the place is within reach
abbrev pub Numbered : Verdict → Type 0
Numbered (Read None) = Unit {0}
Numbered (Read (Sub i x)) = (i < reach) × (x < 16)
Numbered (Read (Del i x)) = (i < reach) × (x < 16)
Numbered (Read (Ins i x)) = (i < reach) × (x < 16)
Numbered Unknown = Unit {0}
Numbered (Lost step) = step < 16
Numbered NoStart = Unit {0}
