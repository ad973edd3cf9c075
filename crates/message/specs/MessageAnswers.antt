-- What the functions of steps 2 to 7 answer.
--   shift_as          a shift of the code as the steps name it
--   separator_as      the shift that was found, or none, as the answer of step 2
--   took_by           whether the symbols at D are taken as they stand
--   repaired_at       step 7 behind a moved separator
--   hit_at            step 3 at a place
--   whole_at          steps 4 to 7 at a place
--   IsMessageResult   a message in a buffer, or the step that loses it
use Rattle.std.specs.Prelude as Prelude
use Rattle.std.specs.Prelude.{◌≡◌, Bool, ◌||◌, Some, None, Result, Ok, Err, List, [], ◌∷◌, ℕ, ◌+◌, take, drop}
use Rattle.std.proofs.Math.Option.{Option, some, none}
use Rattle.code.specs.Layers.{width}
use Rattle.code.specs.Symbols.{Below}
use Rattle.code.specs.Reading.{level, early, late, is_prefix, message, lost}
use Rattle.code.specs.Reading as R
use Rattle.tail.specs.declared.Tail.{Tail}
use Rattle.tail.specs.Tails.{syndrome_in, IsTail}
use Rattle.message.specs.declared.Lost.{Lost}
use Rattle.message.specs.declared.Shift.{Shift}
use Rattle.message.specs.declared.Shift.TheVariants.{Level, Early, Late}

-- a shift as the steps name it
abbrev pub shift_as : Shift → R.Shift
shift_as Level = level
shift_as Early = early
shift_as Late = late

-- the shift that was found, or that there is none
abbrev pub separator_as : Option R.Shift → Prelude.Option Shift
separator_as (some level) = Some Level
separator_as (some early) = Some Early
separator_as (some late) = Some Late
separator_as none = None

-- the symbols at D are taken as they stand, by what follows them: check and syndrome
abbrev pub took_by : R.Shift → ℕ → List ℕ → Tail → Bool
took_by level k d t = is_prefix (t.check ∷ []) (drop k d) || is_prefix (syndrome_in t) (R.after_separator level k d)
took_by early k d t = is_prefix (syndrome_in t) (R.after_separator early k d)
took_by late k d t = is_prefix (syndrome_in t) (R.after_separator late k d)

-- step 7 with the separator moved by j; d is the symbols from D on
abbrev pub repaired_at : R.Shift → ℕ → List ℕ → R.MessageResult
repaired_at j k d = R.repaired (R.link_of j) (width k) (take (R.moved j k) d) (R.after_separator j k d)

-- step 3 for the segment at p, whose marker is hit
abbrev pub hit_at : ℕ → ℕ → List ℕ → R.MessageResult
hit_at k p s = R.read_hit k (drop p s) (R.separator_at k (drop (p + 2) s))

-- steps 4 to 7 for the message at d, whose marker is whole
abbrev pub whole_at : ℕ → ℕ → List ℕ → R.MessageResult
whole_at k d s = R.read_whole k (drop d s) (R.separator_at k (drop d s))

-- the buffer has the message, and the answer what follows it; or the answer has the step that loses it
abbrev pub IsMessageResult : R.MessageResult → List ℕ → Result Tail Lost → Type 0
IsMessageResult (message m) out (Ok t) = (out ≡ m) × IsTail m t × Below 4 m
IsMessageResult (message m) out (Err e) = ⊥
IsMessageResult (lost step) out (Ok t) = ⊥
IsMessageResult (lost step) out (Err e) = e.step ≡ step
