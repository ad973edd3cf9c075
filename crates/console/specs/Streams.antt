-- What reads and writes leave, of known bytes that a reader has and a writer holds, old before and new after.
--   is_given   an argument was asked for, and there is one
--   SaidIf     some words went to a writer, or nothing did
--   Came       the first of some bytes came from a reader
--   Went       the first of some bytes went to a writer
--   Left       what a program's failure leaves of its output
use Rattle.std.specs.Prelude.{Bool, true, false, List, ℕ, take, IfSome, Result, Ok, Err}
use Rattle.std.specs.Io.KnownBytes.{Appends, Consumes, Keeps}
use Rattle.std.specs.declared.option.Option.{Option}
use Rattle.std.specs.declared.env.FillError.{FillError}
use Rattle.std.specs.declared.env.FillError.TheVariants.{NotPresent, TooLong}
use Rattle.console.specs.declared.Failure.{Failure}
use Rattle.console.specs.declared.Failure.TheVariants.{Reading, Writing}

-- an argument was asked for, and there is one, whether or not it fits the room
abbrev pub is_given : Result ℕ FillError → Bool
is_given (Ok n) = true
is_given (Err TooLong) = true
is_given (Err NotPresent) = false

-- the words went to a writer, or nothing did
abbrev pub SaidIf : Bool → Option (List ℕ) → Option (List ℕ) → List ℕ → Type 0
SaidIf true old new words = Appends old new words
SaidIf false old new words = Keeps old new

-- the first bytes of some, however many of them, came from a reader
abbrev pub Came : Option (List ℕ) → Option (List ℕ) → List ℕ → Type 0
Came old new bytes = (n : ℕ) × Consumes old new (take n bytes)

-- the first bytes of some, however many of them, went to a writer
abbrev pub Went : Option (List ℕ) → Option (List ℕ) → List ℕ → Type 0
Went old new bytes = (n : ℕ) × Appends old new (take n bytes)

-- a failed read leaves the output as it was; a failed write leaves the first bytes of what the input is answered by, where the input is known
abbrev pub Left : Failure → Option (List ℕ) → Option (List ℕ) → Option (List ℕ) → (List ℕ → List ℕ) → Type 0
Left (Reading error) input old new answer = Keeps old new
Left (Writing error) input old new answer = IfSome input (λ bytes. Went old new (answer bytes))
