-- Runs of the search about a place n, for a clean segment of the message 0 0 behind f = 0, each with the start that it finds.
use Rattle.std.specs.Prelude as Prelude
use Rattle.std.specs.Prelude.{Bool, true, false, Some, None, ◌&&◌, List, [], ◌∷◌, ◌++◌, ℕ, eqb, replicate}
use Rattle.std.proofs.Math.Option.{Option, some, none}
use Rattle.code.specs.Ascii.{digits}
use Rattle.code.specs.Symbols.{as_symbols}
use Rattle.code.specs.Strands.{window}
use Rattle.scan.specs.Scans.{first_clean, letter_before}

-- whether f is the received symbol; f; n; how far to each side; the letters from P on; and the start, 0 for none
pub data Run : Type 0 where
  gives : Bool → ℕ → ℕ → ℕ → List ℕ → ℕ → Run

-- no start is 0
abbrev number_of : Option ℕ → ℕ
number_of (some o) = o
number_of none = 0

-- the symbol that is given before a start, or none
abbrev given : Bool → ℕ → Prelude.Option ℕ
given true f = None
given false f = Some f

unfoldable pub right : Run → Bool
right (gives received f n wide letters start) =
    let s = as_symbols letters in
    eqb (number_of (first_clean 2 (letter_before (given received f) s) s letters (window n wide))) start

-- eight symbols 0, the marker 2 2, the message, and what stands behind it
abbrev pub strand : List ℕ → List ℕ
strand tail = replicate 8 0 ++ 2 ∷ 2 ∷ 0 ∷ 0 ∷ tail

abbrev pub runs : List Run
runs =
    -- at n, and at the strand's end
    gives true 3 8 0 (strand (digits "022200")) 8
    -- at n − 1, at n + 1 and at n − 8
    ∷ gives true 3 9 1 (strand (digits "022200")) 8
    ∷ gives true 3 7 1 (strand (digits "022200")) 8
    ∷ gives true 3 16 8 (strand (digits "022200")) 8
    -- further off than is tried
    ∷ gives true 3 9 0 (strand (digits "022200")) 0
    -- with the given f, and with another
    ∷ gives false 0 8 0 (strand (digits "022200")) 8
    ∷ gives false 2 8 0 (strand (digits "022200")) 0
    -- the marker alone; the last symbol wrong; the last symbol missing
    ∷ gives true 3 8 8 (strand (digits "000000")) 0
    ∷ gives true 3 8 8 (strand (digits "022201")) 0
    ∷ gives true 3 8 8 (strand (digits "02220")) 0
    -- an N in the place of the message's last A, of the check, of the syndrome's last A; one before the segment, f being A
    ∷ gives true 3 8 8 (replicate 8 0 ++ digits "2204022200") 0
    ∷ gives true 3 8 8 (strand (digits "422200")) 0
    ∷ gives true 3 8 8 (strand (digits "022204")) 0
    ∷ gives true 3 8 8 (digits "000000042200022200") 8
    -- P itself is no start
    ∷ gives true 3 8 8 (digits "2200022200") 0
    ∷ []

abbrev pub all : List Run → Bool
all [] = true
all (r ∷ rs) = right r && all rs
