-- The search for a clean segment about a place, and where reading goes on.
--   first_clean     the first start of a list where a clean segment stands
--   letter_before   the symbol before a start
--   try_from        the try for a start that is found
--   first_at_most   the first place of the search that is at most another
--   searched        the answer of the search
--   Ahead           where reading goes on
--   start_of        the start that an answer names
--   start_from      a start counted from a place
--   next_place      the place of the start that an answer names
--   Known           what holds of the start that an answer names
use Rattle.std.specs.Prelude as Prelude
use Rattle.std.specs.Prelude.{◌≡◌, true, cond, Some, None, List, [], ◌∷◌, ℕ, ◌+◌, ◌-◌, ◌*◌, ltb, get_or, drop}
use Rattle.std.proofs.Math.Option.{Option, some, none}
use Rattle.code.specs.Symbols.{as_symbols}
use Rattle.code.specs.Bounds.{Start}
use Rattle.code.specs.Reading.{clean}
use Rattle.code.specs.Strands.{Try, try_at}
use Rattle.scan.specs.declared.Next.{Next}
use Rattle.scan.specs.declared.Next.TheVariants.{At, Clean, Nowhere}

-- the first start o of a list where a clean segment of k message symbols stands, g o being the symbol before it
unfoldable pub first_clean : ℕ → (ℕ → ℕ) → List ℕ → List ℕ → List ℕ → Option ℕ
first_clean k g s letters [] = none
first_clean k g s letters (o ∷ os) = cond (clean k (g o) (drop o s) (drop o letters)) (some o) (first_clean k g s letters os)

-- the symbol before the start o: the given one, or the received one
unfoldable pub letter_before : Prelude.Option ℕ → List ℕ → ℕ → ℕ
letter_before None s o = get_or s (o - 1) 0
letter_before (Some f) s o = f

-- the try for a start that is found, or else another answer
abbrev pub try_from : ℕ → ℕ → Option ℕ → Option Try → Option Try
try_from passed k (some o) x = some (try_at passed k o)
try_from passed k none x = x

-- the number of the first of the places n, n − 1, n + 1, n − 2, n + 2, .. that is at most `last`
abbrev pub first_at_most : ℕ → ℕ → ℕ
first_at_most n last = cond (ltb last n) (2 * (n - last) - 1) 0

-- a start counted from p where a clean segment stands, g o being the symbol before it, and how many segments are passed; or that there is none
abbrev pub clean_from : ℕ → ℕ → (ℕ → ℕ) → Option ℕ → Next
clean_from passed p g (some o) = Clean (p + o) (g o) passed
clean_from passed p g none = Nowhere

-- the first of the starts os, counted from p, where a clean segment of k message symbols stands in the letters
abbrev pub searched : Prelude.Option ℕ → ℕ → ℕ → ℕ → List ℕ → List ℕ → Next
searched given k passed p os letters =
    let s = drop p (as_symbols letters) in let g = letter_before given s in clean_from passed p g (first_clean k g s (drop p letters) os)

-- where reading goes on: how many segments are passed, the place of the start, and the symbol before it
pub record Ahead : Type 0 where
  pub passed : ℕ
  pub place : ℕ
  pub before : ℕ

-- n segments are passed, and the next one starts at p, behind the symbol f
abbrev pub ahead : ℕ → ℕ → ℕ → Ahead
ahead n p f = record { passed = n; place = p; before = f }

-- the start that an answer names
abbrev pub start_of : Next → Option Ahead
start_of (At p f) = some (ahead 0 p f)
start_of (Clean p f n) = some (ahead n p f)
start_of Nowhere = none

-- a start counted from p, g o being the symbol before it
abbrev pub start_from : ℕ → ℕ → (ℕ → ℕ) → Option ℕ → Option Ahead
start_from n p g (some o) = some (ahead n (p + o) (g o))
start_from n p g none = none

-- the place of the start that an answer names, n where it names none
abbrev pub next_place : Next → ℕ → ℕ
next_place (At p f) n = p
next_place (Clean p f passed) n = p
next_place Nowhere n = n

-- a clean segment stands at the front, of the first of the lengths ks
abbrev pub FirstClean : List ℕ → ℕ → List ℕ → List ℕ → Type 0
FirstClean [] f s letters = ⊥
FirstClean (k ∷ ks) f s letters = clean k f s letters ≡ true

-- the start lies inside the received symbols s, and where the answer says so, a clean segment stands there, of the first of the lengths ks behind
-- those that are passed
abbrev pub Known : List ℕ → List ℕ → List ℕ → Next → Type 0
Known s letters ks (At p f) = Start s p f
Known s letters ks (Clean p f n) = Start s p f × FirstClean (drop n ks) f (drop p s) (drop p letters)
Known s letters ks Nowhere = Unit {0}
