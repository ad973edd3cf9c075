-- What a reading is lent, and what it leaves at the fronts of arrays and buffers.
--   lent_entries                    how much the parts of arrays hold that a reading is lent
--   front_symbols, front_Received   the symbols that letters are read as, in an array
--   known_Received                  letters without an N
--   Front                           what stands at the front of an array
--   Front-put                       the front of an array that a call was lent
--   Front-Below                     symbols at the front of an array
--   over_front_lem                  what a call leaves at the front of a buffer
--   length_ends, messages_length, numbers_length,  how much a reading gives
--   marks_length
use mathlib.Core.Path.{◌≡◌, refl, sym, ap, subst, ◌∙◌}
use mathlib.Core.Bool.{false}
use mathlib.Core.List.{List, [], ◌∷◌, ◌++◌, map}
use Prim.Native.Nat.{ℕ, suc, ◌+◌, ◌*◌, ◌≤◌}
use native.Mathlib.Omega.{arith}
use lib.ListN.{length, take, drop, replicate, length-append, length-map}
use lib.Seq.{take_at, length-take-le}
use Rattle.code.specs.Symbols.{Below, as_symbols, has_unknown}
use Rattle.code.proofs.laws.Letters.{length_as, as_Below, as_known}
use Rattle.code.specs.Limits.{most_letters}
use Rattle.code.specs.Bounds.{Received}
use Rattle.code.specs.Order.{Order, Taken}
use Rattle.code.proofs.laws.Order.{order_fine}
use Rattle.code.specs.Sheet.{marks_of}
use Rattle.code.specs.Strands.{Outcome, outcomes, messages_of, verdicts_of}
use Rattle.code.specs.Verdicts.{verdict_number}
use Rattle.code.specs.Buffers.{over_front}
use Rattle.code.proofs.laws.Strands.{length-outcomes}
use Rattle.code.proofs.laws.MessageLengths.{length_messages}
use Rattle.reading.specs.Walks.{ends_from}

-- the first n entries of the array a are y
pub record Front (n : ℕ) (y a : List ℕ) : Type 0 where
  pub inside : n ≤ length a
  pub entries : take n a ≡ y
  pub count : length (take n a) ≡ n

-- the symbols that letters are read as, at the front of an array
module _ (letters d out : List ℕ) (put : out ≡ over_front (as_symbols letters) d) where
  pub front_symbols : take (length letters) out ≡ as_symbols letters
  front_symbols = ap (take (length letters)) put ∙ take_at (as_symbols letters) (drop (length (as_symbols letters)) d) (length letters) (length_as letters)

  pub front_Received : length letters ≤ most_letters → Received (take (length letters) out)
  front_Received h = rw front_symbols (record { symbols = as_Below letters; short = rw (length_as letters) h })

-- letters without an N are symbols
pub known_Received : (letters : List ℕ) → has_unknown letters ≡ false → length letters ≤ most_letters → Received letters
known_Received letters e h = record { symbols = subst (Below 4) (as_known letters e) (as_Below letters); short = h }

-- x was put at the front of an array
pub Front-put : (x y r : List ℕ) (n : ℕ) → x ≡ y → length y ≡ n → Front n y (x ++ r)
Front-put x y r n e h =
    let t : take n (x ++ r) ≡ y = take_at x r n (ap length e ∙ h) ∙ e in
    record { inside = simp length-append (omega (arith, ap length e)); entries = t; count = ap length t ∙ h }

pub Front-Below : (n : ℕ) (y a : List ℕ) → Front n y a → Below 4 y → Below 4 (take n a)
Front-Below n y a f small = subst (Below 4) (sym f.entries) small

-- what a function of t, which is y, left at the front of a buffer that was d
pub over_front_lem : (g : List ℕ → List ℕ) (size : ℕ → ℕ) → ((m : List ℕ) → length (g m) ≡ size (length m)) → (t y d out : List ℕ) → t ≡ y → out ≡ g t ++ drop (size (length t)) d → out ≡ over_front (g y) d
over_front_lem g size law t y d out q e = e ∙ ap (λ (m : List ℕ). g m ++ drop (size (length m)) d) q ∙ ap (λ (n : ℕ). g y ++ drop n d) (sym (law y))

-- an end for each outcome
pub length_ends : (p : ℕ) (os : List Outcome) → length (ends_from p os) ≡ length os
unfolding ends_from
length_ends p [] = refl
length_ends p (o ∷ os) = ap suc (length_ends (p + length o.piece) os)

-- The reading of an order that is taken
module _ (o : Order) (t : Taken o) where
  pub lent_entries : length {A = ℕ} (take (length o.lengths) (replicate 64 0)) ≡ length o.lengths
  lent_entries = length-take-le (length o.lengths) (replicate 64 0) (order_fine o false t).segments_fit

  module _ (letters : List ℕ) where
    abbrev os : List Outcome
    os = outcomes o.lengths letters

    pub messages_length : length (messages_of os) ≡ 4 * o.b
    messages_length = length_messages o.lengths letters (order_fine o false t).lengths ∙ (order_fine o false t).whole

    outcomes_length : length os ≡ length o.lengths
    outcomes_length = length-outcomes o.lengths letters

    pub numbers_length : length (map verdict_number (verdicts_of os)) ≡ length o.lengths
    numbers_length = simp length-map outcomes_length

    pub marks_length : length (marks_of (verdicts_of os)) ≡ length o.lengths
    marks_length = simp length-map outcomes_length
