-- Where a piece stands, by the ends of the pieces.
--   ends_count   there is an end for each segment
--   span_end     where it ends
--   span_start   where it starts
--   span_inside  it ends inside the letters
use mathlib.Core.Path.{◌≡◌, refl, sym, ap, ◌∙◌}
use mathlib.Core.List.{List, [], ◌∷◌}
use Prim.Native.Nat.{ℕ, zero, suc, ◌+◌, ◌≤◌, ◌<◌}
use native.Mathlib.Omega.{arith}
use lib.ListN.{length, get_or, length-append}
use Rattle.code.specs.Layout.{sum, joined}
use Rattle.code.specs.Strands.{Outcome, outcomes}
use Rattle.code.proofs.laws.Strands.{length-outcomes, joined_pieces}
use Rattle.code.specs.ReadCall.{pieces_of, piece_start, piece_length}
use Rattle.reading.specs.Walks.{ends_from, start_in}
use Rattle.reading.proofs.Fronts.{length_ends}

-- where the pieces of outcomes end, the first of which starts at p
ends_at : (p : ℕ) (os : List Outcome) (i : ℕ) → i < length os → get_or (ends_from p os) i 0 ≡ p + piece_start os i + piece_length os i
unfolding ends_from sum
ends_at p [] i h = absurd (omega arith)
ends_at p (o ∷ os) zero h = omega arith
ends_at p (o ∷ os) (suc i) h = omega (arith, ends_at (p + length o.piece) os i (omega arith))

-- none ends behind the last letter
ends_inside : (os : List Outcome) (i : ℕ) → piece_start os i + piece_length os i ≤ length (joined (pieces_of os))
unfolding sum joined
ends_inside [] zero = omega arith
ends_inside [] (suc i) = omega arith
ends_inside (o ∷ os) zero = simp length-append (omega arith)
ends_inside (o ∷ os) (suc i) = simp length-append (omega (arith, ends_inside os i))

-- a piece starts where the one before it ends
start_behind : (os : List Outcome) (i : ℕ) → piece_start os (suc i) ≡ piece_start os i + piece_length os i
unfolding sum
start_behind [] zero = refl
start_behind [] (suc i) = refl
start_behind (o ∷ os) zero = omega arith
start_behind (o ∷ os) (suc i) = omega (arith, start_behind os i)

module _ (ks letters ends : List ℕ) (e : ends ≡ ends_from 0 (outcomes ks letters)) where
  abbrev os : List Outcome
  os = outcomes ks letters

  -- there is an end for each segment
  pub ends_count : length ends ≡ length ks
  ends_count = ap length e ∙ length_ends 0 os ∙ length-outcomes ks letters

  pub span_end : (i : ℕ) → i < length ks → get_or ends i 0 ≡ piece_start os i + piece_length os i
  span_end i h =
      let n = length-outcomes ks letters in
      ap (λ (w : List ℕ). get_or w i 0) e ∙ omega (arith, ends_at 0 os i (omega arith))

  pub span_start : (i : ℕ) → i < length ks → start_in ends i ≡ piece_start os i
  unfolding sum
  span_start zero h = refl
  span_start (suc i) h = span_end i (omega arith) ∙ sym (start_behind os i)

  pub span_inside : (i : ℕ) → i < length ks → get_or ends i 0 ≤ length letters
  span_inside i h = omega (arith, span_end i h, ends_inside os i, ap length (joined_pieces ks letters (omega arith)))
