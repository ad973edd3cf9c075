-- An order: what a strand is written for and read with; and its tests.
--   Order         the lengths of a layout, and B
--   order         the order of a layout and B
--   bad_length    some length is outside its limits
--   bad_cut       the lengths do not cut 4B symbols
--   test_within   the tests 1, 2 and 3 of an order, by the largest length and the most bytes
--   order_test    the same by the limits of the calls
--   Taken         an order that is taken
use Rattle.std.specs.Prelude.{Result, Ok, ◌≡◌, Bool, false, not, ◌||◌, List, [], ◌∷◌, ℕ, ◌*◌, eqb, length}
use Rattle.code.specs.declared.Refusal.{Refusal}
use Rattle.code.specs.Limits.{least_length, most_length, most_bytes, most_segments}
use Rattle.code.specs.declared.Refusal.TheVariants.{SegmentLength, MessageSize, Cut}
use Rattle.code.specs.Refusals.{refuse, outside}
use Rattle.code.specs.Layout.{sum}

-- an order: the lengths of a strand's messages, and the number B of its bytes
pub record Order : Type 0 where
  pub lengths : List ℕ
  pub b : ℕ

-- the order of a layout and B
abbrev pub order : List ℕ → ℕ → Order
order lengths b = record { lengths = lengths; b = b }

-- some length is below the least or above `most`
unfoldable pub bad_length : ℕ → List ℕ → Bool
bad_length most [] = false
bad_length most (k ∷ ks) = outside least_length most k || bad_length most ks

-- there are no lengths or too many, or they do not sum to 4B
abbrev pub bad_cut : Order → Bool
bad_cut o = outside 1 most_segments (length o.lengths) || not (eqb (sum o.lengths) (4 * o.b))

-- tests 1, 2 and 3, where a length is at most `long` and B at most `many`, and `other` says that the message's length is not B; then what follows
abbrev pub test_within : ℕ → ℕ → Order → Bool → Result (Unit {0}) Refusal → Result (Unit {0}) Refusal
test_within long many o other next =
    refuse (bad_length long o.lengths) SegmentLength
    (refuse (outside 1 many o.b || other) MessageSize
    (refuse (bad_cut o) Cut next))

-- the tests 1, 2 and 3 of the calls, and then what follows
abbrev pub order_test : Order → Bool → Result (Unit {0}) Refusal → Result (Unit {0}) Refusal
order_test o other next = test_within most_length most_bytes o other next

-- an order that is taken: nothing is against it
abbrev pub Taken : Order → Type 0
Taken o = order_test o false (Ok tt) ≡ Ok tt
