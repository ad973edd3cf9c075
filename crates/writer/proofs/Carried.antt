-- The strand that carries bytes: the front of an array of symbols, and of the buffer that it is written to.
--   unpacked                  the front of an array that bytes were unpacked to
--   Front                     the strand that stands in the buffer, as symbols and as letters
--   front_is                  it stands there behind the writing of a layout
--   extent_turn, extent_end   one step of the loop over lengths
use mathlib.Core.Path.{◌≡◌, sym, ap, ◌∙◌}
use mathlib.Core.Bool.{true, false}
use mathlib.Core.List.{List, [], ◌∷◌, ◌++◌}
use Prim.Native.Nat.{ℕ, ◌+◌, ◌*◌, ◌<◌, ◌≤◌}
use native.Mathlib.Numerals.{add-one}
use native.Mathlib.Omega.{arith}
use lib.ListN.{length, get_or, take, drop, length-map, length-append, drop_of_length-le}
use lib.Seq.{take_at, drop_at, drop-cons}
use Rattle.code.specs.Symbols.{Below, letter_of, letters, symbols}
use Rattle.code.proofs.laws.Symbols.{length-symbols, symbols-Below}
use Rattle.code.specs.Segment.{size}
use Rattle.code.specs.Layout.{sum, cut, strand, extent}
use Rattle.code.proofs.laws.Layout.{cut-Below, length-strand-cut, written-Below}
use Rattle.code.specs.Buffers.{over_front}
use Rattle.code.specs.Writing.{strand_of}

-- the front of an array that bytes were unpacked to
pub unpacked : (m a r : List ℕ) → a ≡ symbols m ++ r → take (4 * length m) a ≡ symbols m
unpacked m a r e = rw e (take_at (symbols m) r (4 * length m) (length-symbols m))

-- the first n entries of o are the strand that carries m on a layout, and those behind them are those of d
pub record Front (ks m d o : List ℕ) (n : ℕ) : Type 0 where
  pub inside : n ≤ length o
  pub below : Below 4 (take n o)
  pub spelled : letters (take n o) ++ drop n o ≡ over_front (strand_of ks m) d

module _ (ks m : List ℕ) (whole : sum ks ≡ 4 * length m) where
  -- the strand's symbols
  abbrev carried : List ℕ
  carried = strand (cut ks (symbols m))

  length-carried : length carried ≡ extent false ks
  length-carried = length-strand-cut ks (symbols m) (omega (arith, length-symbols m))

  carried-Below : Below 4 carried
  carried-Below = written-Below false 0 (cut ks (symbols m)) (cut-Below ks (symbols m) (symbols-Below m))

  pub front_is : (a r d o : List ℕ) (i : ℕ) → a ≡ symbols m ++ r → i ≡ extent false ks → o ≡ over_front (strand (cut ks (take (4 * length m) a))) d → Front ks m d o i
  unfolding strand_of
  front_is a r d o i e p q =
      let b = drop (length carried) d in
      let f : o ≡ carried ++ b = q ∙ rw (unpacked m a r e) in
      let z : length carried ≡ i = length-carried ∙ sym p in
      let t : take i o ≡ carried = rw f (take_at carried b i z) in
      let u : drop i o ≡ b = rw f (drop_at carried b i z) in
      record { inside = omega (arith, ap length f, length-append carried b); below = rw t carried-Below; spelled = rw (t, u, length-map carried letter_of) }

-- One step of the loop over lengths
module _ (ks : List ℕ) (i : ℕ) where
  pub extent_turn : i < length ks → extent true (drop i ks) ≡ size true (get_or ks i 0) + extent true (drop (i + 1) ks)
  unfolding extent
  extent_turn h = rw (add-one, drop-cons ks i 0 h)

  pub extent_end : length ks ≤ i → extent true (drop i ks) ≡ 0
  unfolding extent
  extent_end h = rw (drop_of_length-le ks h)

-- the first segment has no marker
pub extent_first : (ks : List ℕ) → 1 ≤ length ks → extent true ks ≡ 2 + extent false ks
unfolding extent size
extent_first [] h = absurd (omega arith)
extent_first (k ∷ ks) h = omega arith
