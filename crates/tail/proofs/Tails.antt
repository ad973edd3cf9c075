-- What the functions on tails use.
--   is_tail        the parts that make a tail
--   tail_symbols   a message and its tail are the block
--   tail_Below     a tail's symbols are symbols
--   tail_last      the last symbol of a segment
--   tail_width     the width of a tail
--   marked_block   a segment is its marker and its block
use mathlib.Core.Path.{◌≡◌, refl, sym, ap, ◌∙◌}
use mathlib.Core.Bool.{Bool, true, false}
use mathlib.Core.List.{List, [], ◌∷◌, ◌++◌}
use Prim.Native.Nat.{ℕ, zero, suc, ◌+◌, ◌-◌, ◌*◌, ◌<◌, ◌≤◌}
use native.Mathlib.Omega.{arith}
use lib.ListN.{length, get_or}
use Rattle.code.specs.Symbols.{Below}
use Rattle.code.specs.Bounds.{widest, Length}
use Rattle.code.specs.Layers.{bit, digit, layer, syndrome, number, pair, bits, width}
use Rattle.code.proofs.laws.Layers.{length-layer, length-bits, length-pair, bits-number, pair_layers, width-Least}
use Rattle.code.specs.Segment.{check, sep, separator, syndrome_of, block, segment, last_of}
use Rattle.code.proofs.laws.Segment.{check_below, separator-Apart, syndrome_symbols_Below, width_two}
use Rattle.layers.specs.declared.Layers.{Layers}
use Rattle.layers.specs.LayerSums.{both}
use Rattle.tail.specs.declared.Tail.{Tail}
use Rattle.tail.specs.Tails.{mark, syndrome_in, IsTail, tail_of}
use Rattle.tail.proofs.SumsAndBits.{bits_at}

-- the parts that make a tail
pub is_tail : (m : List ℕ) (c p t h l a b : ℕ) → c ≡ check m → t ≡ width (length m) → pair (bits t h) (bits t l) ≡ syndrome_of m → a ≡ get_or (syndrome_of m) 0 0 → b ≡ get_or (syndrome_of m) 1 0 → p ≡ sep c a b → IsTail m (record { check = c; separator = p; width = t; high = h; low = l })
unfolding separator
is_tail m c p t h l a b ec et whole ea eb ep = record { check = ec; separator = ep ∙ rw (ec, ea, eb); width = et; symbols = whole }

-- the syndromes, paired, are the syndrome symbols
pub syndromes_paired : (m : List ℕ) (s : Layers) (t : ℕ) → t ≡ width (length m) → s ≡ both syndrome m → pair (bits t s.high) (bits t s.low) ≡ syndrome_of m
unfolding syndrome_of
syndromes_paired m s t et es = rw (es, et)

-- the first and the second symbol of two numbers
pub symbol_from : (m : List ℕ) (t h l i j : ℕ) (x : ℕ) → pair (bits t h) (bits t l) ≡ syndrome_of m → i < t → j ≡ t - 1 - i → x ≡ 2 * digit (bit j h) + digit (bit j l) → x ≡ get_or (syndrome_of m) i 0
symbol_from m t h l i j x whole r e is = is ∙ (rw e (sym (bits_at t h l i r)) ∙ ap (λ (w : List ℕ). get_or w i 0) whole)

-- the numbers that syndrome symbols write give them back
pub numbers_paired : (m w : List ℕ) (s : Layers) → w ≡ syndrome_of m → s ≡ both number w → pair (bits (length w) s.high) (bits (length w) s.low) ≡ syndrome_of m
numbers_paired m w s ew es =
    let small : Below 4 w = rw ew (syndrome_symbols_Below m) in
    let back : (n : ℕ) → bits (length w) (number (layer n w)) ≡ layer n w = λ n. ap (λ (k : ℕ). bits k (number (layer n w))) (sym (length-layer n w)) ∙ bits-number (layer n w) in
    rw (es, back 1, back 0) (pair_layers w small ∙ ew)

module _ (m : List ℕ) (t : Tail) (e : IsTail m t) where
  pub tail_symbols : m ++ tail_of t ≡ block m
  unfolding tail_of block
  tail_symbols = rw (e.check, e.separator, e.symbols)

  pub tail_Below : Below 4 (tail_of t)
  unfolding tail_of
  tail_Below zero = omega (arith, e.check, check_below m)
  tail_Below (suc zero) = omega (arith, e.separator, (separator-Apart m).below)
  tail_Below (suc (suc zero)) = omega (arith, e.separator, (separator-Apart m).below)
  tail_Below (suc (suc (suc zero))) = omega (arith, e.separator, (separator-Apart m).below)
  tail_Below (suc (suc (suc (suc i)))) = rw e.symbols (syndrome_symbols_Below m i)

  pub tail_last : 2 ≤ length m → get_or (tail_of t) (3 + t.width) 0 ≡ last_of m
  unfolding tail_of last_of
  tail_last h =
      let w = width_two (length m) h in
      let n : 3 + t.width ≡ suc (suc (suc (suc (t.width - 1)))) = omega (arith, e.width) in
      rw n (rw (e.symbols, e.width))

-- the width of a tail
pub tail_width : (m : List ℕ) (t : Tail) → IsTail m t → Length (length m) → (0 < t.width) × (t.width ≤ widest)
tail_width m t e h = (omega (arith, e.width, width_two (length m) h.0), omega (arith, e.width, (width-Least (length m)).least 16 (omega (arith, h.1))))

-- a segment is its marker and its block
pub marked_block : (marked : Bool) (f : ℕ) (m : List ℕ) → mark marked f m ++ block m ≡ segment marked f m
unfolding mark segment
marked_block true f m = refl
marked_block false f m = refl

-- check and separators, and the syndrome behind them
pub tail_parts : (t : Tail) → (t.check ∷ t.separator ∷ t.separator ∷ t.separator ∷ []) ++ syndrome_in t ≡ tail_of t
unfolding tail_of
tail_parts t = refl

-- how many symbols a tail has
pub length-pairs : (n h l : ℕ) → length (pair (bits n h) (bits n l)) ≡ n
length-pairs n h l = length-pair (bits n h) (bits n l) (length-bits n h ∙ sym (length-bits n l)) ∙ length-bits n h

pub tail_length : (t : Tail) → length (tail_of t) ≡ 4 + t.width
unfolding tail_of
tail_length t = omega (arith, length-pairs t.width t.high t.low)

-- a symbol behind check and separators
pub behind_four : (t : Tail) (i j : ℕ) → 4 ≤ i → i < 4 + t.width → j ≡ t.width + 3 - i → get_or (tail_of t) i 0 ≡ 2 * digit (bit j t.high) + digit (bit j t.low)
unfolding tail_of
behind_four t zero j h r e = absurd (omega arith)
behind_four t (suc zero) j h r e = absurd (omega arith)
behind_four t (suc (suc zero)) j h r e = absurd (omega arith)
behind_four t (suc (suc (suc zero))) j h r e = absurd (omega arith)
behind_four t (suc (suc (suc (suc i)))) j h r e =
    let q : j ≡ t.width - 1 - i = omega arith in
    rw q (bits_at t.width t.high t.low i (omega arith))

-- the check, and a separator
pub at_first : (t : Tail) (i : ℕ) → i ≡ 0 → t.check ≡ get_or (tail_of t) i 0
unfolding tail_of
at_first t i e = rw e

pub in_front : (t : Tail) (i : ℕ) → (i ≡ 0 → ⊥) → i < 4 → t.separator ≡ get_or (tail_of t) i 0
unfolding tail_of
in_front t zero n h = absurd (n refl)
in_front t (suc zero) n h = refl
in_front t (suc (suc zero)) n h = refl
in_front t (suc (suc (suc zero))) n h = refl
in_front t (suc (suc (suc (suc i)))) n h = absurd (omega arith)
