-- Parts of a written segment, compared symbol by symbol.
--   Left                          the answer is that of the syndrome symbols that are not yet compared
--   marker_seen, no_marker        the marker
--   two_marks                     its two letters
--   mark_fails, segment_seen      marker, and what follows the message
use mathlib.Core.Path.{◌≡◌, refl, sym, ap, ◌∙◌}
use mathlib.Core.Bool.{Bool, true, false, ◌&&◌}
use mathlib.Core.List.{List, [], ◌∷◌, ◌++◌}
use Prim.Native.Nat.{ℕ, zero, suc, ◌+◌, ◌-◌, ◌*◌, ◌/◌, ◌≤◌, ◌<◌}
use borrow.Author.Tests.{eq-eqb, ne_eqb}
use lib.Bits.{bit_and}
use native.Mathlib.Omega.{arith}
use lib.Dec.{eqb}
use lib.ListN.{length, get_or, take, drop, length-drop}
use lib.Seq.{drop-cons, drop-drop, get_or-drop, get_or-take, length-take-le}
use Rattle.code.specs.Bounds.{longest, widest}
use Rattle.code.specs.Layers.{pair, bits}
use Rattle.code.specs.Segment.{sep, marker, block, segment, data_at}
use Rattle.code.specs.Reading.{is_prefix}
use Rattle.code.proofs.laws.Reading.{and-true, and-false}
use Rattle.places.proofs.TestsAtPlaces.{block_past}
use Rattle.tail.specs.declared.Tail.{Tail}
use Rattle.tail.specs.Tails.{mark, syndrome_in, IsTail}
use Rattle.tail.proofs.SumsAndBits.{bits_last}
use Rattle.tail.proofs.Tails.{marked_block, length-pairs, tail_width}

-- a block in two parts
pub prefix_append : (a b s : List ℕ) → is_prefix (a ++ b) s ≡ (is_prefix a s && is_prefix b (drop (length a) s))
unfolding is_prefix
prefix_append [] b s = refl
prefix_append (x ∷ a) b [] = refl
prefix_append (x ∷ a) b (y ∷ s) = go (eqb x y) (prefix_append a b s)
  where
    go : (c : Bool) → is_prefix (a ++ b) s ≡ (is_prefix a s && is_prefix b (drop (length a) s)) → (c && is_prefix (a ++ b) s) ≡ (c && is_prefix a s && is_prefix b (drop (length a) s))
    go true h = h
    go false h = refl

-- a list starts with its own front; what else is demanded stands behind it
prefix_behind : (k : ℕ) (l t : List ℕ) → is_prefix (take k l ++ t) l ≡ is_prefix t (drop k l)
unfolding is_prefix
prefix_behind zero l t = refl
prefix_behind (suc k) [] t = refl
prefix_behind (suc k) (x ∷ l) t = rw (eq-eqb x x refl) (prefix_behind k l t)

-- too few symbols for a syndrome
pub syndrome_past : (t : Tail) (s : List ℕ) (at : ℕ) → 0 < t.width → length s < at + t.width → is_prefix (syndrome_in t) (drop at s) ≡ false
syndrome_past t s at some h = block_past s at (syndrome_in t) (rw (length-pairs t.width t.high t.low) (omega arith))

-- the last symbol is compared, and those before it are left
one_left : (n h l at : ℕ) (s : List ℕ) → at + n < length s → is_prefix (pair (bits (suc n) h) (bits (suc n) l)) (drop at s) ≡ (is_prefix (pair (bits n (h / 2)) (bits n (l / 2))) (drop at s) && eqb (2 * bit_and h 1 + bit_and l 1) (get_or s (at + n) 0))
unfolding is_prefix
one_left n h l at s inside =
    let x = 2 * bit_and h 1 + bit_and l 1 in
    let rest = pair (bits n (h / 2)) (bits n (l / 2)) in
    let one : is_prefix (x ∷ []) (drop (at + n) s) ≡ eqb x (get_or s (at + n) 0) = rw (drop-cons s (at + n) 0 inside) (and-true (eqb x (get_or s (at + n) 0))) in
    rw (bits_last n h l, prefix_append rest (x ∷ []) (drop at s), length-pairs n (h / 2) (l / 2), drop-drop n at s, one)

module _ (s : List ℕ) (at t high low : ℕ) where
  abbrev answer : Bool
  answer = is_prefix (pair (bits t high) (bits t low)) (drop at s)

  -- the first i symbols are left, of what is left of both numbers
  pub record Left (i h l : ℕ) : Type 0 where
    pub inside : i ≤ t
    pub rest : answer ≡ is_prefix (pair (bits i h) (bits i l)) (drop at s)

  module _ (i h l : ℕ) (known : Left i h l) where
    module _ (some : 0 < i) (room : at + t ≤ length s) where
      next : answer ≡ (is_prefix (pair (bits (i - 1) (h / 2)) (bits (i - 1) (l / 2))) (drop at s) && eqb (2 * bit_and h 1 + bit_and l 1) (get_or s (at + (i - 1)) 0))
      next =
          let e : i ≡ suc (i - 1) = omega arith in
          known.rest ∙ (ap (λ (n : ℕ). is_prefix (pair (bits n h) (bits n l)) (drop at s)) e ∙ one_left (i - 1) h l at s (omega (arith, known.inside)))

      pub Left-turn : 2 * bit_and h 1 + bit_and l 1 ≡ get_or s (at + (i - 1)) 0 → Left (i - 1) (h / 2) (l / 2)
      Left-turn same = record { inside = omega (arith, known.inside); rest = next ∙ rw (eq-eqb (2 * bit_and h 1 + bit_and l 1) (get_or s (at + (i - 1)) 0) same) (and-true (is_prefix (pair (bits (i - 1) (h / 2)) (bits (i - 1) (l / 2))) (drop at s))) }

      pub left_stop : (2 * bit_and h 1 + bit_and l 1 ≡ get_or s (at + (i - 1)) 0 → ⊥) → answer ≡ false
      left_stop other = next ∙ rw (ne_eqb (2 * bit_and h 1 + bit_and l 1) (get_or s (at + (i - 1)) 0) other) (and-false (is_prefix (pair (bits (i - 1) (h / 2)) (bits (i - 1) (l / 2))) (drop at s)))

    pub left_end : i ≤ 0 → answer ≡ true
    unfolding pair bits is_prefix
    left_end z = let e : i ≡ 0 = omega arith in known.rest ∙ rw e

module _ (marked : Bool) (f p : ℕ) (s : List ℕ) where
  abbrev D : List ℕ
  D = drop (data_at marked) (drop p s)

  pub marker_seen : marked ≡ true → (m : ℕ) → m ≡ sep f (get_or s (p + 2) 0) (get_or s (p + 3) 0) → (r : Bool) → r ≡ is_prefix (m ∷ m ∷ []) (drop p s) → r ≡ is_prefix (mark marked f D) (drop p s)
  unfolding mark marker
  marker_seen e m is r h =
      let first : get_or (drop 2 (drop p s)) 0 0 ≡ get_or s (p + 2) 0 = get_or-drop 2 (drop p s) 0 0 ∙ get_or-drop p s 2 0 in
      let second : get_or (drop 2 (drop p s)) 1 0 ≡ get_or s (p + 3) 0 = get_or-drop 2 (drop p s) 1 0 ∙ get_or-drop p s 3 0 in
      rw (e, first, second, ← is) h

  -- the two letters of the marker
  module _ (room : p + 2 ≤ length s) (m : ℕ) where
    marks : is_prefix (m ∷ m ∷ []) (drop p s) ≡ (eqb m (get_or s p 0) && (eqb m (get_or s (suc p) 0) && true))
    unfolding is_prefix
    marks = rw (drop-cons s p 0 (omega arith), drop-cons s (suc p) 0 (omega arith))

    pub two_marks : (eqb m (get_or s p 0) && eqb m (get_or s (p + 1) 0)) ≡ is_prefix (m ∷ m ∷ []) (drop p s)
    two_marks =
        let q : p + 1 ≡ suc p = omega arith in
        sym (marks ∙ rw (q, and-true (eqb m (get_or s (suc p) 0))))

  pub no_marker : marked ≡ false → true ≡ is_prefix (mark marked f D) (drop p s)
  unfolding mark is_prefix
  no_marker e = rw e

  -- the k symbols at D
  module _ (k : ℕ) (two : 2 ≤ k) where
    same_mark : (b : Bool) → mark b f (take k D) ≡ mark b f D
    unfolding mark marker
    same_mark true = rw (get_or-take k D 0 0 (omega arith), get_or-take k D 1 0 (omega arith))
    same_mark false = refl

    -- without the marker no segment stands
    pub mark_fails : is_prefix (mark marked f D) (drop p s) ≡ false → is_prefix (segment marked f (take k D)) (drop p s) ≡ false
    mark_fails e = ap (λ (w : List ℕ). is_prefix w (drop p s)) (sym (marked_block marked f (take k D))) ∙ (prefix_append (mark marked f (take k D)) (block (take k D)) (drop p s) ∙ rw (same_mark marked, e))

    mark-length : (b : Bool) (l : List ℕ) → length (mark b f l) ≡ data_at b
    unfolding mark
    mark-length true l = refl
    mark-length false l = refl

    -- and t, what follows them in their segment
    module _ (d : ℕ) (t : List ℕ) (place : d ≡ p + data_at marked) (follows : block (take k (drop d s)) ≡ take k (drop d s) ++ t) where
      here : drop d s ≡ D
      here = ap (λ (n : ℕ). drop n s) place ∙ sym (drop-drop (data_at marked) p s)

      parts : segment marked f (take k D) ≡ mark marked f D ++ (take k D ++ t)
      parts = sym (marked_block marked f (take k D)) ∙ rw (same_mark marked, ← here, follows)

      -- marker and tail
      pub segment_seen : is_prefix (segment marked f (take k D)) (drop p s) ≡ (is_prefix (mark marked f D) (drop p s) && is_prefix t (drop (d + k) s))
      segment_seen =
          let behind : drop k D ≡ drop (d + k) s = ap (drop k) (sym here) ∙ drop-drop k d s in
          rw (parts, prefix_append (mark marked f D) (take k D ++ t) (drop p s), mark-length marked D, prefix_behind k D t, behind)

-- a tail's width
pub tail_room : (d k : ℕ) (s : List ℕ) (t : Tail) → 2 ≤ k → k ≤ longest → d + k ≤ length s → IsTail (take k (drop d s)) t → (0 < t.width) × (t.width ≤ widest)
tail_room d k s t two most room tail =
    let n : length (take k (drop d s)) ≡ k = length-take-le k (drop d s) (simp length-drop (omega arith)) in
    tail_width (take k (drop d s)) t tail (omega (arith, n), omega (arith, n))
