-- A strand that is being written: what stands, followed by what is to come, is the whole.
--   Standing   the state before a segment, with its begin, its turn and its end
--   Step       the numbers of the next segment
use mathlib.Core.Path.{◌≡◌, refl, sym, ◌∙◌}
use mathlib.Core.Bool.{Bool, true, false}
use mathlib.Core.List.{List, ◌∷◌, ◌++◌, append_assoc, append-nil}
use Prim.Native.Nat.{ℕ, ◌+◌, ◌-◌, ◌<◌, ◌≤◌}
use native.Mathlib.Numerals.{add-one}
use native.Mathlib.Omega.{arith}
use lib.ListN.{length, get_or, take, drop, length-drop, drop_of_length-le, take-append-drop}
use lib.Seq.{drop-cons, drop-drop, length-take-le}
use Rattle.code.proofs.laws.Lists.{take_put, drop_put, length_put}
use Rattle.code.specs.Segment.{segment, last_of, size}
use Rattle.code.proofs.laws.Segment.{length-segment, last_below}
use Rattle.code.specs.Layout.{sum, cut, written, strand, extent}
use Rattle.code.proofs.laws.Layout.{length-strand-cut}
use Rattle.code.specs.Buffers.{over_front, put_at}

-- the first i segments of a layout stand in o, up to place `at`; `from` symbols are in them
pub record Standing (ks s d : List ℕ) (i from at f : ℕ) (marked : Bool) (o : List ℕ) : Type 0 where
  pub inside : i ≤ length ks
  pub taken : from + sum (drop i ks) ≡ length s
  pub placed : at + extent marked (drop i ks) ≡ extent false ks
  pub room : length o ≡ length d
  pub symbol : f < 4
  pub stands : take at o ++ written marked f (cut (drop i ks) (drop from s)) ≡ strand (cut ks s)
  pub behind : drop at o ≡ drop at d

-- the next k symbols are those of the part of s from `from` on, and their segment has room
pub record Step (s o : List ℕ) (from at k : ℕ) (marked : Bool) : Type 0 where
  pub symbols : from + k ≤ length s
  pub part : take (from + k - from) (drop from s) ≡ take k (drop from s)
  pub length_part : length (take (from + k - from) (drop from s)) ≡ k
  pub room : at + size marked k ≤ length o

module _ (ks s d : List ℕ) where
  pub begin : sum ks ≡ length s → Standing ks s d 0 0 0 0 false d
  begin e = record { inside = omega arith; taken = omega arith; placed = omega arith; room = refl; symbol = omega arith; stands = refl; behind = refl }

  module _ (i from at f : ℕ) (marked : Bool) (o : List ℕ) (st : Standing ks s d i from at f marked o) where
    -- a segment is left
    module _ (h : i < length ks) where
      -- the next message
      abbrev next : List ℕ
      next = take (get_or ks i 0) (drop from s)

      layout_next : drop i ks ≡ get_or ks i 0 ∷ drop (i + 1) ks
      layout_next = rw (add-one) (drop-cons ks i 0 h)

      sum_next : sum (drop i ks) ≡ get_or ks i 0 + sum (drop (i + 1) ks)
      unfolding sum
      sum_next = rw layout_next

      extent_next : extent marked (drop i ks) ≡ size marked (get_or ks i 0) + extent true (drop (i + 1) ks)
      unfolding extent
      extent_next = rw layout_next

      written-next : written marked f (cut (drop i ks) (drop from s)) ≡ segment marked f next ++ written true (last_of next) (cut (drop (i + 1) ks) (drop (from + get_or ks i 0) s))
      unfolding written cut
      written-next = rw (layout_next, drop-drop (get_or ks i 0) from s)

      length-next : length next ≡ get_or ks i 0
      length-next = let t = st.taken in length-take-le (get_or ks i 0) (drop from s) (simp length-drop (omega (arith, sum_next)))

      -- the next segment's length
      size-next : length (segment marked f next) ≡ size marked (get_or ks i 0)
      size-next = length-segment marked f next ∙ rw length-next

      pub step : extent false ks ≤ length d → Step s o from at (get_or ks i 0) marked
      step fits =
          let k = get_or ks i 0 in
          let n : from + k - from ≡ k = omega arith in
          let t = st.taken in
          let p = st.placed in
          let r = st.room in
          record { symbols = omega (arith, sum_next); part = rw n; length_part = rw n length-next; room = omega (arith, extent_next) }

      -- the next segment is put behind those that stand
      pub turn : extent false ks ≤ length d → (m o' : List ℕ) (g : ℕ) → m ≡ next → o' ≡ put_at o at (segment marked f m) → g ≡ last_of m → Standing ks s d (i + 1) (from + get_or ks i 0) (at + size marked (get_or ks i 0)) g true o'
      turn fits m o' g em eo eg =
          let b = segment marked f next in
          let w = written true (last_of next) (cut (drop (i + 1) ks) (drop (from + get_or ks i 0) s)) in
          let n : size marked (get_or ks i 0) ≡ length b = sym size-next in
          let t = st.taken in
          let p = st.placed in
          let r = st.room in
          let l = extent_next in
          let room : at + length b ≤ length o = omega arith in
          let put : o' ≡ put_at o at b = eo ∙ rw em in
          let last : g ≡ last_of next = eg ∙ rw em in
          let more : b ++ w ≡ written marked f (cut (drop i ks) (drop from s)) = sym written-next in
          record {
            inside = omega arith;
            taken = omega (arith, sum_next);
            placed = omega arith;
            room = rw put (length_put o at b room ∙ r);
            symbol = omega (arith, last_below next);
            stands = rw (put, last, n, take_put o at b room) (append_assoc (take at o) b w ∙ rw more st.stands);
            behind = rw (put, n, drop_put o at b room) (sym (drop-drop (length b) at o) ∙ rw st.behind (drop-drop (length b) at d));
          }

    -- no segment is left
    pub end : sum ks ≡ length s → length ks ≤ i → (at ≡ extent false ks) × (o ≡ over_front (strand (cut ks s)) d)
    unfolding written cut extent
    end whole h =
        let e = drop_of_length-le ks h in
        let p : at ≡ extent false ks = omega (arith, rw e at st.placed) in
        let q : take at o ≡ strand (cut ks s) = sym (append-nil (take at o)) ∙ (rw e at st.stands) in
        let n : at ≡ length (strand (cut ks s)) = p ∙ sym (length-strand-cut ks s (sym whole)) in
        (p, sym (take-append-drop at o) ∙ rw (q, st.behind, n))
