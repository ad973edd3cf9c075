-- A syndrome stands where the numbers that are written there are the message's syndromes.
--   number-of  the number that a layer of the syndrome symbols writes
--   same,      other equal numbers, or one that differs
--   first-two  the first two syndrome symbols, where the syndrome stands
use mathlib.Core.Path.{◌≡◌, refl, sym, ap, ◌∙◌}
use mathlib.Core.Bool.{Bool, true, false}
use mathlib.Core.List.{List}
use Prim.Native.Nat.{ℕ, ◌+◌, ◌-◌, ◌*◌, ◌≤◌, ◌<◌}
use native.Mathlib.Nat.{mod-eq_of_lt}
use native.Mathlib.Omega.{arith}
use borrow.Author.Tests.{eqb-true, eqb-false}
use lib.Dec.{eqb}
use lib.ListN.{length, get_or, take, drop, take-append-drop, length-drop}
use lib.Seq.{take_at, get_or-take, get_or-drop, length-take-le}
use Rattle.code.specs.Symbols.{Below}
use Rattle.code.specs.Bounds.{longest, widest}
use Rattle.code.proofs.laws.Below.{Below-take, Below-drop}
use Rattle.code.specs.Layers.{layer, syndrome, width, bits, number}
use Rattle.code.proofs.laws.Layers.{length-layer, length-bits, layer-pair_high, layer-pair_low, pair_layers, number-bits, bits-number, syndrome_below, width-Least}
use Rattle.code.specs.Segment.{check, sep, separator, syndrome_of}
use Rattle.code.proofs.laws.Segment.{length_syndrome, width_two}
use Rattle.code.specs.Reading.{is_prefix}
use Rattle.code.proofs.laws.Reading.{prefix_self, prefix_split}
use Rattle.code.proofs.laws.HitTail.{is_false}
use Rattle.layers.specs.declared.Layers.{Layers}
use Rattle.layers.specs.LayerSums.{both, highs, lows}

-- the message m, and the symbols l at whose front its syndrome is looked for
module _ (m l : List ℕ) (some : 0 < length m) (room : width (length m) ≤ length l) (small : Below 4 l) where
  abbrev t : ℕ
  t = width (length m)

  -- the symbols that are compared
  abbrev w : List ℕ
  w = take t l

  w_long : length w ≡ t
  w_long = length-take-le t l room

  same_long : length (bits t (syndrome (layer 1 m))) ≡ length (bits t (syndrome (layer 0 m)))
  same_long = length-bits t (syndrome (layer 1 m)) ∙ sym (length-bits t (syndrome (layer 0 m)))

  -- t bits hold a syndrome
  back : (n : ℕ) → number (bits t (syndrome (layer n m))) ≡ syndrome (layer n m)
  back n =
      let k = length-layer n m in
      let y : syndrome (layer n m) < 2 * length (layer n m) = syndrome_below (layer n m) (omega arith) in
      number-bits t (syndrome (layer n m)) ∙ mod-eq_of_lt (omega (arith, (width-Least (length m)).enough))

  high_is : number (layer 1 (syndrome_of m)) ≡ syndrome (layer 1 m)
  unfolding syndrome_of
  high_is = rw (layer-pair_high (bits t (syndrome (layer 1 m))) (bits t (syndrome (layer 0 m))) same_long) (back 1)

  low_is : number (layer 0 (syndrome_of m)) ≡ syndrome (layer 0 m)
  unfolding syndrome_of
  low_is = rw (layer-pair_low (bits t (syndrome (layer 1 m))) (bits t (syndrome (layer 0 m))) same_long) (back 0)

  -- a syndrome that stands is what is compared
  pub stood : is_prefix (syndrome_of m) l ≡ true → w ≡ syndrome_of m
  stood e = ap (take t) (prefix_split (syndrome_of m) l e) ∙ take_at (syndrome_of m) (drop (length (syndrome_of m)) l) t (length_syndrome m)

  -- the first symbols of a syndrome that stands
  pub first_ones : is_prefix (syndrome_of m) l ≡ true → (i : ℕ) → i < t → get_or l i 0 ≡ get_or (syndrome_of m) i 0
  first_ones e i h = sym (get_or-take t l i 0 h) ∙ ap (λ (x : List ℕ). get_or x i 0) (stood e)

  bits_of : (n v : ℕ) → number (layer n w) ≡ v → layer n w ≡ bits t v
  bits_of n v e = sym (bits-number (layer n w)) ∙ rw (length-layer n w, w_long, e)

  module _ (written own : Layers) (a : written ≡ both number w) (b : own ≡ both syndrome m) where
    pub same : written.high ≡ own.high → written.low ≡ own.low → true ≡ is_prefix (syndrome_of m) l
    unfolding syndrome_of
    same h o =
        let high : layer 1 w ≡ bits t (syndrome (layer 1 m)) = bits_of 1 (syndrome (layer 1 m)) (sym (highs a) ∙ (h ∙ highs b)) in
        let low : layer 0 w ≡ bits t (syndrome (layer 0 m)) = bits_of 0 (syndrome (layer 0 m)) (sym (lows a) ∙ (o ∙ lows b)) in
        let is : syndrome_of m ≡ w = rw (← high, ← low) (pair_layers w (Below-take t l small)) in
        sym (ap (λ (x : List ℕ). is_prefix x l) is ∙ (ap (is_prefix w) (sym (take-append-drop t l)) ∙ prefix_self w (drop t l)))

    pub other_high : (written.high ≡ own.high → ⊥) → false ≡ is_prefix (syndrome_of m) l
    other_high h = sym (is_false (is_prefix (syndrome_of m) l) (λ e. h (highs a ∙ (ap (λ (x : List ℕ). number (layer 1 x)) (stood e) ∙ (high_is ∙ sym (highs b))))))

    pub other_low : (written.low ≡ own.low → ⊥) → false ≡ is_prefix (syndrome_of m) l
    other_low h = sym (is_false (is_prefix (syndrome_of m) l) (λ e. h (lows a ∙ (ap (λ (x : List ℕ). number (layer 0 x)) (stood e) ∙ (low_is ∙ sym (lows b))))))

-- two syndrome symbols are inside
pub last_place : (d to end : ℕ) → d + 2 ≤ to → end ≡ to + (4 + width (to - d)) → to + 6 ≤ end
last_place d to end two e = omega (arith, width_two (to - d) (omega arith))

-- the symbols from d to before `to`, and what stands behind the separator that follows them
module _ (s : List ℕ) (d to end : ℕ) (two : d + 2 ≤ to) (most : to ≤ d + longest) (is_end : end ≡ to + (4 + width (to - d))) (inside : end ≤ length s) (small : Below 4 s) where
  abbrev M : List ℕ
  M = take (to - d) (drop d s)

  abbrev L : List ℕ
  L = drop (to + 4) s

  abbrev part : List ℕ
  part = take (end - (to + 4)) L

  m_long : length M ≡ to - d
  m_long = length-take-le (to - d) (drop d s) (simp length-drop (omega arith))

  width_is : end - (to + 4) ≡ width (length M)
  width_is = omega (arith, ap width m_long)

  l_room : width (length M) ≤ length L
  l_room = simp length-drop (omega (arith, width_is))

  pub part_few : length part ≤ widest
  part_few = omega (arith, length-take-le (end - (to + 4)) L (omega (arith, l_room, width_is)), is_end, (width-Least (to - d)).least 16 (omega arith))

  module _ (written own : Layers) (a : written ≡ both number part) (b : own ≡ both syndrome M) where
    a_is : written ≡ both number (take (width (length M)) L)
    a_is = a ∙ ap (λ (n : ℕ). both number (take n L)) width_is

    some_left : 0 < length M
    some_left = omega (arith, m_long)

    pub high_differs : (written.high ≡ own.high → ⊥) → false ≡ is_prefix (syndrome_of M) L
    high_differs = other_high M L some_left l_room (Below-drop (to + 4) s small) written own a_is b

    pub low_decides : written.high ≡ own.high → eqb written.low own.low ≡ is_prefix (syndrome_of M) L
    low_decides h = go (eqb written.low own.low) refl
      where
        go : (e : Bool) → eqb written.low own.low ≡ e → e ≡ is_prefix (syndrome_of M) L
        go true q = same M L some_left l_room (Below-drop (to + 4) s small) written own a_is b h (eqb-true written.low own.low q)
        go false q = other_low M L some_left l_room (Below-drop (to + 4) s small) written own a_is b (eqb-false written.low own.low q)

  -- the separator from the two symbols that stand first there
  pub separator_there : (x : ℕ) → x ≡ sep (check M) (get_or s (to + 4) 0) (get_or s (to + 5) 0) → is_prefix (syndrome_of M) L ≡ true → x ≡ separator M
  unfolding separator
  separator_there x e h =
      let w : 2 ≤ width (length M) = width_two (length M) (omega (arith, m_long)) in
      let first : get_or s (to + 4) 0 ≡ get_or (syndrome_of M) 0 0 = ap (λ (i : ℕ). get_or s i 0) (omega arith) ∙ at 0 (omega arith) in
      let second : get_or s (to + 5) 0 ≡ get_or (syndrome_of M) 1 0 = ap (λ (i : ℕ). get_or s i 0) (omega arith) ∙ at 1 (omega arith) in
      e ∙ rw (first, second)
    where
      at : (i : ℕ) → i < width (length M) → get_or s (to + 4 + i) 0 ≡ get_or (syndrome_of M) i 0
      at i l = sym (get_or-drop (to + 4) s i 0) ∙ first_ones M L (omega (arith, m_long)) l_room (Below-drop (to + 4) s small) h i l
