-- The stretches of symbols before and behind the mended places.
--   lowest_none      no symbol
--   next_lowest      one more symbol of the first ones
--   put_front        a stretch put at the front
--   put_rear         a stretch put at the end
--   stretch          right symbols put behind right ones
--   rest_few         the symbols behind the mended places are no more than the received ones
--   inside           a mended place is one of the sent word's, or its end
--   Places           where the stretches meet
--   Mended           the symbols of two mended layers
--   stretch_before   those before the mended places
--   stretch_between  one more of those between
--   stretch_Behind   those behind the mended places
use mathlib.Core.Path.{◌≡◌, refl, sym, ap, ◌∙◌}
use mathlib.Core.Bool.{Bool, false}
use mathlib.Core.List.{List, [], ◌∷◌, ◌++◌, map, map-append}
use Prim.Native.Nat.{ℕ, suc, ◌+◌, ◌-◌, ◌*◌, ◌%◌, ◌≤◌, ◌<◌, min, max}
use native.Mathlib.Nat.{sub-zero}
use Rattle.std.proofs.lemmas.List.{append-nil}
use native.Mathlib.Numerals.{add-one}
use native.Mathlib.Omega.{arith}
use lib.Bits.{bit_and, and_mask}
use lib.ListN.{length, get_or, set, take, drop, length-append, length-map, length-take, length-drop, get_or-map, drop_of_length-le}
use lib.Seq.{take_all, take-suc, take-add, take-suc-set, get_or-take, get_or-drop, ext_get_or}
use Rattle.code.specs.declared.Link.{Link}
use Rattle.code.specs.declared.Link.TheVariants.{Changed, More, Less}
use Rattle.code.specs.Layers.{Word, layer, digit, pair}
use Rattle.code.proofs.laws.Layers.{digit-bit, length-layer, layer_at_lem, length-pair}
use Rattle.code.specs.Links.{sent}
use Rattle.code.specs.Buffers.{put_at}
use Rattle.code.proofs.laws.Lists.{take_put, length_put}
use Rattle.code.specs.Repair.{mended_word}
use Rattle.code.specs.declared.Fix.{Fix}
use Rattle.repair.specs.LayerRepair.{lowest, past_all, mended_layer}
use Rattle.repair.proofs.MendedBits.{before_mended, received, Behind, past_above, past_Behind, Behind-mended, pair_at}

pub lowest_none : (s : List ℕ) (i : ℕ) → lowest s i 0 ≡ []
unfolding lowest
lowest_none s i = refl

length-lowest : (s : List ℕ) (i n : ℕ) → n ≤ length s - i → length (lowest s i n) ≡ n
unfolding lowest
length-lowest s i n h = simp (length-map, length-take, length-drop) (omega arith)

lowest_at : (s : List ℕ) (i n j : ℕ) → j < n → get_or (lowest s i n) j 0 ≡ get_or s (i + j) 0 % 4
unfolding lowest
lowest_at s i n j h = get_or-map (λ (x : ℕ). x % 4) (take n (drop i s)) j 0 ∙ rw (get_or-take n (drop i s) j 0 h, get_or-drop)

lowest_next : (s : List ℕ) (i n : ℕ) → n < length s - i → lowest s i (n + 1) ≡ lowest s i n ++ (get_or s (i + n) 0 % 4) ∷ []
unfolding lowest
lowest_next s i n h =
    let l : n < length (drop i s) = rw length-drop h in
    rw (add-one n, take-suc (drop i s) n 0 l, map-append, get_or-drop)

-- one more symbol of the first ones
pub next_lowest : (s d : List ℕ) (n : ℕ) → n < length s → n < length d → take n d ≡ lowest s 0 n → take (n + 1) (set d n (bit_and (get_or s n 0) 3)) ≡ lowest s 0 (n + 1)
next_lowest s d n h room e =
    let z : 0 + n ≡ n = omega arith in
    let l : n < length s - 0 = omega arith in
    rw (lowest_next s 0 n l, z, add-one n, take-suc-set d n (bit_and (get_or s n 0) 3) room, e, and_mask (get_or s n 0) 2)

-- a stretch put at the front
pub put_front : (s d : List ℕ) (to : ℕ) → to ≤ length s → lowest s 0 to ++ drop to d ≡ put_at d 0 (lowest s 0 (to - 0))
unfolding put_at
put_front s d to h =
    let l : 0 + length (lowest s 0 to) ≡ to = omega (arith, length-lowest s 0 to (omega arith)) in
    rw (sub-zero to, l)

-- a stretch put at the end, and nothing behind it
pub put_rear : (s d w t : List ℕ) (from at n m : ℕ) → w ≡ drop from s → m ≡ n → t ≡ [] → n ≤ length s - from → length d ≡ at + n → take at d ++ (lowest w 0 m ++ t) ≡ put_at d at (lowest s from n)
unfolding put_at lowest
put_rear s d w t from at n m e f g h room =
    let l : length (map (λ (x : ℕ). x % 4) (take n (drop from s))) ≡ n = length-lowest s from n h in
    let none = drop_of_length-le d {i = at + n} (omega arith) in
    rw (e, f, g, l, none, append-nil (take at d ++ lowest s from n), append-nil (lowest s from n))

-- the symbols up to `at` are those of p; so are the ones put there, up to `to`
stretch : (s p d : List ℕ) (from at to : ℕ) → at ≤ to → to ≤ length p → length d ≡ length p → to - at ≤ length s - from → ((j : ℕ) → j < to - at → get_or p (at + j) 0 ≡ get_or s (from + j) 0 % 4) → take at d ≡ take at p → take to (put_at d at (lowest s from (to - at))) ≡ take to p
stretch s p d from at to order inside same there each front =
    let n = to - at in
    let b = lowest s from n in
    let l : length b ≡ n = length-lowest s from n there in
    let t : length (take n (drop at p)) ≡ n = simp (length-take, length-drop) (omega arith) in
    let e : b ≡ take n (drop at p) = ext_get_or 0 b (take n (drop at p)) (omega arith) (λ j q. lowest_at s from n j (omega arith) ∙ sym (get_or-take n (drop at p) j 0 (omega arith) ∙ get_or-drop at p j 0 ∙ each j (omega arith))) in
    let m : at + length b ≡ to = omega arith in
    let v : at + n ≡ to = omega arith in
    rw m at (take_put d at b (omega arith)) ∙ rw (front, e) (sym (rw v at (take-add at n p)))

-- the symbols behind the mended places are no more than the received ones
pub rest_few : (link : Link) (n k at : ℕ) → k ≡ sent link n → (link ≡ Less → 0 < at) → k - at ≤ n
rest_few Changed n k at e h = omega arith
rest_few More n k at e h = omega arith
rest_few Less n k at e h = omega (arith, h refl)

-- they are the last received ones
rest_at : (link : Link) (n k at j : ℕ) → k ≡ sent link n → (link ≡ Less → 0 < at) → at + j < k → n - (k - at) + j ≡ received link (at + j)
rest_at Changed n k at j e h l = omega arith
rest_at More n k at j e h l = omega arith
rest_at Less n k at j e h l = omega (arith, h refl)

-- a mended place is one of the sent word's, or its end
pub inside : (link : Link) (w : Word) (at n : ℕ) (b : Bool) → length w ≡ n → length (mended_word link w at b) ≡ sent link n → min at n ≤ sent link n
inside Changed w at n b l e = omega arith
inside More w at n b l e = omega (arith, simp (length-append, length-take, length-drop) at e)
inside Less w at n b l e = omega arith

-- the mended places lie from `first` to before `last`, k being the number of sent symbols and n that of received ones
pub record Places (link : Link) (n k high low first last : ℕ) : Type 0 where
  pub front : (first ≤ high) × (first ≤ low) × (first ≤ n)
  pub end : (first ≤ last) × (last ≤ k)
  pub some : link ≡ Less → 0 < last
  pub rear : (i : ℕ) → last ≤ i → i < k → Behind link high i × Behind link low i

pub places : (link : Link) (n k high low both first p q g h last : ℕ) → k ≡ sent link n → min high n ≤ sent link n → both ≡ min high low → first ≡ min both n
    → (high < n → p ≡ high + 1) × (n ≤ high → p ≡ past_all link n) → (low < n → q ≡ low + 1) × (n ≤ low → q ≡ past_all link n) → g ≡ max p q → h ≡ min g k → last ≡ max h first → Places link n k high low first last
places link n k high low both first p q g h last size there a b u v c d e =
    record {
      front = (omega arith, omega arith, omega arith);
      end = (omega arith, omega arith);
      some = λ f. let z : k ≡ suc n = size ∙ ap (λ (x : Link). sent x n) f in omega (arith, past_above n high p (past_all link n) u.0 u.1, ap (λ (x : Link). past_all x n) f);
      rear = λ i j l. let m : i < sent link n = rw size at l in (past_Behind link n high p i u.0 u.1 (omega arith) m, past_Behind link n low q i v.0 v.1 (omega arith) m);
    }

-- the symbols of two mended layers
abbrev pub Mended : Link → List ℕ → Fix → Fix → List ℕ
Mended link s high low = pair (mended_layer link 1 s high) (mended_layer link 0 s low)

-- a symbol of two words is a received one if both bits are
symbol_at : (h l : Word) (s : List ℕ) (i j : ℕ) → i < length h → i < length l → j < length s → get_or h i false ≡ get_or (layer 1 s) j false → get_or l i false ≡ get_or (layer 0 s) j false → get_or (pair h l) i 0 ≡ get_or s j 0 % 4
symbol_at h l s i j p q r e f =
    let x = get_or s j 0 in
    pair_at h l i p q ∙ rw (e, f, layer_at_lem 1 s j r, layer_at_lem 0 s j r) (omega (arith, digit-bit 1 x, digit-bit 0 x))

module _ (link : Link) (s : List ℕ) (high low : Fix) (k : ℕ) (size : k ≡ sent link (length s)) (highs : length (mended_layer link 1 s high) ≡ k) (lows : length (mended_layer link 0 s low) ≡ k) where
  length-mended : length (Mended link s high low) ≡ k
  length-mended = length-pair (mended_layer link 1 s high) (mended_layer link 0 s low) (highs ∙ sym lows) ∙ highs

  pub stretch_before : (d : List ℕ) (to : ℕ) → length d ≡ k → to ≤ high.at → to ≤ low.at → to ≤ length s → to ≤ k → take to (put_at d 0 (lowest s 0 (to - 0))) ≡ take to (Mended link s high low)
  stretch_before d to e p q r t =
      let n = length-mended in
      stretch s (Mended link s high low) d 0 0 to (omega arith) (omega arith) (omega arith) (omega arith) each refl
    where
      each : (j : ℕ) → j < to - 0 → get_or (Mended link s high low) (0 + j) 0 ≡ get_or s (0 + j) 0 % 4
      each j h =
          symbol_at (mended_layer link 1 s high) (mended_layer link 0 s low) s (0 + j) (0 + j) (omega arith) (omega arith) (omega arith)
          (before_mended link (layer 1 s) high.at (0 + j) high.bit (omega arith) (omega (arith, length-layer 1 s)))
          (before_mended link (layer 0 s) low.at (0 + j) low.bit (omega arith) (omega (arith, length-layer 0 s)))

  pub stretch_between : (d : List ℕ) (i x y : ℕ) → length d ≡ k → i < k → take i d ≡ take i (Mended link s high low)
      → x ≡ digit (get_or (mended_layer link 1 s high) i false) → y ≡ digit (get_or (mended_layer link 0 s low) i false)
      → take (i + 1) (set d i (2 * x + y)) ≡ take (i + 1) (Mended link s high low)
  stretch_between d i x y e h front p q =
      let n = length-mended in
      let v : 2 * x + y ≡ get_or (Mended link s high low) i 0 = rw (p, q) (sym (pair_at (mended_layer link 1 s high) (mended_layer link 0 s low) i (omega arith) (omega arith))) in
      rw (add-one i, take-suc-set d i (2 * x + y) (omega arith), take-suc (Mended link s high low) i 0 (omega arith), front, v)

  pub stretch_Behind : (d : List ℕ) (at : ℕ) → length d ≡ k → at ≤ k → (link ≡ Less → 0 < at) → ((i : ℕ) → at ≤ i → i < k → Behind link high.at i × Behind link low.at i) → take at d ≡ take at (Mended link s high low) → put_at d at (lowest s (length s - (k - at)) (k - at)) ≡ Mended link s high low
  stretch_Behind d at e h some last front =
      let n = length-mended in
      let from = length s - (k - at) in
      let r : k - at ≤ length s - from = omega (arith, rest_few link (length s) k at size some) in
      let m : length (lowest s from (k - at)) ≡ k - at = length-lowest s from (k - at) r in
      let o = put_at d at (lowest s from (k - at)) in
      let l : length o ≡ length d = length_put d at (lowest s from (k - at)) (omega arith) in
      sym (take_all k o (omega arith)) ∙ stretch s (Mended link s high low) d from at k h (omega arith) (omega arith) r each front ∙ take_all k (Mended link s high low) (omega arith)
    where
      each : (j : ℕ) → j < k - at → get_or (Mended link s high low) (at + j) 0 ≡ get_or s (length s - (k - at) + j) 0 % 4
      each j q =
          let f = last (at + j) (omega arith) (omega arith) in
          let r = rest_few link (length s) k at size some in
          let g = rest_at link (length s) k at j size some (omega arith) in
          rw g
          (symbol_at (mended_layer link 1 s high) (mended_layer link 0 s low) s (at + j) (received link (at + j)) (omega arith) (omega arith) (omega arith)
          (Behind-mended link (layer 1 s) high.at (at + j) high.bit f.0 (rw length-layer (omega arith)))
          (Behind-mended link (layer 0 s) low.at (at + j) low.bit f.1 (rw length-layer (omega arith))))
