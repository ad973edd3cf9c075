-- What the calls answer, test after test.
--   equal-bits                                  the fields of equal lengths as one number
--   firsts, listing-bits                        the first fields of a listing as one number, and the lengths
--   drop-replicate                              equal entries behind the first
--   read_short, read_unknown                    reading: too few bytes, no known edition
--   read_order1                                 the order of a label of edition 1
--   listing_room                                the bytes that a label needs that lists its lengths
--   read_equal, read_listed                     such a label: equal lengths, its order
--   answer_refused, answer_taken, answer_order   converting: a label that is refused, one that is taken, and its order
--   convert_refused                             a label that is refused
--   convert_old, convert_large, convert_third   one of an old edition, one that is too large for these, and any other of edition 3
use Rattle.std.specs.Prelude.{Result, Ok, Err}
use mathlib.Core.Path.{◌≡◌, refl, sym, ap, ◌∙◌}
use mathlib.Core.Bool.{Bool, true, false, cond, ◌&&◌, ◌||◌}
use mathlib.Core.List.{List, [], ◌++◌, append-nil}
use Prim.Native.Nat.{ℕ, zero, suc, ◌+◌, ◌-◌, ◌*◌, ◌/◌, ◌%◌, ◌^◌, ◌≤◌, ◌<◌, min}
use native.Mathlib.Decide.{dec_le}
use native.Mathlib.Omega.{arith}
use borrow.Author.Tests.{lt-ltb, le-ltb, eq-eqb, ne_eqb, eqb-true}
use lib.Dec.{eqb, ltb}
use lib.ListN.{length, get_or, drop, replicate, length-replicate}
use lib.Pow.{shl_lt, shl_exact, pow_mono}
use Rattle.code.specs.declared.Refusal.{Refusal}
use Rattle.code.specs.declared.Refusal.TheVariants.{SegmentLength, MessageSize, Cut, ShortBuffer, Label, TooLarge}
use Rattle.code.specs.declared.Labelled.{Labelled}
use Rattle.code.specs.Limits.{least_length, most_segments, old_length, old_bytes}
use Rattle.code.specs.Layers.{Word, bits}
use Rattle.code.specs.Refusals.{refuse, outside, unless_refused}
use Rattle.code.specs.Order.{Order, order, bad_length, bad_cut}
use Rattle.code.proofs.laws.Order.{Within}
use Rattle.code.specs.Label.{answer_to, in_bits, bytes_for, spare, equal, edition1, bytes_bits, length_bits, listing, too_large, old_bits, field, edition_of, length_in, bytes_in1, lists, bytes_in, end_of_lengths, lengths_in, needed, repeated, order_of, bad_end, bad_label, test_in, label_read_test, labelled, label_read, order_in}
use Rattle.code.specs.Conversion.{other_bits, converted, convert_test, convert_call}
use Rattle.code.proofs.laws.LabelFields.{edition1_number, listing_number}
use Rattle.code.proofs.laws.Label.{bits_equal, Lengths-first, widths, edition_Ordered, Fits-in, order_in_lem}
use Rattle.label.specs.PutBits.{put_call}

-- the fields of equal lengths as one number
pub equal-bits : (o : Order) → Within old_length old_bytes o false → (k : ℕ) → k ≡ get_or o.lengths 0 0 → equal o.lengths ≡ true → old_bits o ≡ bits 32 (268435456 + k * 2097152 % 4294967296 + o.b * 8192 % 4294967296) ++ in_bits 7 []
unfolding in_bits
equal-bits o h k first e =
    let limits = Lengths-first o.lengths h.lengths h.some_segments in
    bits_equal o e
    ∙ ap (λ (k : ℕ). edition1 k o.b) (sym first)
    ∙ edition1_number k o.b (omega arith) (omega (arith, h.bytes_fit))
    ∙ ap (bits 32) (let n : 268435456 + k * 2097152 + o.b * 8192 ≡ 268435456 + k * 2097152 % 4294967296 + o.b * 8192 % 4294967296 = omega (arith, h.bytes_fit) in n)
    ∙ sym (append-nil _)

-- an edition that lists its lengths
lists_small : (e : ℕ) → lists e ≡ true → e < 4
lists_small e listed = go (eqb e 2) (eqb e 3) refl refl listed
  where
    go : (x y : Bool) → eqb e 2 ≡ x → eqb e 3 ≡ y → (x || y) ≡ true → e < 4
    go true y p q r = omega (arith, eqb-true e 2 p)
    go false true p q r = omega (arith, eqb-true e 3 q)
    go false false p q r = let z : ◌≡◌ {A = ℕ} 0 1 = cc in absurd (omega arith)

-- the first fields of a listing, as far as they are numbers
pub record Firsts (e w b n : ℕ) : Type 0 where
  pub up : (e * 2 ^ w) % 4294967296 ≡ e * 2 ^ w
  pub up_below : e * 2 ^ w < 4096
  pub bytes : b ≤ 512
  pub count : n ≤ 64

module _ (e : ℕ) (o : Order) (listed : lists e ≡ true) (fine : test_in e o ≡ Ok tt) (w : ℕ) (is : w ≡ bytes_bits e) where
  pub firsts : Firsts e w o.b (length o.lengths)
  firsts =
      let h = edition_Ordered e o fine in
      let most : w ≤ 10 = omega (arith, is, (widths e).bytes_most) in
      let small = lists_small e listed in
      let p : e * 2 ^ w < 2 ^ (2 + w) = shl_lt {a = e} 2 w (omega arith) in
      let q : 2 ^ (2 + w) ≤ 2 ^ 12 = pow_mono {i = 2 + w} {j = 12} (omega arith) in
      record { up = shl_exact {a = e} 2 w 32 (omega arith) (omega arith); up_below = omega arith; bytes = h.bytes_fit; count = h.segments_fit }

  -- the fields of a listing as one number, and the lengths
  pub listing-bits : (v : ℕ) → v ≡ length_bits e → listing e o ≡ bits (4 + w + 7) ((e * 2 ^ w % 4294967296 + o.b) * 128 % 4294967296 + length o.lengths) ++ in_bits v o.lengths
  listing-bits v same =
      let f = firsts in
      let fits = Fits-in e o listed fine in
      let n : (e * 2 ^ w + o.b) * 2 ^ 7 + length o.lengths ≡ (e * 2 ^ w % 4294967296 + o.b) * 128 % 4294967296 + length o.lengths = omega (arith, f.up, f.up_below, f.bytes) in
      listing_number e o fits.bytes fits.count
      ∙ (λ i. bits (4 + sym is i + 7) ((e * 2 ^ sym is i + o.b) * 2 ^ 7 + length o.lengths) ++ in_bits (sym same i) o.lengths)
      ∙ ap (λ (m : ℕ). bits (4 + w + 7) m ++ in_bits v o.lengths) n

-- Labels that are read

-- equal entries behind the first i
pub drop-replicate : (i n x : ℕ) → drop i (replicate n x) ≡ replicate (n - i) x
drop-replicate zero n x = ap (λ (m : ℕ). replicate m x) (let e : n ≡ n - 0 = omega arith in e)
drop-replicate (suc i) zero x = ap (λ (m : ℕ). replicate m x) (let e : 0 ≡ 0 - suc i = omega arith in e)
drop-replicate (suc i) (suc n) x = drop-replicate i n x ∙ ap (λ (m : ℕ). replicate m x) (let e : n - i ≡ suc n - suc i = omega arith in e)

module _ (label : List ℕ) where
  pub read_short : ltb (length label) (needed label) ≡ true → label_read label ≡ Err ShortBuffer
  read_short e = rw e

  read_bad : ltb (length label) (needed label) ≡ false → bad_label label ≡ true → label_read label ≡ Err Label
  read_bad e f = rw (e, f)

  read_order : (o : Order) → ltb (length label) (needed label) ≡ false → bad_label label ≡ false → order_of label ≡ o → label_read label ≡ answer_to (test_in (edition_of label) o) o
  read_order o e f g =
      let t : label_read_test label ≡ test_in (edition_of label) (order_of label) = rw (e, f) in
      rw t (ap (λ (o : Order). answer_to (test_in (edition_of label) o) o) g)

-- More than 64 equal lengths are refused as 65 are

or-false_r : (t : Bool) → (t || false) ≡ t
or-false_r true = refl
or-false_r false = refl

or_self : (t : Bool) → (t || t) ≡ t
or_self true = refl
or_self false = refl

bad_replicate : (n most k : ℕ) → bad_length most (replicate (suc n) k) ≡ outside least_length most k
unfolding bad_length
bad_replicate zero most k = or-false_r (outside least_length most k)
bad_replicate (suc n) most k = ap (λ (t : Bool). outside least_length most k || t) (bad_replicate n most k) ∙ or_self (outside least_length most k)

-- the answer to an order that is refused does not tell its lengths
refused_alike : (x y : Bool) (o p : Order) → answer_to (refuse x SegmentLength (refuse y MessageSize (refuse true Cut (Ok tt)))) o ≡ answer_to (refuse x SegmentLength (refuse y MessageSize (refuse true Cut (Ok tt)))) p
refused_alike true y o p = refl
refused_alike false true o p = refl
refused_alike false false o p = refl

-- the answer to equal lengths in a label of edition 1
abbrev answer_for : ℕ → ℕ → ℕ → Result Labelled Refusal
answer_for n k b = answer_to (test_in 1 (order (replicate n k) b)) (order (replicate n k) b)

-- the answer to more than 64 of them
answer_many : (n k b : ℕ) → 65 ≤ n → answer_for n k b ≡ unless_refused (refuse (outside least_length old_length k) SegmentLength (refuse (outside 1 old_bytes b || false) MessageSize (refuse true Cut (Ok tt)))) (Ok (labelled (order [] 0))) Err
answer_many zero k b h = absurd (omega arith)
answer_many (suc n) k b h =
    let ks = replicate (suc n) k in
    let cut : bad_cut (order ks b) ≡ true = rw (length-replicate (suc n) k, le-ltb (suc n) 1 (omega arith), lt-ltb most_segments (suc n) (omega arith)) in
    rw (bad_replicate n old_length k, cut) (refused_alike (outside least_length old_length k) (outside 1 old_bytes b || false) (order ks b) (order [] 0))

-- 65 equal lengths stand for all that are more
answer_capped : (n k b : ℕ) → answer_for (min 65 n) k b ≡ answer_for n k b
answer_capped n k b = go (dec_le n 65)
  where
    all : (m : ℕ) → min 65 n ≡ m → answer_for (min 65 n) k b ≡ answer_for m k b
    all m e = ap (λ (m : ℕ). answer_for m k b) e

    go : Dec (n ≤ 65) → answer_for (min 65 n) k b ≡ answer_for n k b
    go (yes h) = all n (omega arith)
    go (no h) = all 65 (omega arith) ∙ answer_many 65 k b (omega arith) ∙ sym (answer_many n k b (omega arith))

-- a label of no known edition
pub read_unknown : (label : List ℕ) → ltb (length label) (needed label) ≡ false → lists (edition_of label) ≡ false → (edition_of label ≡ 1 → ⊥) → label_read label ≡ Err Label
read_unknown label long e f = read_bad label long (rw (e, ne_eqb (edition_of label) 1 f))

-- a label of edition 1
module _ (label : List ℕ) (room : 4 ≤ length label) (e : edition_of label ≡ 1) where
  unlisted : lists (edition_of label) ≡ false
  unlisted = rw e

  long1 : ltb (length label) (needed label) ≡ false
  long1 = rw (unlisted, le-ltb (length label) 4 room)

  pub read_order1 : field 19 13 label ≡ 0 → (k b : ℕ) → k ≡ length_in label → b ≡ bytes_in1 label → (ks : List ℕ) → ks ≡ replicate (min 65 (1 + (4 * b / k - 1))) k → answer_to (test_in 1 (order ks b)) (order ks b) ≡ label_read label
  read_order1 f k b ek eb ks l =
      let o : order_of label ≡ order (repeated k b) b = rw (unlisted, ek, eb) in
      ap (λ (ks : List ℕ). answer_to (test_in 1 (order ks b)) (order ks b)) l
      ∙ answer_capped (1 + (4 * b / k - 1)) k b
      ∙ ap (λ (n : ℕ). answer_to (test_in n (order (repeated k b) b)) (order (repeated k b) b)) (sym e)
      ∙ sym (read_order label (order (repeated k b) b) long1 (rw (e, f)) o)

-- a label that lists its lengths
module _ (label : List ℕ) (room : needed label ≤ length label) (listed : lists (edition_of label) ≡ true) where
  pub listing_room : bytes_for (end_of_lengths label) ≤ length label
  listing_room = rw listed at room

  long : ltb (length label) (needed label) ≡ false
  long = le-ltb (length label) (needed label) room

  module _ (f : field (end_of_lengths label) (spare (end_of_lengths label)) label ≡ 0) (e : ℕ) (is : e ≡ edition_of label) (ks : List ℕ) (l : ks ≡ lengths_in label) where
    clear : bad_end label ≡ false
    clear = rw f

    pub read_equal : (eqb e 2 && equal ks) ≡ true → label_read label ≡ Err Label
    read_equal g =
        let same : (eqb (edition_of label) 2 && equal (lengths_in label)) ≡ true = (λ i. eqb (sym is i) 2 && equal (sym l i)) ∙ g in
        read_bad label long (rw (listed, clear, same))

    pub read_listed : (b : ℕ) → b ≡ bytes_in label → (eqb e 2 && equal ks) ≡ false → answer_to (test_in e (order ks b)) (order ks b) ≡ label_read label
    read_listed b n g =
        let o : order_of label ≡ order ks b = rw listed (λ i. order (sym l i) (sym n i)) in
        let other : (eqb (edition_of label) 2 && equal (lengths_in label)) ≡ false = (λ i. eqb (sym is i) 2 && equal (sym l i)) ∙ g in
        ap (λ (x : ℕ). answer_to (test_in x (order ks b)) (order ks b)) is ∙ sym (read_order label (order ks b) long (rw (listed, clear, other)) o)

-- Labels that are converted

module _ (label : List ℕ) (l : Result Labelled Refusal) (is : l ≡ label_read label) where
  -- what turns a label down turns its conversion down
  pub answer_refused : (r : Refusal) → l ≡ Err r → label_read_test label ≡ Err r
  answer_refused r e = go (label_read_test label) refl
    where
      go : (t : Result (Unit {0}) Refusal) → label_read_test label ≡ t → label_read_test label ≡ Err r
      go (Ok _) p =
          let q : label_read label ≡ Ok (labelled (order_of label)) = rw p in
          let no : ◌≡◌ {A = ℕ} 0 1 = cc in
          absurd (omega arith)
      go (Err s) p =
          let q : label_read label ≡ Err s = rw p in
          p ∙ cc

  -- a label that is taken is answered with its order
  pub answer_taken : (a : Labelled) → l ≡ Ok a → (label_read_test label ≡ Ok tt) × (a ≡ labelled (order_of label))
  answer_taken a e = go (label_read_test label) refl
    where
      go : (t : Result (Unit {0}) Refusal) → label_read_test label ≡ t → (label_read_test label ≡ Ok tt) × (a ≡ labelled (order_of label))
      go (Ok _) p =
          let q : label_read label ≡ Ok (labelled (order_of label)) = rw p in
          (p, cc)
      go (Err s) p =
          let q : label_read label ≡ Err s = rw p in
          let no : ◌≡◌ {A = ℕ} 0 1 = cc in
          absurd (omega arith)

  pub answer_order : (a : Labelled) → l ≡ Ok a → order_in a ≡ order_of label
  answer_order a e = ap order_in (answer_taken a e).1 ∙ order_in_lem (order_of label)

-- a label that is refused
pub convert_refused : (label out : List ℕ) (u : Refusal) → label_read_test label ≡ Err u → convert_call label out ≡ (Err u, out)
convert_refused label out u e = rw e

module _ (label out : List ℕ) (taken : label_read_test label ≡ Ok tt) where
  -- a label of an old edition
  pub convert_old : (edition_of label ≡ 3 → ⊥) → convert_call label out ≡ put_call (listing 3 (order_of label)) out
  convert_old e =
      let third_not = ne_eqb (edition_of label) 3 e in
      let o = order_of label in
      let w : other_bits label ≡ listing 3 o = ap (λ (t : Bool). cond t (old_bits o) (listing 3 o)) third_not in
      let n = ltb (length out) (length (converted label)) in
      let t : convert_test label (length out) ≡ refuse n ShortBuffer (Ok tt) = rw taken (λ i. refuse (third_not i && too_large o) TooLarge (refuse n ShortBuffer (Ok tt))) in
      rw t (ap (λ (u : Word). put_call u out) w)

  -- a label of edition 3
  module _ (e : edition_of label ≡ 3) where
    third_is : eqb (edition_of label) 3 ≡ true
    third_is = eq-eqb (edition_of label) 3 e

    pub convert_large : too_large (order_of label) ≡ true → convert_call label out ≡ (Err TooLarge, out)
    convert_large large =
        let n = ltb (length out) (length (converted label)) in
        let t : convert_test label (length out) ≡ Err TooLarge = rw taken (λ i. refuse (third_is i && large i) TooLarge (refuse n ShortBuffer (Ok tt))) in
        rw t

    pub convert_third : too_large (order_of label) ≡ false → convert_call label out ≡ put_call (old_bits (order_of label)) out
    convert_third small =
        let o = order_of label in
        let w : other_bits label ≡ old_bits o = ap (λ (t : Bool). cond t (old_bits o) (listing 3 o)) third_is in
        let n = ltb (length out) (length (converted label)) in
        let t : convert_test label (length out) ≡ refuse n ShortBuffer (Ok tt) = rw taken (λ i. refuse (third_is i && small i) TooLarge (refuse n ShortBuffer (Ok tt))) in
        rw t (ap (λ (u : Word). put_call u out) w)
