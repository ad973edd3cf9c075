-- Laws of the label, in the order of its definitions.
--   not_large, Within-old                 an order that the old editions carry
--   Lengths-Below, Lengths-first          the lengths of an order that is taken
--   edition_Ordered, Fits-in              an order within the limits of an edition is within those of the calls, and fits the fields
--   repeated-equal, equal-replicate       lengths that are equal
--   bits_equal, bits_other                the fields of a label in an old edition, for equal lengths and for others
--   bits_old, bits_large                  the fields of a label, by whether the old editions carry the order
--   length-in_bytes                       how many bytes a word has
--   Widths, widths                        how many bits B and a length have
--   needed_least, end_most, needed_most   how many bits and bytes a label has
--   order_in_lem                          an answer holds its order
--   labelled_inside, label_inside         its lengths stand in its array
use Rattle.std.specs.Prelude.{Result, Ok, Err, ◌≡◌, refl, Bool, true, false, cond, not, ◌&&◌, ◌||◌, List, [], ◌∷◌, ℕ, zero, suc, ◌+◌, ◌-◌, ◌*◌, ◌/◌, ◌^◌, ◌≤◌, eqb, ltb, length, get_or, drop, replicate, IfOk}
use Rattle.code.specs.declared.Refusal.{Refusal}
use Rattle.std.proofs.Common.{sym, ap, ◌∙◌, mul-le-mul, arith, le-ltb, eq-eqb, ltb-false, eqb-true, length-append, take_at}
use Rattle.std.proofs.Math.Nat.{div-eq_of_eq-mul_left}
use Rattle.std.proofs.lemmas.List.{length-replicate, get_or-replicate}
use Rattle.code.specs.Limits.{most_segments, most_length, most_bytes, old_length, old_bytes}
use Rattle.code.specs.Symbols.{Below}
use Rattle.code.specs.Layers.{Word}
use Rattle.code.specs.Layout.{sum, Lengths, done, more}
use Rattle.code.specs.Refusals.{outside}
use Rattle.code.proofs.laws.Refusals.{or-false}
use Rattle.code.proofs.laws.Below.{Below-cons}
use Rattle.code.specs.Order.{Order, order, bad_length, test_within, order_test}
use Rattle.code.proofs.laws.Order.{Within, Ordered, Lengths-not, not_Lengths, fine_Within, order_fine, Within-more}
use Rattle.code.proofs.laws.Bits.{number_least, length-from_bits}
use Rattle.code.proofs.laws.LabelFields.{Fits}
use Rattle.code.specs.Label.{in_bits, bytes_for, in_bytes, all_are, equal, edition1, bytes_bits, length_bits, listing, too_large, old_bits, label_bits, edition_of, lists, count_in, end_of_lengths, needed, repeated, order_of, test_in, label_read_test, labelled, label_read, order_in}

-- Orders that the old editions carry

-- an order within the old limits is not too large
pub not_large : (o : Order) → Within old_length old_bytes o false → too_large o ≡ false
not_large o h = rw (not_Lengths old_length o.lengths h.lengths, le-ltb old_bytes o.b h.bytes_fit)

-- an order that is taken and not too large is within the old limits
pub Within-old : (o : Order) → Ordered o false → too_large o ≡ false → Within old_length old_bytes o false
Within-old o h e =
    let p = or-false (bad_length old_length o.lengths) (ltb old_bytes o.b) e in
    record {
      lengths = Lengths-not old_length o.lengths p.0;
      some_bytes = h.some_bytes;
      bytes_fit = ltb-false old_bytes o.b p.1;
      same_size = h.same_size;
      some_segments = h.some_segments;
      segments_fit = h.segments_fit;
      whole = h.whole;
    }

-- lengths stand in fields that hold the largest of them
pub Lengths-Below : (most w : ℕ) (ks : List ℕ) → suc most ≤ 2 ^ w → Lengths most ks → Below (2 ^ w) ks
Lengths-Below most w [] room done = λ i. omega (arith, room)
Lengths-Below most w (k ∷ ks) room (more l m h) = Below-cons k ks (omega arith) (Lengths-Below most w ks room h)

pub Lengths-first : {most : ℕ} (ks : List ℕ) → Lengths most ks → 1 ≤ length ks → (2 ≤ get_or ks 0 0) × (get_or ks 0 0 ≤ most)
Lengths-first [] done h = absurd (omega arith)
Lengths-first (k ∷ ks) (more l m h) e = (l, m)

-- an order within the limits of an edition is within those of the calls
pub edition_Ordered : (e : ℕ) (o : Order) → test_in e o ≡ Ok tt → Ordered o false
edition_Ordered e o fine = go (eqb e 3) fine
  where
    go : (t : Bool) → cond t (order_test o false (Ok tt)) (test_within old_length old_bytes o false (Ok tt)) ≡ Ok tt → Ordered o false
    go true f = order_fine o false f
    go false f = Within-more old_length old_bytes most_length most_bytes o (omega arith) (omega arith) (fine_Within old_length old_bytes o false f)

-- an order within the limits of an edition that lists its lengths fits its fields
pub Fits-in : (e : ℕ) (o : Order) → lists e ≡ true → test_in e o ≡ Ok tt → Fits e o
Fits-in e o listed fine = go (eqb e 2) (eqb e 3) refl refl listed
  where
    fits2 : Within old_length old_bytes o false → Fits 2 o
    fits2 h = record { edition = omega arith; bytes = omega (arith, h.bytes_fit); count = omega (arith, h.segments_fit); lengths = Lengths-Below old_length 7 o.lengths (omega arith) h.lengths }

    fits3 : Ordered o false → Fits 3 o
    fits3 h = record { edition = omega arith; bytes = omega (arith, h.bytes_fit); count = omega (arith, h.segments_fit); lengths = Lengths-Below most_length 9 o.lengths (omega arith) h.lengths }

    go : (x y : Bool) → eqb e 2 ≡ x → eqb e 3 ≡ y → (x || y) ≡ true → Fits e o
    go true y p q r = let two = eqb-true e 2 p in rw two (fits2 (fine_Within old_length old_bytes o false (ap (λ (n : ℕ). test_in n o) (sym two) ∙ fine)))
    go false true p q r = let three = eqb-true e 3 q in rw three (fits3 (order_fine o false (ap (λ (n : ℕ). test_in n o) (sym three) ∙ fine)))
    go false false p q r = let z : ◌≡◌ {A = ℕ} 0 1 = cc in absurd (omega arith)

-- Lengths that are equal

and-true : (a b : Bool) → (a && b) ≡ true → (a ≡ true) × (b ≡ true)
and-true true b e = (refl, e)
and-true false b e = let z : ◌≡◌ {A = ℕ} 0 1 = cc in absurd (omega arith)

all_replicate : (k : ℕ) (ks : List ℕ) → all_are k ks ≡ true → ks ≡ replicate (length ks) k
unfolding all_are
all_replicate k [] e = refl
all_replicate k (x ∷ ks) e =
    let p = and-true (eqb x k) (all_are k ks) e in
    λ i. eqb-true x k p.0 i ∷ all_replicate k ks p.1 i

sum-replicate : (n k : ℕ) → sum (replicate n k) ≡ n * k
unfolding sum
sum-replicate zero k = omega arith
sum-replicate (suc n) k = omega (arith, sum-replicate n k)

-- equal lengths are the first as often as it goes into 4B
pub repeated-equal : (o : Order) → Within old_length old_bytes o false → equal o.lengths ≡ true → repeated (get_or o.lengths 0 0) o.b ≡ o.lengths
repeated-equal o h e =
    let ks = o.lengths in
    let k = get_or ks 0 0 in
    let same = all_replicate k ks (and-true (not (outside 1 most_segments (length ks))) (all_are k ks) e).1 in
    let total : 4 * o.b ≡ length ks * k = sym h.whole ∙ ap sum same ∙ sum-replicate (length ks) k in
    let times : 4 * o.b / k ≡ length ks = div-eq_of_eq-mul_left (omega (arith, Lengths-first ks h.lengths h.some_segments)) total in
    let count : 1 + (4 * o.b / k - 1) ≡ length ks = omega (arith, times, h.some_segments) in
    ap (λ (n : ℕ). replicate n k) count ∙ sym same

all_are_lem : (n k : ℕ) → all_are k (replicate n k) ≡ true
unfolding all_are
all_are_lem zero k = refl
all_are_lem (suc n) k = rw (eq-eqb k k refl) (all_are_lem n k)

pub equal-replicate : (n k : ℕ) → 1 ≤ n → n ≤ most_segments → equal (replicate n k) ≡ true
equal-replicate n k some few =
    rw (length-replicate n k, le-ltb n 1 some, le-ltb most_segments n few, get_or-replicate n 0 k 0 some) (all_are_lem n k)

-- The fields of an order's label

-- in an old edition for equal lengths
pub bits_equal : (o : Order) → equal o.lengths ≡ true → old_bits o ≡ edition1 (get_or o.lengths 0 0) o.b
bits_equal o e = rw e

-- in an old edition for other lengths
pub bits_other : (o : Order) → equal o.lengths ≡ false → old_bits o ≡ listing 2 o
bits_other o e = rw e

-- in the oldest edition that carries the order
pub bits_old : (o : Order) → too_large o ≡ false → label_bits o ≡ old_bits o
bits_old o e = ap (λ (t : Bool). cond t (listing 3 o) (old_bits o)) e

pub bits_large : (o : Order) → too_large o ≡ true → label_bits o ≡ listing 3 o
bits_large o e = ap (λ (t : Bool). cond t (listing 3 o) (old_bits o)) e

-- how many bytes a word has
pub length-in_bytes : (w : Word) → length (in_bytes w) ≡ bytes_for (length w)
length-in_bytes w = length-from_bits 8 (bytes_for (length w)) _

-- How many bytes a label needs

-- how many bits B and a length have in any edition
pub record Widths (e : ℕ) : Type 0 where
  pub bytes_least : 8 ≤ bytes_bits e
  pub bytes_most : bytes_bits e ≤ 10
  pub length_least : 7 ≤ length_bits e
  pub length_most : length_bits e ≤ 9

pub widths : (e : ℕ) → Widths e
widths e = go (eqb e 3) refl
  where
    go : (t : Bool) → eqb e 3 ≡ t → Widths e
    go true q = record { bytes_least = rw q (omega arith); bytes_most = rw q (omega arith); length_least = rw q (omega arith); length_most = rw q (omega arith) }
    go false q = record { bytes_least = rw q (omega arith); bytes_most = rw q (omega arith); length_least = rw q (omega arith); length_most = rw q (omega arith) }

-- three at least
pub needed_least : (label : List ℕ) → 3 ≤ needed label
needed_least label = go (lists (edition_of label)) (bytes_bits (edition_of label)) (widths (edition_of label)).bytes_least
  where
    go : (t : Bool) (w : ℕ) → 8 ≤ w → 3 ≤ cond t (bytes_for (11 + w + length_bits (edition_of label) * count_in label)) 4
    go true w h = omega arith
    go false w h = omega arith

-- 127 lengths of 9 bits end at bit 1,164
pub end_most : (label : List ℕ) → end_of_lengths label ≤ 1164
end_most label =
    let w = widths (edition_of label) in
    let few : count_in label ≤ 127 = omega (arith, number_least 7 (drop (4 + bytes_bits (edition_of label)) (in_bits 8 label))) in
    omega (arith, w.bytes_most, mul-le-mul w.length_most few)

-- 146 at most
pub needed_most : (label : List ℕ) → needed label ≤ 146
needed_most label = go (lists (edition_of label))
  where
    go : (t : Bool) → cond t (bytes_for (end_of_lengths label)) 4 ≤ 146
    go true = omega (arith, end_most label)
    go false = omega arith

-- An order by value

-- an answer holds its order
pub order_in_lem : (o : Order) → order_in (labelled o) ≡ o
order_in_lem o = ap (λ (ks : List ℕ). order ks o.b) (take_at o.lengths _ (length o.lengths) refl)

-- its lengths stand in its array
pub labelled_inside : (o : Order) → (labelled o).count ≤ length (labelled o).lengths
labelled_inside o = simp length-append (omega arith)

pub label_inside : (label : List ℕ) → IfOk (label_read label) (λ l. l.count ≤ length l.lengths)
label_inside label = go (label_read_test label) refl
  where
    go : (t : Result (Unit {0}) Refusal) → label_read_test label ≡ t → IfOk (label_read label) (λ l. l.count ≤ length l.lengths)
    go (Ok _) e = rw e (labelled_inside (order_of label))
    go (Err r) e = rw e tt
