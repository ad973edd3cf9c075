-- What is taken as a label is the label of its order.
--   Good, label_Good        what holds of a label that is taken
--   old_fine                one of an old edition carries an order within the old limits
--   Edition, Edition-of     the editions of labels that are taken
--   label_back, third_back  its bytes are those of its order's label, in an old edition or in edition 3
use Rattle.std.specs.Prelude.{Result, Ok, ◌≡◌, refl, Bool, true, false, cond, not, ◌&&◌, ◌||◌, List, ℕ, ◌+◌, ◌-◌, ◌*◌, ◌/◌, ◌≤◌, eqb, ltb, length, get_or, take, drop}
use Rattle.std.proofs.Common.{sym, ap, ◌∙◌, arith, ne_eqb, ltb-false, eqb-true}
use Rattle.std.proofs.lemmas.Bool.{not-false}
use Rattle.std.proofs.lemmas.List.{length-replicate, get_or-replicate}
use Rattle.code.specs.declared.Refusal.{Refusal}
use Rattle.code.specs.declared.Refusal.TheVariants.{ShortBuffer, Label}
use Rattle.code.specs.Limits.{most_segments, old_length, old_bytes}
use Rattle.code.specs.Symbols.{Below}
use Rattle.code.specs.Refusals.{refuse}
use Rattle.code.proofs.laws.Refusals.{or-false}
use Rattle.code.specs.Order.{Order, order, test_within, order_test}
use Rattle.code.proofs.laws.Order.{fine_Within}
use Rattle.code.proofs.laws.Bits.{number_zeros, length-from_bits, bytes_back}
use Rattle.code.proofs.laws.LabelFields.{length-edition1, length-listing, edition1_back, listing_back}
use Rattle.code.specs.Label.{in_bits, bytes_for, spare, in_bytes, equal, edition1, length_bits, listing, old_bits, field, edition_of, length_in, bytes_in1, lists, bytes_in, count_in, lengths_at, end_of_lengths, lengths_in, needed, repeated, order_of, bad1, bad_end, bad_label, test_in, label_read_test}
use Rattle.code.proofs.laws.Label.{equal-replicate, bits_equal, bits_other}

two_fine : (x y : Bool) (r s : Refusal) (t : Result (Unit {0}) Refusal) → refuse x r (refuse y s t) ≡ Ok tt → (x ≡ false) × (y ≡ false) × (t ≡ Ok tt)
two_fine true y r s t e = let n : ◌≡◌ {A = ℕ} 0 1 = cc in absurd (omega arith)
two_fine false true r s t e = let n : ◌≡◌ {A = ℕ} 0 1 = cc in absurd (omega arith)
two_fine false false r s t e = (refl, refl, e)

-- what holds of a label that is taken
pub record Good (label : List ℕ) : Type 0 where
  pub room : needed label ≤ length label
  pub good : bad_label label ≡ false
  pub fine : test_in (edition_of label) (order_of label) ≡ Ok tt

pub label_Good : (label : List ℕ) → label_read_test label ≡ Ok tt → Good label
label_Good label e =
    let p = two_fine (ltb (length label) (needed label)) (bad_label label) ShortBuffer Label (test_in (edition_of label) (order_of label)) e in
    record { room = ltb-false (length label) (needed label) p.0; good = p.1; fine = p.2 }

-- a label of an old edition carries an order within the old limits
pub old_fine : (label : List ℕ) → (edition_of label ≡ 3 → ⊥) → Good label → test_within old_length old_bytes (order_of label) false (Ok tt) ≡ Ok tt
old_fine label other h =
    let o = order_of label in
    sym (ap (λ (t : Bool). cond t (order_test o false (Ok tt)) (test_within old_length old_bytes o false (Ok tt))) (ne_eqb (edition_of label) 3 other)) ∙ h.fine

module _ (bs : List ℕ) (small : Below 256 bs) (h : Good bs) where
  -- the bytes of a label that lists its lengths are those of a listing of its order
  listing_same : lists (edition_of bs) ≡ true → take (needed bs) bs ≡ in_bytes (listing (edition_of bs) (order_of bs))
  listing_same e =
      let end = end_of_lengths bs in
      let o = order (lengths_in bs) (bytes_in bs) in
      let carried : order_of bs ≡ o = rw e in
      let n : needed bs ≡ bytes_for end = rw e in
      let g = or-false (bad_end bs) (eqb (edition_of bs) 2 && equal (lengths_in bs)) (rw e at h.good) in
      let behind : field end (spare end) bs ≡ 0 = eqb-true (field end (spare end) bs) 0 (not-false _ g.0) in
      let m : length (listing (edition_of bs) o) ≡ end =
      length-listing (edition_of bs) o ∙ ap (λ (n : ℕ). lengths_at bs + length_bits (edition_of bs) * n) (length-from_bits (length_bits (edition_of bs)) (count_in bs) (drop (lengths_at bs) (in_bits 8 bs))) in
      ap (λ (n : ℕ). take n bs) n
      ∙ bytes_back bs (listing (edition_of bs) o) end small m (omega (arith, h.room, n)) (listing_back bs (omega (arith, h.room, n))) behind
      ∙ ap (λ (p : Order). in_bytes (listing (edition_of bs) p)) (sym carried)

  -- those of a label of edition 1 are those of equal lengths
  first_same : edition_of bs ≡ 1 → take (needed bs) bs ≡ in_bytes (old_bits (order_of bs))
  first_same e =
      let k = length_in bs in
      let b = bytes_in1 bs in
      let o = order (repeated k b) b in
      let unlisted : lists (edition_of bs) ≡ false = rw e in
      let known : eqb (edition_of bs) 1 ≡ true = rw e in
      let carried : order_of bs ≡ o = rw unlisted in
      let n : needed bs ≡ 4 = rw unlisted in
      let spare_of : bad1 bs ≡ false = rw (unlisted, known) at h.good in
      let behind : field 19 13 bs ≡ 0 = eqb-true (field 19 13 bs) 0 (not-false _ spare_of) in
      let fine : test_within old_length old_bytes (order_of bs) false (Ok tt) ≡ Ok tt = old_fine bs (λ f. omega (arith, e, f)) h in
      let times = 1 + (4 * b / k - 1) in
      let few : times ≤ most_segments = omega (arith, (fine_Within old_length old_bytes (order_of bs) false fine).segments_fit, ap (λ (o : Order). length o.lengths) carried, length-replicate times k) in
      let same : get_or (repeated k b) 0 0 ≡ k = get_or-replicate times 0 k 0 (omega arith) in
      let l : old_bits (order_of bs) ≡ edition1 k b =
      ap old_bits carried ∙ bits_equal o (equal-replicate times k (omega arith) few) ∙ ap (λ (k : ℕ). edition1 k b) same in
      let r : 4 ≤ length bs = omega (arith, h.room, n) in
      ap (λ (n : ℕ). take n bs) n ∙ bytes_back bs (edition1 k b) 32 small (length-edition1 k b) r (edition1_back bs r e behind) (number_zeros 0) ∙ ap in_bytes (sym l)

  -- those of a label of edition 2 are those of other lengths
  second_same : edition_of bs ≡ 2 → take (needed bs) bs ≡ in_bytes (old_bits (order_of bs))
  second_same e =
      let listed : lists (edition_of bs) ≡ true = rw e in
      let carried : order_of bs ≡ order (lengths_in bs) (bytes_in bs) = rw listed in
      let g = or-false (bad_end bs) (eqb (edition_of bs) 2 && equal (lengths_in bs)) (rw listed at h.good) in
      let same : eqb (edition_of bs) 2 ≡ true = rw e in
      let other : equal (order_of bs).lengths ≡ false = ap (λ (o : Order). equal o.lengths) carried ∙ ap (λ (t : Bool). t && equal (lengths_in bs)) (sym same) ∙ g.1 in
      listing_same listed ∙ ap (λ (n : ℕ). in_bytes (listing n (order_of bs))) e ∙ ap in_bytes (sym (bits_other (order_of bs) other))

-- the editions of labels that are taken
pub data Edition (label : List ℕ) : Type 0 where
  first : edition_of label ≡ 1 → Edition label
  second : edition_of label ≡ 2 → Edition label
  third : edition_of label ≡ 3 → Edition label

pub Edition-of : (label : List ℕ) → Good label → Edition label
Edition-of label h = go (eqb (edition_of label) 1) (eqb (edition_of label) 2) (eqb (edition_of label) 3) refl refl refl
  where
    unlisted : eqb (edition_of label) 2 ≡ false → eqb (edition_of label) 3 ≡ false → lists (edition_of label) ≡ false
    unlisted f g = rw (f, g)

    go : (x y z : Bool) → eqb (edition_of label) 1 ≡ x → eqb (edition_of label) 2 ≡ y → eqb (edition_of label) 3 ≡ z → Edition label
    go true y z e f g = first (eqb-true (edition_of label) 1 e)
    go false true z e f g = second (eqb-true (edition_of label) 2 f)
    go false false true e f g = third (eqb-true (edition_of label) 3 g)
    go false false false e f g = let bad : ◌≡◌ {A = Bool} true false = ap (λ (t : Bool). not t || bad1 label) (sym e) ∙ ap (λ (t : Bool). cond t (bad_end label || (eqb (edition_of label) 2 && equal (lengths_in label))) (not (eqb (edition_of label) 1) || bad1 label)) (sym (unlisted f g)) ∙ h.good in let n : ◌≡◌ {A = ℕ} 0 1 = cc in absurd (omega arith)

-- what is taken as a label of an old edition is its order's label in those
pub label_back : (bs : List ℕ) → Below 256 bs → label_read_test bs ≡ Ok tt → (edition_of bs ≡ 3 → ⊥) → take (needed bs) bs ≡ in_bytes (old_bits (order_of bs))
label_back bs small e other = go (Edition-of bs h)
  where
    h : Good bs
    h = label_Good bs e

    go : Edition bs → take (needed bs) bs ≡ in_bytes (old_bits (order_of bs))
    go (first f) = first_same bs small h f
    go (second f) = second_same bs small h f
    go (third f) = absurd (other f)

-- what is taken as a label of edition 3 is its order's label in that one
pub third_back : (bs : List ℕ) → Below 256 bs → label_read_test bs ≡ Ok tt → edition_of bs ≡ 3 → take (needed bs) bs ≡ in_bytes (listing 3 (order_of bs))
third_back bs small e f = listing_same bs small (label_Good bs e) (rw f) ∙ ap (λ (n : ℕ). in_bytes (listing n (order_of bs))) f
