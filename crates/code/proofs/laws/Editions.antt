-- The proofs of what holds between the editions of a label.
--   reads_as_before, turned_down, oldest, there_and_back, converted_once, too_large_first, apart
--   converted_most   a label on the other side has at most 75 bytes
use Rattle.std.specs.Prelude.{Result, Ok, Err, ◌≡◌, refl, Bool, true, false, cond, ◌&&◌, List, [], ◌++◌, ℕ, ◌+◌, ◌*◌, ◌≤◌, eqb, ltb, length, take, drop}
use Rattle.std.proofs.Common.{sym, ap, ◌∙◌, append-nil, arith, le-ltb, eq-eqb, ne_eqb, eqb-true, length-take-le}
use Rattle.code.specs.declared.Refusal.{Refusal}
use Rattle.code.specs.declared.Refusal.TheVariants.{ShortBuffer, TooLarge}
use Rattle.code.specs.Limits.{most_length, most_bytes, most_segments, old_length, old_bytes}
use Rattle.code.specs.Symbols.{Below}
use Rattle.code.specs.Order.{Order, order, test_within, order_test, Taken}
use Rattle.code.proofs.laws.Order.{fine_Within, order_fine, Within-more}
use Rattle.code.specs.Refusals.{refuse, unless_refused}
use Rattle.code.specs.Buffers.{over_front}
use Rattle.code.specs.Label.{in_bits, bytes_for, in_bytes, length_bits, listing, too_large, old_bits, label_bytes, equal, edition_of, lists, bytes_in, count_in, lengths_at, lengths_in, order_of, needed, label_read_test, label_read}
use Rattle.code.proofs.laws.Label.{not_large, Within-old, edition_Ordered}
use Rattle.code.proofs.laws.LabelWritten.{Reads-old, Reads-third, listing_most, old_most, oldest_for, label_Reads, label_order}
use Rattle.code.proofs.laws.LabelTaken.{Good, label_Good, old_fine, label_back, third_back}
use Rattle.code.proofs.laws.Bits.{length-from_bits}
use Rattle.code.specs.OldLabel.{old_read}
use Rattle.code.specs.Conversion.{converted, convert_test, convert_call}
use Rattle.code.specs.Editions.{ReadsAsBefore, TurnedDown, Oldest, ThereAndBack, ConvertedOnce, TooLargeFirst, Apart}

-- a label of edition 3 that is taken has four bytes at least
third_long : (label : List ℕ) → edition_of label ≡ 3 → Good label → 4 ≤ length label
third_long label e h =
    let third_is : eqb (edition_of label) 3 ≡ true = rw e in
    let listed : lists (edition_of label) ≡ true = rw e in
    let fine : Taken (order_of label) = sym (ap (λ (t : Bool). cond t (order_test (order_of label) false (Ok tt)) (test_within old_length old_bytes (order_of label) false (Ok tt))) third_is) ∙ h.fine in
    let carried : order_of label ≡ order (lengths_in label) (bytes_in label) = rw listed in
    let long : needed label ≡ bytes_for (21 + 9 * count_in label) = rw e in
    let count : length (order_of label).lengths ≡ count_in label =
    ap (λ (o : Order). length o.lengths) carried ∙ length-from_bits (length_bits (edition_of label)) (count_in label) (drop (lengths_at label) (in_bits 8 label)) in
    omega (arith, h.room, long, count, (order_fine (order_of label) false fine).some_segments)

pub reads_as_before : ReadsAsBefore
reads_as_before label other = go (eqb (edition_of label) 2) refl
  where
    third_not : eqb (edition_of label) 3 ≡ false
    third_not = ne_eqb (edition_of label) 3 other

    go : (t : Bool) → eqb (edition_of label) 2 ≡ t → label_read label ≡ old_read label
    go true e = rw (e, third_not)
    go false e = rw (e, third_not)

-- the reader of that time knows no edition 3, and four bytes are there
pub turned_down : TurnedDown
turned_down label e taken =
    let h = label_Good label taken in
    let second_not : eqb (edition_of label) 2 ≡ false = rw e in
    let first_not : eqb (edition_of label) 1 ≡ false = rw e in
    let four : 4 ≤ length label = third_long label e h in
    rw (second_not, first_not, le-ltb (length label) 4 four)

pub oldest : Oldest
oldest =
    record {
      first = λ o t large same. edition o t ∙ rw (large, same);
      second = λ o t large same. edition o t ∙ rw (large, same);
      third = λ o t large. edition o t ∙ rw large;
    }
  where
    edition : (o : Order) → Taken o → edition_of (label_bytes o) ≡ oldest_for o
    edition o t = ap edition_of (sym (append-nil (label_bytes o))) ∙ (label_Reads o [] t).edition

-- the tests behind those of a label that is taken
tests_behind : (label : List ℕ) (n : ℕ) → label_read_test label ≡ Ok tt → convert_test label n ≡ refuse (eqb (edition_of label) 3 && too_large (order_of label)) TooLarge (refuse (ltb n (length (converted label))) ShortBuffer (Ok tt))
tests_behind label n taken = rw taken

pub converted_once : ConvertedOnce
converted_once label n other taken room =
    tests_behind label n taken
    ∙ (λ i. refuse (ne_eqb (edition_of label) 3 other i && too_large (order_of label)) TooLarge (refuse (le-ltb n (length (converted label)) room i) ShortBuffer (Ok tt)))

pub too_large_first : TooLargeFirst
too_large_first label n e taken large =
    tests_behind label n taken ∙ (λ i. refuse (eq-eqb (edition_of label) 3 e i && large i) TooLarge (refuse (ltb n (length (converted label))) ShortBuffer (Ok tt)))

two_fine : (x y : Bool) (r s : Refusal) → refuse x r (refuse y s (Ok tt)) ≡ Ok tt → x ≡ false
two_fine true y r s e = let n : ◌≡◌ {A = ℕ} 0 1 = cc in absurd (omega arith)
two_fine false y r s e = refl

-- a label on the other side has at most 75 bytes
pub converted_most : (label : List ℕ) → label_read_test label ≡ Ok tt → length (converted label) ≤ 75
converted_most label taken = go (eqb (edition_of label) 3)
  where
    few : length (order_of label).lengths ≤ most_segments
    few = (edition_Ordered (edition_of label) (order_of label) (label_Good label taken).fine).segments_fit

    go : (third : Bool) → length (in_bytes (cond third (old_bits (order_of label)) (listing 3 (order_of label)))) ≤ 75
    go true = old_most (order_of label) few
    go false = listing_most 3 (order_of label) few

-- what holds of a label that is converted: it is taken, and one of edition 3 is not too large
converted_taken : (label : List ℕ) (n : ℕ) → convert_test label n ≡ Ok tt → (label_read_test label ≡ Ok tt) × ((eqb (edition_of label) 3 && too_large (order_of label)) ≡ false)
converted_taken label n e = go (label_read_test label) refl
  where
    go : (t : Result (Unit {0}) Refusal) → label_read_test label ≡ t → (label_read_test label ≡ Ok tt) × ((eqb (edition_of label) 3 && too_large (order_of label)) ≡ false)
    go (Ok _) p = (p, two_fine (eqb (edition_of label) 3 && too_large (order_of label)) (ltb n (length (converted label))) TooLarge ShortBuffer (sym (tests_behind label n p) ∙ e))
    go (Err r) p = let q : Err r ≡ (Ok tt) = ap (λ (t : Result (Unit {0}) Refusal). unless_refused t (refuse (eqb (edition_of label) 3 && too_large (order_of label)) TooLarge (refuse (ltb n (length (converted label))) ShortBuffer (Ok tt))) Err) (sym p) ∙ e in let z : ◌≡◌ {A = ℕ} 0 1 = cc in absurd (omega arith)

-- a conversion that is taken
convert_fine : (label out : List ℕ) → convert_test label (length out) ≡ Ok tt → convert_call label out ≡ (Ok (length (converted label)), over_front (converted label) out)
convert_fine label out e = rw e

-- from a label m that carries the same order on the other side the bytes of the label come back
back : (label m out : List ℕ) → Good label → converted m ≡ take (needed label) label → needed label ≤ length out → label_read_test m ≡ Ok tt → (eqb (edition_of m) 3 && too_large (order_of m)) ≡ false → convert_call m out ≡ (Ok (needed label), over_front (take (needed label) label) out)
back label m out h same room taken small =
    let n : length (converted m) ≡ needed label = ap length same ∙ length-take-le (needed label) label h.room in
    let t : convert_test m (length out) ≡ (Ok tt) =
    tests_behind m (length out) taken ∙ (λ i. refuse (small i) TooLarge (refuse (le-ltb (length out) (length (converted m)) (omega (arith, n, room)) i) ShortBuffer (Ok tt))) in
    convert_fine m out t ∙ (λ i. (Ok (n i), over_front (same i) out))

-- there the label has edition 3 and the same order
from_old : (label middle out : List ℕ) → Below 256 label → (edition_of label ≡ 3 → ⊥) → label_read_test label ≡ Ok tt → needed label ≤ length out → convert_call (over_front (converted label) middle) out ≡ (Ok (needed label), over_front (take (needed label) label) out)
from_old label middle out small other taken room =
    let o = order_of label in
    let h = label_Good label taken in
    let within = fine_Within old_length old_bytes o false (old_fine label other h) in
    let listed : converted label ≡ in_bytes (listing 3 o) = ap (λ (t : Bool). in_bytes (cond t (old_bits o) (listing 3 o))) (ne_eqb (edition_of label) 3 other) in
    let m = over_front (in_bytes (listing 3 o)) middle in
    let r = Reads-third o (drop (length (in_bytes (listing 3 o))) middle) (Within-more old_length old_bytes most_length most_bytes o (omega arith) (omega arith) within) in
    let same : converted m ≡ take (needed label) label =
    (λ i. in_bytes (cond (eqb (r.edition i) 3) (old_bits (r.carried i)) (listing 3 (r.carried i)))) ∙ sym (label_back label small taken other) in
    let fits : (eqb (edition_of m) 3 && too_large (order_of m)) ≡ false = (λ i. eqb (r.edition i) 3 && too_large (r.carried i)) ∙ not_large o within in
    ap (λ (u : List ℕ). convert_call (over_front u middle) out) listed ∙ back label m out h same room r.taken fits

-- there it has an old edition and the same order
from_third : (label middle out : List ℕ) → Below 256 label → edition_of label ≡ 3 → label_read_test label ≡ Ok tt → too_large (order_of label) ≡ false → needed label ≤ length out → convert_call (over_front (converted label) middle) out ≡ (Ok (needed label), over_front (take (needed label) label) out)
from_third label middle out small e taken not_too room =
    let o = order_of label in
    let h = label_Good label taken in
    let ordered = edition_Ordered (edition_of label) o h.fine in
    let third_is = eq-eqb (edition_of label) 3 e in
    let put : converted label ≡ in_bytes (old_bits o) = ap (λ (t : Bool). in_bytes (cond t (old_bits o) (listing 3 o))) third_is in
    let m = over_front (in_bytes (old_bits o)) middle in
    let r = Reads-old o (drop (length (in_bytes (old_bits o))) middle) (Within-old o ordered not_too) in
    let old_is : eqb (edition_of m) 3 ≡ false = ap (λ (n : ℕ). eqb n 3) r.edition ∙ first_or_second (equal o.lengths) in
    let same : converted m ≡ take (needed label) label =
    (λ i. in_bytes (cond (old_is i) (old_bits (order_of m)) (listing 3 (r.carried i)))) ∙ sym (third_back label small taken e) in
    let fits : (eqb (edition_of m) 3 && too_large (order_of m)) ≡ false = ap (λ (t : Bool). t && too_large (order_of m)) old_is in
    ap (λ (u : List ℕ). convert_call (over_front u middle) out) put ∙ back label m out h same room r.taken fits
  where
    first_or_second : (t : Bool) → eqb (cond t 1 2) 3 ≡ false
    first_or_second true = refl
    first_or_second false = refl

pub there_and_back : ThereAndBack
there_and_back label middle out small e room = ap (λ (p : Result ℕ Refusal × List ℕ). convert_call p.1 out) (convert_fine label middle e) ∙ go (eqb (edition_of label) 3) refl
  where
    t : (label_read_test label ≡ Ok tt) × ((eqb (edition_of label) 3 && too_large (order_of label)) ≡ false)
    t = converted_taken label (length middle) e

    go : (third : Bool) → eqb (edition_of label) 3 ≡ third → convert_call (over_front (converted label) middle) out ≡ (Ok (needed label), over_front (take (needed label) label) out)
    go true p = from_third label middle out small (eqb-true (edition_of label) 3 p) t.0 (ap (λ (b : Bool). b && too_large (order_of label)) (sym p) ∙ t.1) room
    go false p = from_old label middle out small (λ q. differ (sym p ∙ eq-eqb (edition_of label) 3 q)) t.0 room
      where
        differ : ◌≡◌ {A = Bool} false true → ⊥
        differ q = let z : ◌≡◌ {A = ℕ} 0 1 = cc in omega arith

pub apart : Apart
apart o p t u same = sym (label_order o [] t) ∙ ap (λ (label : List ℕ). order_of (label ++ [])) same ∙ label_order p [] u
