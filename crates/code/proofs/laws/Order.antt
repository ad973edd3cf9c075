-- Laws of the tests of an order, in the order of their definitions.
--   Lengths-not, not_Lengths             lengths of which none is outside its limits
--   cut_not                              lengths that cut the symbols
--   order_length, order_size, order_cut  the first test that is met tells the refusal
--   Within, Ordered                      what holds of an order that is taken
--   fine_Within, order_fine              an order with nothing against it
--   Within-fine                          what holds of it is enough
--   Within-more                          it is taken by larger limits too
--   order_then                           a further test behind those of an order that is taken
--   order_refused                        a further test behind those of an order that is refused
use Rattle.std.specs.Prelude.{Result, Ok, Err, ◌≡◌, refl, Bool, true, false, not, ◌||◌, List, [], ◌∷◌, ℕ, ◌*◌, ◌≤◌, eqb, length}
use Rattle.std.proofs.Common.{arith, le-ltb, eq-eqb, eqb-true}
use Rattle.std.proofs.lemmas.Bool.{not-false}
use Rattle.code.specs.declared.Refusal.{Refusal}
use Rattle.code.specs.declared.Refusal.TheVariants.{SegmentLength, MessageSize, Cut}
use Rattle.code.specs.Limits.{least_length, most_length, most_bytes, most_segments}
use Rattle.code.specs.Refusals.{refuse, outside}
use Rattle.code.proofs.laws.Refusals.{or-false, outside_not}
use Rattle.code.specs.Layout.{sum, Lengths, done, more}
use Rattle.code.proofs.laws.Layout.{Lengths-within}
use Rattle.code.specs.Order.{Order, bad_length, bad_cut, test_within, order_test}

pub Lengths-not : (most : ℕ) (ks : List ℕ) → bad_length most ks ≡ false → Lengths most ks
unfolding bad_length
Lengths-not most [] e = done
Lengths-not most (k ∷ ks) e =
    let p = or-false (outside least_length most k) (bad_length most ks) e in
    let q = outside_not least_length most k p.0 in
    more q.0 q.1 (Lengths-not most ks p.1)

pub not_Lengths : (most : ℕ) (ks : List ℕ) → Lengths most ks → bad_length most ks ≡ false
unfolding bad_length
not_Lengths most [] done = refl
not_Lengths most (k ∷ ks) (more l m h) = rw (le-ltb k least_length l, le-ltb most k m) (not_Lengths most ks h)

pub cut_not : (o : Order) → bad_cut o ≡ false → (1 ≤ length o.lengths) × (length o.lengths ≤ most_segments) × (sum o.lengths ≡ 4 * o.b)
cut_not o e =
    let p = or-false (outside 1 most_segments (length o.lengths)) (not (eqb (sum o.lengths) (4 * o.b))) e in
    let q = outside_not 1 most_segments (length o.lengths) p.0 in
    (q.0, q.1, eqb-true (sum o.lengths) (4 * o.b) (not-false _ p.1))

-- the first of the tests 1, 2 and 3 that is met tells the refusal
module _ (long many : ℕ) (o : Order) (other : Bool) (next : Result (Unit {0}) Refusal) where
  pub order_length : bad_length long o.lengths ≡ true → test_within long many o other next ≡ Err SegmentLength
  order_length e = rw e

  pub order_size : bad_length long o.lengths ≡ false → (outside 1 many o.b || other) ≡ true → test_within long many o other next ≡ Err MessageSize
  order_size e f = rw (e, f)

  pub order_cut : bad_length long o.lengths ≡ false → (outside 1 many o.b || other) ≡ false → bad_cut o ≡ true → test_within long many o other next ≡ Err Cut
  order_cut e f g = rw (e, f, g)

-- what holds of an order that is taken, where a length is at most `long` and B at most `many`
pub record Within (long many : ℕ) (o : Order) (other : Bool) : Type 0 where
  pub lengths : Lengths long o.lengths
  pub some_bytes : 1 ≤ o.b
  pub bytes_fit : o.b ≤ many
  pub same_size : other ≡ false
  pub some_segments : 1 ≤ length o.lengths
  pub segments_fit : length o.lengths ≤ most_segments
  pub whole : sum o.lengths ≡ 4 * o.b

-- the same by the limits of the calls
abbrev pub Ordered : Order → Bool → Type 0
Ordered o other = Within most_length most_bytes o other

three_fine : (x y z : Bool) (r s t : Refusal) → refuse x r (refuse y s (refuse z t (Ok tt))) ≡ Ok tt → (x ≡ false) × (y ≡ false) × (z ≡ false)
three_fine true y z r s t e = let n : ◌≡◌ {A = ℕ} 0 1 = cc in absurd (omega arith)
three_fine false true z r s t e = let n : ◌≡◌ {A = ℕ} 0 1 = cc in absurd (omega arith)
three_fine false false true r s t e = let n : ◌≡◌ {A = ℕ} 0 1 = cc in absurd (omega arith)
three_fine false false false r s t e = (refl, refl, refl)

pub fine_Within : (long many : ℕ) (o : Order) (other : Bool) → test_within long many o other (Ok tt) ≡ Ok tt → Within long many o other
fine_Within long many o other e =
    let p = three_fine (bad_length long o.lengths) (outside 1 many o.b || other) (bad_cut o) SegmentLength MessageSize Cut e in
    let q = or-false (outside 1 many o.b) other p.1 in
    let bytes_of = outside_not 1 many o.b q.0 in
    let cut_of = cut_not o p.2 in
    record {
      lengths = Lengths-not long o.lengths p.0;
      some_bytes = bytes_of.0;
      bytes_fit = bytes_of.1;
      same_size = q.1;
      some_segments = cut_of.0;
      segments_fit = cut_of.1;
      whole = cut_of.2;
    }

pub order_fine : (o : Order) (other : Bool) → order_test o other (Ok tt) ≡ Ok tt → Ordered o other
order_fine o other e = fine_Within most_length most_bytes o other e

-- what holds of an order that is taken is enough
pub Within-fine : (long many : ℕ) (o : Order) → Within long many o false → test_within long many o false (Ok tt) ≡ Ok tt
Within-fine long many o h =
    let ks = o.lengths in
    let bytes_of : (outside 1 many o.b || false) ≡ false = rw (le-ltb o.b 1 h.some_bytes, le-ltb many o.b h.bytes_fit) in
    let cut_of : bad_cut o ≡ false = rw (le-ltb (length ks) 1 h.some_segments, le-ltb most_segments (length ks) h.segments_fit, eq-eqb (sum ks) (4 * o.b) h.whole) in
    rw (not_Lengths long ks h.lengths, bytes_of, cut_of)

-- an order that is taken is taken by larger limits too
pub Within-more : (long many longer more_many : ℕ) (o : Order) → long ≤ longer → many ≤ more_many → Within long many o false → Within longer more_many o false
Within-more long many longer more_many o l m h =
    record {
      lengths = Lengths-within h.lengths l;
      some_bytes = h.some_bytes;
      bytes_fit = omega (arith, h.bytes_fit);
      same_size = h.same_size;
      some_segments = h.some_segments;
      segments_fit = h.segments_fit;
      whole = h.whole;
    }

-- a further test behind three that are not met
three_then : (x y z : Bool) (r s t : Refusal) (next : Result (Unit {0}) Refusal) → refuse x r (refuse y s (refuse z t (Ok tt))) ≡ Ok tt → refuse x r (refuse y s (refuse z t next)) ≡ next
three_then x y z r s t next e = let p = three_fine x y z r s t e in rw (p.0, p.1, p.2)

-- a further test behind three of which one is met
three_refused : (x y z : Bool) (r s t u : Refusal) (next : Result (Unit {0}) Refusal) → refuse x r (refuse y s (refuse z t (Ok tt))) ≡ Err u → refuse x r (refuse y s (refuse z t next)) ≡ Err u
three_refused true y z r s t u next e = e
three_refused false true z r s t u next e = e
three_refused false false true r s t u next e = e
three_refused false false false r s t u next e = let n : ◌≡◌ {A = ℕ} 0 1 = cc in absurd (omega arith)

pub order_then : (o : Order) (other : Bool) (next : Result (Unit {0}) Refusal) → order_test o other (Ok tt) ≡ Ok tt → order_test o other next ≡ next
order_then o other next e = three_then (bad_length most_length o.lengths) (outside 1 most_bytes o.b || other) (bad_cut o) SegmentLength MessageSize Cut next e

pub order_refused : (o : Order) (other : Bool) (u : Refusal) (next : Result (Unit {0}) Refusal) → order_test o other (Ok tt) ≡ Err u → order_test o other next ≡ Err u
order_refused o other u next e = three_refused (bad_length most_length o.lengths) (outside 1 most_bytes o.b || other) (bad_cut o) SegmentLength MessageSize Cut u next e
