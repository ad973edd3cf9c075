-- Laws of what the writer answers and writes.
--   length_strand                            the length of the strand that carries bytes
--   write_refused, write_short, write_fine   which refusal is told
--   ordered-length                           a message that is in order has B bytes
--   short_ordered                            the buffer is tested last
use Rattle.std.specs.Prelude.{Result, Ok, Err, ◌≡◌, refl, ℕ, ◌*◌, ◌<◌, ◌≤◌, Bool, true, false, not, ◌||◌, List, eqb, ltb, length}
use Rattle.std.proofs.Common.{◌∙◌, arith, lt-ltb, le-ltb, eqb-true}
use Rattle.std.proofs.lemmas.Bool.{not-false}
use Rattle.std.proofs.lemmas.List.{length-map}
use Rattle.code.specs.declared.Refusal.{Refusal}
use Rattle.code.specs.declared.Refusal.TheVariants.{SegmentLength, MessageSize, Cut, ShortBuffer}
use Rattle.code.specs.Symbols.{letter_of, symbols}
use Rattle.code.proofs.laws.Symbols.{length-symbols}
use Rattle.code.specs.Layout.{sum, cut, strand, extent}
use Rattle.code.proofs.laws.Layout.{length-strand-cut}
use Rattle.code.specs.Limits.{most_length, most_bytes}
use Rattle.code.specs.Refusals.{refuse, outside}
use Rattle.code.specs.Order.{Order, bad_length, bad_cut, order_test}
use Rattle.code.proofs.laws.Order.{order_fine, order_then, order_refused}
use Rattle.code.specs.Writing.{strand_of, write_test}

-- the strand that carries bytes has the layout's length
pub length_strand : (ks bs : List ℕ) → sum ks ≡ 4 * length bs → length (strand_of ks bs) ≡ extent false ks
unfolding strand_of
length_strand ks bs e = length-map (strand (cut ks (symbols bs))) letter_of ∙ length-strand-cut ks (symbols bs) (omega (arith, length-symbols bs))

module _ (o : Order) (bs : List ℕ) (n : ℕ) where
  -- the tests 1, 2 and 3 of a writing
  abbrev pub ordered : Result (Unit {0}) Refusal
  ordered = order_test o (not (eqb (length bs) o.b)) (Ok tt)

  -- the first of them that is met tells the refusal
  pub write_refused : (u : Refusal) → ordered ≡ Err u → write_test o bs n ≡ Err u
  write_refused u e = order_refused o (not (eqb (length bs) o.b)) u (refuse (ltb n (extent false o.lengths)) ShortBuffer (Ok tt)) e

  -- where none is met, the buffer is tested
  pub write_short : ordered ≡ Ok tt → n < extent false o.lengths → write_test o bs n ≡ Err ShortBuffer
  write_short e h = order_then o (not (eqb (length bs) o.b)) (refuse (ltb n (extent false o.lengths)) ShortBuffer (Ok tt)) e ∙ rw (lt-ltb n (extent false o.lengths) h)

  pub write_fine : ordered ≡ Ok tt → extent false o.lengths ≤ n → write_test o bs n ≡ Ok tt
  write_fine e h = order_then o (not (eqb (length bs) o.b)) (refuse (ltb n (extent false o.lengths)) ShortBuffer (Ok tt)) e ∙ rw (le-ltb n (extent false o.lengths) h)

  -- the message has B bytes
  pub ordered-length : ordered ≡ Ok tt → length bs ≡ o.b
  ordered-length e = eqb-true (length bs) o.b (not-false _ (order_fine o (not (eqb (length bs) o.b)) e).same_size)

-- a short buffer is told only where order and message are
pub short_ordered : (o : Order) (bs : List ℕ) (n : ℕ) → write_test o bs n ≡ Err ShortBuffer → ordered o bs n ≡ Ok tt
short_ordered o bs n e = go (bad_length most_length o.lengths) (outside 1 most_bytes o.b || not (eqb (length bs) o.b)) (bad_cut o) (refuse (ltb n (extent false o.lengths)) ShortBuffer (Ok tt)) e
  where
    go : (p q r : Bool) (next : Result (Unit {0}) Refusal) → refuse p SegmentLength (refuse q MessageSize (refuse r Cut next)) ≡ Err ShortBuffer → refuse p SegmentLength (refuse q MessageSize (refuse r Cut (Ok tt))) ≡ Ok tt
    go true q r next d = let z : ◌≡◌ {A = ℕ} 0 1 = cc in absurd (omega arith)
    go false true r next d = let z : ◌≡◌ {A = ℕ} 0 1 = cc in absurd (omega arith)
    go false false true next d = let z : ◌≡◌ {A = ℕ} 0 1 = cc in absurd (omega arith)
    go false false false next d = refl
