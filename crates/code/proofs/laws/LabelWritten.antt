-- A label that is written is read as its order.
--   Reads                                                    what is read from a label
--   Reads-old, Reads-third                                   a label of an old edition or of edition 3 is read as its order, whatever stands behind it
--   oldest_for, label_Reads                                  so is the label of an order, in the oldest edition that carries it
--   label_Taken, label_order, label_read_lem, label_needed   by parts
--   listing_most, old_most, label_most                       at most 75 bytes are written
use Rattle.std.specs.Prelude.{Ok, ◌≡◌, refl, Bool, true, false, cond, ◌&&◌, List, ◌++◌, ℕ, ◌+◌, ◌*◌, ◌≤◌, eqb, length, get_or, replicate}
use Rattle.std.proofs.Common.{sym, ap, ◌∙◌, append_assoc, mul-le-mul, arith, le-ltb, length-append}
use Rattle.code.specs.Limits.{most_segments, most_length, most_bytes, old_length, old_bytes}
use Rattle.code.specs.Layers.{Word}
use Rattle.code.specs.Order.{Order, order, Taken}
use Rattle.code.proofs.laws.Order.{Within, Ordered, order_fine, Within-fine}
use Rattle.code.proofs.laws.Bits.{in_bits-append, in_bytes_bits}
use Rattle.code.proofs.laws.LabelFields.{length-edition1, length-listing, fields1, fields_Listed}
use Rattle.code.specs.Label.{in_bits, bytes_for, spare, in_bytes, equal, edition1, bytes_bits, length_bits, listing, too_large, old_bits, label_bytes, edition_of, lists, end_of_lengths, lengths_in, needed, order_of, bad_end, bad_label, test_in, label_read_test, labelled, label_read}
use Rattle.code.proofs.laws.Label.{Within-old, Lengths-first, Fits-in, repeated-equal, length-in_bytes, widths}

-- the bits of a word's bytes and of what stands behind them
label_bits_lem : (w : Word) (rest : List ℕ) → in_bits 8 (in_bytes w ++ rest) ≡ w ++ (replicate (spare (length w)) false ++ in_bits 8 rest)
label_bits_lem w rest = in_bits-append 8 (in_bytes w) rest ∙ rw (in_bytes_bits w) (append_assoc w (replicate (spare (length w)) false) (in_bits 8 rest))

-- a label of edition e and n bytes is read as an order
pub record Reads (e : ℕ) (o : Order) (n : ℕ) (label : List ℕ) : Type 0 where
  pub edition : edition_of label ≡ e
  pub carried : order_of label ≡ o
  pub long : needed label ≡ n
  pub taken : label_read_test label ≡ Ok tt

-- nothing is against a label as its edition lays it out, if its order is within the limits of that edition
reads : (e : ℕ) (o : Order) (w : Word) (rest : List ℕ) → edition_of (in_bytes w ++ rest) ≡ e → order_of (in_bytes w ++ rest) ≡ o → needed (in_bytes w ++ rest) ≡ length (in_bytes w) → bad_label (in_bytes w ++ rest) ≡ false → test_in e o ≡ Ok tt → Reads e o (length (in_bytes w)) (in_bytes w ++ rest)
reads e o w rest edition carried long good fine =
    let label = in_bytes w ++ rest in
    let room : needed label ≤ length label = omega (arith, long, length-append (in_bytes w) rest) in
    record {
      edition = edition;
      carried = carried;
      long = long;
      taken = rw (le-ltb (length label) (needed label) room, good) ((λ i. test_in (edition i) (carried i)) ∙ fine);
    }

-- a label of edition 1
Reads-first : (o : Order) (rest : List ℕ) → Within old_length old_bytes o false → equal o.lengths ≡ true → Reads 1 o (length (in_bytes (edition1 (get_or o.lengths 0 0) o.b))) (in_bytes (edition1 (get_or o.lengths 0 0) o.b) ++ rest)
Reads-first o rest h e =
    let k = get_or o.lengths 0 0 in
    let w = edition1 k o.b in
    let label = in_bytes w ++ rest in
    let limits = Lengths-first o.lengths h.lengths h.some_segments in
    let n : length (in_bytes w) ≡ 4 = length-in_bytes w ∙ ap bytes_for (length-edition1 k o.b) in
    let f = fields1 label k o.b (replicate (spare (length w)) false ++ in_bits 8 rest) (omega arith) (omega (arith, h.bytes_fit)) (label_bits_lem w rest) in
    reads 1 o w rest f.edition
    (rw (f.edition, f.length_of, f.bytes_of) (ap (λ (ks : List ℕ). order ks o.b) (repeated-equal o h e)))
    (rw f.edition (sym n))
    (rw (f.edition, f.rest_of))
    (Within-fine old_length old_bytes o h)

-- a label that lists its lengths
Reads-listing : (e : ℕ) (o : Order) (rest : List ℕ) → lists e ≡ true → (eqb e 2 && equal o.lengths) ≡ false → test_in e o ≡ Ok tt → Reads e o (length (in_bytes (listing e o))) (in_bytes (listing e o) ++ rest)
Reads-listing e o rest listed other fine =
    let label = in_bytes (listing e o) ++ rest in
    let f = fields_Listed label e o (in_bits 8 rest) (Fits-in e o listed fine) (label_bits_lem (listing e o) rest) in
    let listed_here : lists (edition_of label) ≡ true = rw f.edition listed in
    let long : needed label ≡ bytes_for (end_of_lengths label) = rw listed_here in
    let end : end_of_lengths label ≡ length (listing e o) = (λ i. 11 + bytes_bits (f.edition i) + length_bits (f.edition i) * f.count_of i) ∙ sym (length-listing e o) in
    let clear : bad_end label ≡ false = rw f.rest_of in
    let unequal : (eqb (edition_of label) 2 && equal (lengths_in label)) ≡ false = (λ i. eqb (f.edition i) 2 && equal (f.lengths_of i)) ∙ other in
    reads e o (listing e o) rest f.edition
    (rw listed_here (λ i. order (f.lengths_of i) (f.bytes_of i)))
    (long ∙ ap bytes_for end ∙ sym (length-in_bytes (listing e o)))
    (rw (listed_here, clear, unequal))
    fine

-- a label of edition 3
pub Reads-third : (o : Order) (rest : List ℕ) → Ordered o false → Reads 3 o (length (in_bytes (listing 3 o))) (in_bytes (listing 3 o) ++ rest)
Reads-third o rest h = Reads-listing 3 o rest refl refl (Within-fine most_length most_bytes o h)

-- a label of an old edition, 1 for equal lengths and else 2
pub Reads-old : (o : Order) (rest : List ℕ) → Within old_length old_bytes o false → Reads (cond (equal o.lengths) 1 2) o (length (in_bytes (old_bits o))) (in_bytes (old_bits o) ++ rest)
Reads-old o rest h = go (equal o.lengths) refl
  where
    go : (t : Bool) → equal o.lengths ≡ t → Reads (cond (equal o.lengths) 1 2) o (length (in_bytes (old_bits o))) (in_bytes (old_bits o) ++ rest)
    go true e = rw e (Reads-first o rest h e)
    go false e = rw e (Reads-listing 2 o rest refl e (Within-fine old_length old_bytes o h))

-- the edition of an order's label
abbrev pub oldest_for : Order → ℕ
oldest_for o = cond (too_large o) 3 (cond (equal o.lengths) 1 2)

-- the label of an order is read as that order, whatever stands behind it
pub label_Reads : (o : Order) (rest : List ℕ) → Taken o → Reads (oldest_for o) o (length (label_bytes o)) (label_bytes o ++ rest)
label_Reads o rest t = go (too_large o) refl
  where
    go : (large : Bool) → too_large o ≡ large → Reads (oldest_for o) o (length (label_bytes o)) (label_bytes o ++ rest)
    go true e = rw e (Reads-third o rest (order_fine o false t))
    go false e = rw e (Reads-old o rest (Within-old o (order_fine o false t) e))

pub label_Taken : (o : Order) (rest : List ℕ) → Taken o → label_read_test (label_bytes o ++ rest) ≡ Ok tt
label_Taken o rest t = (label_Reads o rest t).taken

pub label_order : (o : Order) (rest : List ℕ) → Taken o → order_of (label_bytes o ++ rest) ≡ o
label_order o rest t = (label_Reads o rest t).carried

pub label_read_lem : (o : Order) (rest : List ℕ) → Taken o → label_read (label_bytes o ++ rest) ≡ Ok (labelled o)
label_read_lem o rest t = rw (label_Taken o rest t, label_order o rest t)

-- it needs the bytes that were written
pub label_needed : (o : Order) (rest : List ℕ) → Taken o → needed (label_bytes o ++ rest) ≡ length (label_bytes o)
label_needed o rest t = (label_Reads o rest t).long

-- a listing of at most 64 lengths has at most 75 bytes
pub listing_most : (e : ℕ) (o : Order) → length o.lengths ≤ most_segments → length (in_bytes (listing e o)) ≤ 75
listing_most e o few =
    let w = widths e in
    let n = mul-le-mul w.length_most few in
    omega (arith, length-in_bytes (listing e o), length-listing e o, n, w.bytes_most)

-- so does a label in an old edition
pub old_most : (o : Order) → length o.lengths ≤ most_segments → length (in_bytes (old_bits o)) ≤ 75
old_most o few = go (equal o.lengths) refl
  where
    go : (same : Bool) → equal o.lengths ≡ same → length (in_bytes (old_bits o)) ≤ 75
    go true e = rw e (omega (arith, length-in_bytes (edition1 (get_or o.lengths 0 0) o.b), length-edition1 (get_or o.lengths 0 0) o.b))
    go false e = rw e (listing_most 2 o few)

-- at most 75 bytes are written
pub label_most : (o : Order) → Taken o → length (label_bytes o) ≤ 75
label_most o t = go (too_large o) refl
  where
    few : length o.lengths ≤ most_segments
    few = (order_fine o false t).segments_fit

    go : (large : Bool) → too_large o ≡ large → length (label_bytes o) ≤ 75
    go true e = rw e (listing_most 3 o few)
    go false e = rw e (old_most o few)
