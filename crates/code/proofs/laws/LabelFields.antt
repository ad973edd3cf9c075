-- The fields of a label, written and read again.
--   edition1_number, listing_number   the fields of an edition as one number
--   length-edition1, length-listing   how many bits they have
--   Fields1, Listed                   what stands in a label
--   fields1, fields_Listed            the fields of a label whose bits are known
--   edition1_back, listing_back       the bits of a label whose fields are known
use Rattle.std.specs.Prelude.{◌≡◌, false, List, ◌++◌, ℕ, ◌+◌, ◌*◌, ◌^◌, ◌<◌, ◌≤◌, length, take, drop, replicate}
use Rattle.std.proofs.Common.{sym, ap, ◌∙◌, append_assoc, mod-eq_of_lt, arith, length-append, length-drop, drop_at, take_at, take-add}
use Rattle.std.proofs.lemmas.List.{length-replicate}
use Rattle.code.specs.Symbols.{Below}
use Rattle.code.specs.Layers.{Word, bits}
use Rattle.code.proofs.laws.Layers.{length-bits}
use Rattle.code.specs.Order.{Order, order}
use Rattle.code.proofs.laws.Bits.{bits_join, number_front, number_part, number_zeros, drop-bits, bits-take, length-in_bits, length-from_bits, from_bits-in_bits, in_bits-from_bits}
use Rattle.code.specs.Label.{in_bits, spare, edition1, bytes_bits, length_bits, listing, field, edition_of, length_in, bytes_in1, bytes_in, count_in, lengths_at, end_of_lengths, lengths_in}

-- the fields of edition 1 as one number of 32 bits
pub edition1_number : (k b : ℕ) → k < 2 ^ 7 → b < 2 ^ 8 → edition1 k b ≡ bits 32 (2 ^ 28 + k * 2 ^ 21 + b * 2 ^ 13)
edition1_number k b hk hb =
    let p : bits 4 1 ++ bits 7 k ≡ bits 11 (1 * 2 ^ 7 + k) = sym (bits_join 4 7 1 k hk) in
    let q : bits 11 (1 * 2 ^ 7 + k) ++ bits 8 b ≡ bits 19 ((1 * 2 ^ 7 + k) * 2 ^ 8 + b) = sym (bits_join 11 8 (1 * 2 ^ 7 + k) b hb) in
    let r : bits 19 ((1 * 2 ^ 7 + k) * 2 ^ 8 + b) ++ bits 13 0 ≡ bits 32 (((1 * 2 ^ 7 + k) * 2 ^ 8 + b) * 2 ^ 13 + 0) = sym (bits_join 19 13 ((1 * 2 ^ 7 + k) * 2 ^ 8 + b) 0 (omega arith)) in
    rw (p, q, r) (ap (bits 32) (omega arith))

-- the fields of a listing before its lengths as one number
pub listing_number : (e : ℕ) (o : Order) → o.b < 2 ^ bytes_bits e → length o.lengths < 2 ^ 7 → listing e o ≡ bits (4 + bytes_bits e + 7) ((e * 2 ^ bytes_bits e + o.b) * 2 ^ 7 + length o.lengths) ++ in_bits (length_bits e) o.lengths
listing_number e o hb hn =
    let w = bytes_bits e in
    let n = length o.lengths in
    let x = e * 2 ^ w + o.b in
    let p : bits 4 e ++ bits w o.b ≡ bits (4 + w) x = sym (bits_join 4 w e o.b hb) in
    let q : bits (4 + w) x ++ bits 7 n ≡ bits (4 + w + 7) (x * 2 ^ 7 + n) = sym (bits_join (4 + w) 7 x n hn) in
    ap (λ (u : Word). u ++ in_bits (length_bits e) o.lengths) (ap (λ (u : Word). u ++ bits 7 n) p ∙ q)

pub length-edition1 : (k b : ℕ) → length (edition1 k b) ≡ 32
length-edition1 k b = simp (length-append, length-bits)

pub length-listing : (e : ℕ) (o : Order) → length (listing e o) ≡ 11 + bytes_bits e + length_bits e * length o.lengths
length-listing e o = simp (length-append, length-bits, length-in_bits) (omega arith)

-- what stands in a label of edition 1
pub record Fields1 (label : List ℕ) (k b : ℕ) : Type 0 where
  pub edition : edition_of label ≡ 1
  pub length_of : length_in label ≡ k
  pub bytes_of : bytes_in1 label ≡ b
  pub rest_of : field 19 13 label ≡ 0

pub fields1 : (label : List ℕ) (k b : ℕ) (rest : Word) → k < 2 ^ 7 → b < 2 ^ 8 → in_bits 8 label ≡ edition1 k b ++ rest → Fields1 label k b
fields1 label k b rest hk hb e =
    let n = 2 ^ 28 + k * 2 ^ 21 + b * 2 ^ 13 in
    let f : in_bits 8 label ≡ bits 32 n ++ rest = e ∙ rw (edition1_number k b hk hb) in
    record {
      edition = rw f (number_part 0 4 28 n rest ∙ omega arith);
      length_of = rw f (number_part 4 7 21 n rest ∙ omega arith);
      bytes_of = rw f (number_part 11 8 13 n rest ∙ omega arith);
      rest_of = rw f (number_part 19 13 0 n rest ∙ omega arith);
    }

-- what stands in a label of edition e that lists the lengths of an order
pub record Listed (label : List ℕ) (e : ℕ) (o : Order) : Type 0 where
  pub edition : edition_of label ≡ e
  pub bytes_of : bytes_in label ≡ o.b
  pub count_of : count_in label ≡ length o.lengths
  pub lengths_of : lengths_in label ≡ o.lengths
  pub rest_of : field (end_of_lengths label) (spare (end_of_lengths label)) label ≡ 0

-- an order fits the fields of an edition
pub record Fits (e : ℕ) (o : Order) : Type 0 where
  pub edition : e < 2 ^ 4
  pub bytes : o.b < 2 ^ bytes_bits e
  pub count : length o.lengths < 2 ^ 7
  pub lengths : Below (2 ^ length_bits e) o.lengths

pub fields_Listed : (label : List ℕ) (e : ℕ) (o : Order) (rest : Word) → Fits e o → in_bits 8 label ≡ listing e o ++ (replicate (spare (length (listing e o))) false ++ rest) → Listed label e o
fields_Listed label e o rest h is =
    let w = bytes_bits e in
    let v = length_bits e in
    let ks = o.lengths in
    let n = length ks in
    let end = 11 + w + v * n in
    let zeros = replicate (spare end) false in
    let z = zeros ++ rest in
    let all : in_bits 8 label ≡ listing e o ++ z = is ∙ ap (λ (m : ℕ). listing e o ++ (replicate (spare m) false ++ rest)) (length-listing e o) in
    let lengths_z = in_bits v ks ++ z in
    let count_z = bits 7 n ++ lengths_z in
    let bytes_z = bits w o.b ++ count_z in
    let f : in_bits 8 label ≡ bits 4 e ++ bytes_z = all ∙ simp append_assoc in
    let Edition-of : edition_of label ≡ e = rw f (number_front 4 e bytes_z ∙ mod-eq_of_lt h.edition) in
    let bytes_of : field 4 w label ≡ o.b = rw (f, drop_at (bits 4 e) bytes_z 4 (length-bits 4 e)) (number_front w o.b count_z ∙ mod-eq_of_lt h.bytes) in
    let count_of : field (4 + w) 7 label ≡ n = rw (f, drop-bits 4 e w bytes_z, drop_at (bits w o.b) count_z w (length-bits w o.b)) (number_front 7 n lengths_z ∙ mod-eq_of_lt h.count) in
    let places : 11 + w ≡ 4 + (w + 7) = omega arith in
    let lengths_of : drop (11 + w) (in_bits 8 label) ≡ lengths_z =
    ap (λ (m : ℕ). drop m (in_bits 8 label)) places ∙ rw (f, drop-bits 4 e (w + 7) bytes_z, drop-bits w o.b 7 count_z) (drop_at (bits 7 n) lengths_z 7 (length-bits 7 n)) in
    let behind : drop end (in_bits 8 label) ≡ z = rw all (drop_at (listing e o) z end (length-listing e o)) in
    record {
      edition = Edition-of;
      bytes_of = rw Edition-of bytes_of;
      count_of = rw Edition-of count_of;
      lengths_of = rw (Edition-of, count_of, lengths_of) (from_bits-in_bits v ks z h.lengths);
      rest_of = rw (Edition-of, count_of, behind, take_at zeros rest (spare end) (length-replicate (spare end) false)) (number_zeros (spare end));
    }

-- some bits of bytes are those of the field that stands there
part_bits : (bs : List ℕ) (i w : ℕ) → i + w ≤ 8 * length bs → take w (drop i (in_bits 8 bs)) ≡ bits w (field i w bs)
part_bits bs i w h = sym (bits-take w (drop i (in_bits 8 bs)) (rw (length-drop i (in_bits 8 bs), length-in_bits 8 bs) (omega arith)))

-- the first 32 bits of a label of edition 1 are its fields
pub edition1_back : (bs : List ℕ) → 4 ≤ length bs → edition_of bs ≡ 1 → field 19 13 bs ≡ 0 → take 32 (in_bits 8 bs) ≡ edition1 (length_in bs) (bytes_in1 bs)
edition1_back bs room e z =
    let b = in_bits 8 bs in
    take-add 19 13 b
    ∙ (λ j. take-add 11 8 b j ++ part_bits bs 19 13 (omega arith) j)
    ∙ (λ j. (take-add 4 7 b j ++ part_bits bs 11 8 (omega arith) j) ++ bits 13 (z j))
    ∙ (λ j. ((part_bits bs 0 4 (omega arith) j ++ part_bits bs 4 7 (omega arith) j) ++ bits 8 (bytes_in1 bs)) ++ bits 13 0)
    ∙ (λ j. ((bits 4 (e j) ++ bits 7 (length_in bs)) ++ bits 8 (bytes_in1 bs)) ++ bits 13 0)

-- the bits of a label up to the end of the lengths that it lists are its fields
pub listing_back : (bs : List ℕ) → end_of_lengths bs ≤ 8 * length bs → take (end_of_lengths bs) (in_bits 8 bs) ≡ listing (edition_of bs) (order (lengths_in bs) (bytes_in bs))
listing_back bs room =
    let b = in_bits 8 bs in
    let w = bytes_bits (edition_of bs) in
    let v = length_bits (edition_of bs) in
    let n : length (lengths_in bs) ≡ count_in bs = length-from_bits v (count_in bs) (drop (lengths_at bs) b) in
    let rest : take (v * count_in bs) (drop (lengths_at bs) b) ≡ in_bits v (lengths_in bs) =
    sym (in_bits-from_bits v (count_in bs) (drop (lengths_at bs) b) (rw (length-drop (lengths_at bs) b, length-in_bits 8 bs) (omega arith))) in
    let places : lengths_at bs ≡ 4 + w + 7 = omega arith in
    take-add (lengths_at bs) (v * count_in bs) b
    ∙ (λ j. take (places j) b ++ rest j)
    ∙ (λ j. take-add (4 + w) 7 b j ++ in_bits v (lengths_in bs))
    ∙ (λ j. (take-add 4 w b j ++ part_bits bs (4 + w) 7 (omega arith) j) ++ in_bits v (lengths_in bs))
    ∙ (λ j. ((part_bits bs 0 4 (omega arith) j ++ part_bits bs 4 w (omega arith) j) ++ bits 7 (sym n j)) ++ in_bits v (lengths_in bs))
