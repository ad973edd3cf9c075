-- Bits put into bytes.
--   put_length  how many bytes there are
--   up          a byte's bits, moved up
--   Left        what is still to be put
--   put_begin   before the first byte
--   put_fill    one more length is held
--   put_byte    one more byte is put
use mathlib.Core.Path.{◌≡◌, refl, sym, ap, ◌∙◌}
use mathlib.Core.Bool.{false}
use mathlib.Core.List.{List, [], ◌∷◌, ◌++◌, append_assoc, append-nil}
use native.Mathlib.Decide.{dec_le}
use Prim.Native.Nat.{ℕ, zero, suc, ◌+◌, ◌-◌, ◌*◌, ◌/◌, ◌%◌, ◌^◌, ◌≤◌, ◌<◌}
use native.Mathlib.Numerals.{add-one}
use native.Mathlib.Omega.{arith}
use lib.ListN.{length, get_or, drop, replicate, length-append, length-drop, length-replicate, replicate-append-replicate}
use lib.Pow.{shl_lt, shl_exact, pow_mono}
use lib.Seq.{drop-cons, drop_at}
use Rattle.code.specs.Symbols.{Below}
use Rattle.code.specs.Layers.{Word, bits}
use Rattle.code.proofs.laws.Layers.{length-bits}
use Rattle.code.specs.Label.{in_bits, from_bits, bytes_for, in_bytes}
use Rattle.code.proofs.laws.Bits.{bits_split, bits_low, bits_join, bits_zero, number_front, length-in_bits, in_bits-append, length-from_bits, from_bits_front}

-- how many bytes there are
pub put_length : (count first w : ℕ) (ls : List ℕ) → length (in_bytes (bits count first ++ in_bits w ls)) ≡ bytes_for (count + w * length ls)
put_length count first w ls =
    length-from_bits 8 (bytes_for (length (bits count first ++ in_bits w ls))) _
    ∙ ap bytes_for (length-append (bits count first) (in_bits w ls) ∙ rw (length-bits count first, length-in_bits w ls))

-- a byte's bits, moved up
pub up : (held w : ℕ) → w ≤ 16 → (held % 256 * 2 ^ w) % 4294967296 ≡ held % 256 * 2 ^ w
up held w h = shl_exact {a = held % 256} 8 w 32 (omega arith) (omega arith)

pub up_below : (held w : ℕ) → w ≤ 16 → held % 256 * 2 ^ w < 16777216
up_below held w h =
    let p : held % 256 * 2 ^ w < 2 ^ (8 + w) = shl_lt {a = held % 256} 8 w (omega arith) in
    let q : 2 ^ (8 + w) ≤ 2 ^ 24 = pow_mono {i = 8 + w} {j = 24} (omega arith) in
    omega arith

-- the bytes t are the next m, of the lowest `left` bits of `held` and of the lengths from place i on, zeros behind the last
pub record Left (t : List ℕ) (w : ℕ) (ls : List ℕ) (m left held i : ℕ) : Type 0 where
  pub bytes_of : t ≡ from_bits 8 m (bits left held ++ in_bits w (drop i (ls ++ 0 ∷ [])))
  pub enough : 8 * m ≤ left + w * length (drop i (ls ++ 0 ∷ []))
  pub inside : i ≤ length ls + 1

-- before the first byte
pub put_begin : (count first w : ℕ) (ls : List ℕ) (m : ℕ) → 7 ≤ w → m ≡ bytes_for (count + w * length ls) → Left (in_bytes (bits count first ++ in_bits w ls)) w ls m count first 0
unfolding in_bits
put_begin count first w ls m h e =
    let u = bits count first ++ in_bits w ls in
    let n : length u ≡ count + w * length ls = length-append (bits count first) (in_bits w ls) ∙ rw (length-bits count first, length-in_bits w ls) in
    let z : bits w 0 ≡ replicate 7 false ++ replicate (w - 7) false =
    bits_zero w ∙ ap (λ (k : ℕ). replicate k false) (let e : w ≡ 7 + (w - 7) = omega arith in e) ∙ sym (replicate-append-replicate 7 (w - 7) false) in
    let all : bits count first ++ in_bits w (ls ++ 0 ∷ []) ≡ (u ++ replicate 7 false) ++ replicate (w - 7) false =
    ap (λ (v : Word). bits count first ++ v) (in_bits-append w ls (0 ∷ []) ∙ ap (λ (v : Word). in_bits w ls ++ v) (append-nil (bits w 0) ∙ z))
    ∙ sym (append_assoc (bits count first) (in_bits w ls) (replicate 7 false ++ replicate (w - 7) false))
    ∙ sym (append_assoc u (replicate 7 false) (replicate (w - 7) false)) in
    let room : length (u ++ replicate 7 false) ≡ count + w * length ls + 7 = length-append u (replicate 7 false) ∙ rw (n, length-replicate 7 false) in
    record {
      bytes_of =
          ap (λ (k : ℕ). from_bits 8 k (u ++ replicate 7 false)) (ap bytes_for n ∙ sym e)
          ∙ sym (from_bits_front 8 m (u ++ replicate 7 false) (replicate (w - 7) false) (omega arith))
          ∙ ap (from_bits 8 m) (sym all);
      enough = rw (length-append ls (0 ∷ [])) (omega arith);
      inside = omega arith;
    }

-- a zero behind the lengths
zero_behind : (ls : List ℕ) (i : ℕ) → get_or (ls ++ 0 ∷ []) i 0 ≡ get_or ls i 0
zero_behind [] zero = refl
zero_behind [] (suc i) = refl
zero_behind (x ∷ ls) zero = refl
zero_behind (x ∷ ls) (suc i) = zero_behind ls i

-- a length is still to be held
more : (w m left i : ℕ) (l : List ℕ) → left < 8 → 1 ≤ m → 8 * m ≤ left + w * length (drop i l) → i < length l
more w m left i l h some enough = go (dec_le (suc i) (length l))
  where
    go : Dec (i < length l) → i < length l
    go (yes p) = p
    go (no p) =
        let e : length (drop i l) ≡ 0 = length-drop i l ∙ omega arith in
        let f : 8 * m ≤ left + w * 0 = rw e at enough in
        omega arith

-- one more length is held
pub put_fill : (t : List ℕ) (w : ℕ) (ls : List ℕ) (m left held i : ℕ) → left < 8 → 1 ≤ m → Below (2 ^ w) ls → Left t w ls m left held i → Left t w ls m (left + w) (held % 256 * 2 ^ w + get_or ls i 0) (i + 1)
unfolding in_bits
put_fill t w ls m left held i h some small l =
    let zs = ls ++ 0 ∷ [] in
    let x = get_or ls i 0 in
    let here : i < length zs = more w m left i zs h some l.enough in
    let next : drop i zs ≡ x ∷ drop (i + 1) zs = drop-cons zs i 0 here ∙ rw (zero_behind ls i, add-one) in
    let low : bits left (held % 256) ≡ bits left held = ap (λ (k : ℕ). bits left (held % 2 ^ k)) (let e : 8 ≡ 8 - left + left = omega arith in e) ∙ bits_low (8 - left) left held in
    let joined : bits (left + w) (held % 256 * 2 ^ w + x) ++ in_bits w (drop (i + 1) zs) ≡ bits left held ++ in_bits w (x ∷ drop (i + 1) zs) =
    ap (λ (u : Word). u ++ in_bits w (drop (i + 1) zs)) (bits_join left w (held % 256) x (small i) ∙ ap (λ (u : Word). u ++ bits w x) low) ∙ append_assoc (bits left held) (bits w x) (in_bits w (drop (i + 1) zs)) in
    let room : 8 * m ≤ left + w * length (x ∷ drop (i + 1) zs) = rw next at l.enough in
    record {
      bytes_of = l.bytes_of ∙ ap (λ (r : List ℕ). from_bits 8 m (bits left held ++ in_bits w r)) next ∙ ap (from_bits 8 m) (sym joined);
      enough = omega arith;
      inside = omega (arith, length-append ls (0 ∷ []));
    }

-- one more byte is put
pub put_byte : (t : List ℕ) (w : ℕ) (ls : List ℕ) (m n left low held i : ℕ) → m ≡ suc n → left ≡ 8 + low → Left t w ls m left held i → (r : List ℕ) × (t ≡ held / 2 ^ low % 256 ∷ r) × Left r w ls n low held i
unfolding from_bits
put_byte t w ls m n left low held i em el l =
    let rest = in_bits w (drop i (ls ++ 0 ∷ [])) in
    let v = held / 2 ^ low in
    let e : bits left held ++ rest ≡ bits 8 v ++ (bits low held ++ rest) = rw el (ap (λ (u : Word). u ++ rest) (bits_split 8 low held) ∙ append_assoc (bits 8 v) (bits low held) rest) in
    let first = number_front 8 v (bits low held ++ rest) in
    let behind = drop_at (bits 8 v) (bits low held ++ rest) 8 (length-bits 8 v) in (
      from_bits 8 n (bits low held ++ rest),
      l.bytes_of ∙ (λ j. from_bits 8 (em j) (e j)) ∙ (λ j. first j ∷ from_bits 8 n (behind j)),
      record { bytes_of = refl; enough = omega (arith, l.enough); inside = l.inside },
    )
