-- Laws of hexadecimal digits, in the order of their definitions.
use Rattle.std.specs.Prelude.{◌≡◌, refl, Bool, true, false, ◌&&◌, cond, List, [], ◌∷◌, ◌++◌, ℕ, zero, suc, ◌+◌, ◌*◌, ◌/◌, ◌%◌, ◌<◌, ◌≤◌, ltb, length, get_or, take, drop, Option, Some, None}
use Rattle.std.proofs.Common.{ap, arith, add-one, take-suc}
use borrow.Author.Tests.{ltb-true, lt-ltb, eq-eqb, le-leb}
use Rattle.std.proofs.Math.Seq.{drop-nil}
use Rattle.code.specs.Symbols.{Below}
use Rattle.code.specs.Buffers.{over_front}
use Rattle.text.specs.HexDigit.{no_digit, value_of, digit_of, all_digits}
use Rattle.text.proofs.laws.HexDigit.{value_digit}
use Rattle.text.specs.Hex.{hex_bytes, hex_digits, decodable, decode_call}

-- Digits

and_left : (a b : Bool) → (a && b) ≡ true → a ≡ true
and_left true b e = refl
and_left false b e = e

and_right : (a b : Bool) → (a && b) ≡ true → b ≡ true
and_right true b e = e
and_right false true e = refl
and_right false false e = e

-- the first byte is a digit, and so are the others
module _ (c : ℕ) (cs : List ℕ) (e : all_digits no_digit (c ∷ cs) ≡ true) where
  first_digit : value_of c < 16
  unfolding all_digits
  first_digit = ltb-true (value_of c) no_digit (and_left (ltb (value_of c) no_digit) (all_digits no_digit cs) e)

  other_digits : all_digits no_digit cs ≡ true
  unfolding all_digits
  other_digits = and_right (ltb (value_of c) no_digit) (all_digits no_digit cs) e

-- each of them is a digit
pub digit_at : (cs : List ℕ) → all_digits no_digit cs ≡ true → (i : ℕ) → i < length cs → value_of (get_or cs i 0) < 16
digit_at [] e i h = absurd (omega arith)
digit_at (c ∷ cs) e zero h = first_digit c cs e
digit_at (c ∷ cs) e (suc i) h = digit_at cs (other_digits c cs e) i (omega arith)

-- Some of digits

pub length-hex_bytes : (cs : List ℕ) → length (hex_bytes cs) ≡ length cs / 2
unfolding hex_bytes
length-hex_bytes [] = refl
length-hex_bytes (a ∷ []) = refl
length-hex_bytes (a ∷ b ∷ cs) = omega (arith, length-hex_bytes cs)

times_two : (i : ℕ) → 2 * suc i ≡ suc (suc (2 * i))
times_two i = omega arith

-- what is left of the bytes of digits, after i bytes
pub hex_bytes-drop : (i : ℕ) (cs : List ℕ) → drop i (hex_bytes cs) ≡ hex_bytes (drop (2 * i) cs)
unfolding hex_bytes
hex_bytes-drop zero cs = refl
hex_bytes-drop (suc i) [] = rw (drop-nil (2 * suc i))
hex_bytes-drop (suc i) (a ∷ []) = rw (times_two i)
hex_bytes-drop (suc i) (a ∷ b ∷ cs) = rw (times_two i) (hex_bytes-drop i cs)

-- digits give bytes
pub hex_bytes-Below : (cs : List ℕ) → all_digits no_digit cs ≡ true → Below 256 (hex_bytes cs)
unfolding hex_bytes
hex_bytes-Below [] e i = omega arith
hex_bytes-Below (a ∷ []) e i = omega arith
hex_bytes-Below (a ∷ b ∷ cs) e zero = omega (arith, first_digit a (b ∷ cs) e, first_digit b cs (other_digits a (b ∷ cs) e))
hex_bytes-Below (a ∷ b ∷ cs) e (suc i) = hex_bytes-Below cs (other_digits b cs (other_digits a (b ∷ cs) e)) i

-- Digits of bytes

pub length-hex_digits : (bs : List ℕ) → length (hex_digits bs) ≡ 2 * length bs
unfolding hex_digits
length-hex_digits [] = refl
length-hex_digits (x ∷ bs) = omega (arith, length-hex_digits bs)

pub hex_digits-append : (bs cs : List ℕ) → hex_digits (bs ++ cs) ≡ hex_digits bs ++ hex_digits cs
unfolding hex_digits
hex_digits-append [] cs = refl
hex_digits-append (x ∷ bs) cs = rw (hex_digits-append bs cs)

-- the digits of one more byte
pub hex_digits_next : (bs : List ℕ) (i : ℕ) → i < length bs → hex_digits (take (i + 1) bs) ≡ hex_digits (take i bs) ++ digit_of (get_or bs i 0 / 16) ∷ digit_of (get_or bs i 0 % 16) ∷ []
unfolding hex_digits
hex_digits_next bs i h = rw (add-one, take-suc bs i 0 h) (hex_digits-append (take i bs) (get_or bs i 0 ∷ []))

-- what is encoded are digits
pub all_digits_hex : (bs : List ℕ) → Below 256 bs → all_digits no_digit (hex_digits bs) ≡ true
unfolding all_digits hex_digits
all_digits_hex [] h = refl
all_digits_hex (x ∷ bs) h =
    let small = h 0 in
    let p : ltb (value_of (digit_of (x / 16))) 16 ≡ true = rw (value_digit (x / 16) (omega arith)) (lt-ltb (x / 16) 16 (omega arith)) in
    let q : ltb (value_of (digit_of (x % 16))) 16 ≡ true = rw (value_digit (x % 16) (omega arith)) (lt-ltb (x % 16) 16 (omega arith)) in
    rw (p, q) (all_digits_hex bs (λ i. h (suc i)))

-- decoding what was encoded gives the bytes back
pub hex_bytes_digits : (bs : List ℕ) → Below 256 bs → hex_bytes (hex_digits bs) ≡ bs
unfolding hex_bytes hex_digits
hex_bytes_digits [] h = refl
hex_bytes_digits (x ∷ bs) h =
    let small = h 0 in
    let p = value_digit (x / 16) (omega arith) in
    let q = value_digit (x % 16) (omega arith) in
    let e : 16 * (x / 16) + x % 16 ≡ x = omega arith in
    rw (p, q, e, hex_bytes_digits bs (λ i. h (suc i)))

-- Decoding

-- what holds of digits that are decoded, and of others
module _ (cs out after : List ℕ) where
  -- the answer and the buffer, by the test
  abbrev answer : Bool → Option ℕ × List ℕ
  answer b = cond b (Some (length (hex_bytes cs)), over_front (hex_bytes cs) out) (None, out)

  pub decode_good : (n : ℕ) → (Some n, after) ≡ decode_call cs out → (decodable cs (length out) ≡ true) × (n ≡ length (hex_bytes cs)) × (after ≡ over_front (hex_bytes cs) out)
  decode_good n e = go (decodable cs (length out)) e
    where
      go : (b : Bool) → (Some n, after) ≡ answer b → (b ≡ true) × (n ≡ length (hex_bytes cs)) × (after ≡ over_front (hex_bytes cs) out)
      go true q = let f = ap (λ (p : Option ℕ × List ℕ). p.0) q in (refl, cc, ap (λ (p : Option ℕ × List ℕ). p.1) q)
      go false q = let f = ap (λ (p : Option ℕ × List ℕ). p.0) q in let z : ◌≡◌ {A = ℕ} 0 1 = cc in absurd (omega arith)

  pub decode_bad : (None, after) ≡ decode_call cs out → decodable cs (length out) ≡ false
  decode_bad e = go (decodable cs (length out)) e
    where
      go : (b : Bool) → (None, after) ≡ answer b → b ≡ false
      go true q = let f = ap (λ (p : Option ℕ × List ℕ). p.0) q in let z : ◌≡◌ {A = ℕ} 0 1 = cc in absurd (omega arith)
      go false q = refl

-- what was encoded is decoded into every buffer that holds the bytes
pub decodable_digits : (bs : List ℕ) (n : ℕ) → Below 256 bs → length bs ≤ n → decodable (hex_digits bs) n ≡ true
decodable_digits bs n h room =
    let l = length-hex_digits bs in
    rw (eq-eqb (length (hex_digits bs) % 2) 0 (omega arith), all_digits_hex bs h) (le-leb (length (hex_digits bs) / 2) n (omega arith))

-- the answer and the buffer of such a decoding
pub decode_digits : (bs d : List ℕ) → Below 256 bs → length bs ≤ length d → decode_call (hex_digits bs) d ≡ (Some (length bs), over_front bs d)
decode_digits bs d h room = rw (decodable_digits bs (length d) h room, hex_bytes_digits bs h)
