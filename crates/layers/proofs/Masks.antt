-- Masks on words.
--   joined_bits   a word of four bytes joined to itself above them, under the mask of lowest bits
--   lanes         four lanes of 16 bits
--   even_bytes    every other byte
--   low_lanes     the lower lane of each half
--   next_lanes    the lanes one further
use mathlib.Core.Path.{◌≡◌, refl, sym, ap, ◌∙◌}
use mathlib.Core.List.{[], ◌∷◌}
use Prim.Native.Nat.{ℕ, zero, suc, ◌+◌, ◌*◌, ◌/◌, ◌%◌, ◌<◌}
use native.Mathlib.Nat.{div-add-mod', mod-lt}
use native.Mathlib.Omega.{arith}
use lib.Arith.{mod-mul}
use lib.Dec.{eqb}
use lib.Bits.{bit_and, bit_or, and_mask, and_block, and_zero_r, or_mod, or_shr, or_zero_l, or_zero_r}
use Rattle.code.specs.Layers.{bit, layer, digit}
use Rattle.code.proofs.laws.Layers.{digit-bit}
use Rattle.places.specs.Words.{word_of}
use Rattle.layers.specs.SideBySide.{half, bytes_of, bit_bytes, sides}

-- Lowest bits

-- a mask whose lowest byte is 1 takes the lowest bit, and goes on above that byte
bit_step : (w m : ℕ) → bit_and w (m * 256 + 1) ≡ bit_and (w / 256) m * 256 + w % 256 % 2
bit_step w m =
    ap (λ (x : ℕ). bit_and x (m * 256 + 1)) (sym (div-add-mod' w 256))
    ∙ and_block 8 (w / 256) m (w % 256) 1 (mod-lt w (omega arith)) (omega arith)
    ∙ ap (λ (x : ℕ). bit_and (w / 256) m * 256 + x) (and_mask (w % 256) 1)

-- the number of the lowest bit of a byte
lowest : (x : ℕ) → x % 2 ≡ digit (bit 0 x)
lowest x = sym (digit-bit 0 x ∙ omega arith)

four_bytes : (p q r s : ℕ) → ((s * 256 + r) * 256 + q) * 256 + p ≡ p + 256 * (q + 256 * (r + 256 * (s + 256 * 0)))
four_bytes p q r s = omega arith

-- the lowest bits of four bytes
four_bits : (w : ℕ) → bit_and w 16843009 ≡ bit_bytes (layer 0 (bytes_of 4 w))
unfolding word_of bytes_of
four_bits w =
    let last : bit_and (w / 256 / 256 / 256) 1 ≡ w / 256 / 256 / 256 % 256 % 2 = and_mask (w / 256 / 256 / 256) 1 ∙ byte_bit (w / 256 / 256 / 256) in
    bit_step w 65793
    ∙ rw (bit_step (w / 256) 257, bit_step (w / 256 / 256) 1, last, lowest (w % 256), lowest (w / 256 % 256), lowest (w / 256 / 256 % 256), lowest (w / 256 / 256 / 256 % 256))
    (four_bytes (digit (bit 0 (w % 256))) (digit (bit 0 (w / 256 % 256))) (digit (bit 0 (w / 256 / 256 % 256))) (digit (bit 0 (w / 256 / 256 / 256 % 256))))
  where
    byte_bit : (x : ℕ) → x % 2 ≡ x % 256 % 2
    byte_bit x = omega arith

-- one mask in both halves
in_halves : (m w : ℕ) → m < half → bit_and w (m * half + m) ≡ bit_and (w % half) m + half * bit_and (w / half) m
in_halves m w h =
    ap (λ (x : ℕ). bit_and x (m * half + m)) (sym (div-add-mod' w half)) ∙ and_block 32 (w / half) m (w % half) m (mod-lt w (omega arith)) h ∙ omega arith

-- halving a number moves the second bit of each byte to the lowest
halved : (n v : ℕ) → layer 0 (bytes_of n (v / 2)) ≡ layer 1 (bytes_of n v)
unfolding bytes_of
halved zero v = refl
halved (suc n) v =
    let h : v / 2 % 256 / 1 % 2 ≡ v % 256 / 2 % 2 = omega arith in
    let t : v / 2 / 256 ≡ v / 256 / 2 = omega arith in
    let rest : layer 0 (bytes_of n (v / 2 / 256)) ≡ layer 1 (bytes_of n (v / 256)) = rw t (halved n (v / 256)) in
    λ i. eqb (h i) 1 ∷ rest i

-- numbers that agree modulo 256m have one lowest byte, and agree modulo m above it
byte_agrees : (m x y : ℕ) → 0 < m → x % (m * 256) ≡ y % (m * 256) → (x % 256 ≡ y % 256) × (x / 256 % m ≡ y / 256 % m)
byte_agrees m x y h e =
    let f = sym (mod-mul x h (omega arith)) ∙ e ∙ mod-mul y h (omega arith) in
    (lower _ _ _ _ (mod-lt x (omega arith)) (mod-lt y (omega arith)) f, upper _ _ _ _ (mod-lt x (omega arith)) (mod-lt y (omega arith)) f)
  where
    lower : (p q r s : ℕ) → r < 256 → s < 256 → p * 256 + r ≡ q * 256 + s → r ≡ s
    lower p q r s hr hs e = omega arith

    upper : (p q r s : ℕ) → r < 256 → s < 256 → p * 256 + r ≡ q * 256 + s → p ≡ q
    upper p q r s hr hs e = omega arith

-- numbers that agree below bit 31 have the same lowest bits
same_bits : (v w : ℕ) → v % 2147483648 ≡ w % 2147483648 → layer 0 (bytes_of 4 v) ≡ layer 0 (bytes_of 4 w)
unfolding bytes_of
same_bits v w e =
    let a = byte_agrees 8388608 v w (omega arith) e in
    let b = byte_agrees 32768 (v / 256) (w / 256) (omega arith) a.1 in
    let c = byte_agrees 128 (v / 256 / 256) (w / 256 / 256) (omega arith) b.1 in
    let d = last_bit (v / 256 / 256 / 256) (w / 256 / 256 / 256) c.1 in
    λ i. bit 0 (a.0 i) ∷ bit 0 (b.0 i) ∷ bit 0 (c.0 i) ∷ eqb (d i) 1 ∷ []
  where
    last_bit : (x y : ℕ) → x % 128 ≡ y % 128 → x % 256 / 1 % 2 ≡ y % 256 / 1 % 2
    last_bit x y h = omega arith

-- the bits of both layers of the bytes of a word
pub joined_bits : (w : ℕ) → w < half → bit_and (bit_or w ((w * 2147483648) % 18446744073709551616)) 72340172838076673 ≡ sides bit_bytes (bytes_of 4 w)
joined_bits w h =
    let u : (w * 2147483648) % 18446744073709551616 ≡ w * 2147483648 = omega arith in
    let up : bit_or w (w * 2147483648) / half ≡ w / 2 = or_shr w (w * 2147483648) 32 ∙ rw (upper_first, upper_second) (or_zero_l (w / 2)) in
    let low : bit_or w (w * 2147483648) % 2147483648 ≡ w % 2147483648 = or_mod w (w * 2147483648) 31 ∙ rw lower_second (or_zero_r (w % 2147483648)) in
    let lower : layer 0 (bytes_of 4 (bit_or w (w * 2147483648) % half)) ≡ layer 0 (bytes_of 4 w) = same_bits _ w (agree (bit_or w (w * 2147483648)) ∙ low) in
    rw u
    (in_halves 16843009 (bit_or w (w * 2147483648)) (omega arith)
    ∙ rw (four_bits (bit_or w (w * 2147483648) % half), lower, up, four_bits (w / 2), halved 4 w))
  where
    upper_first : w / 4294967296 ≡ 0
    upper_first = omega arith

    upper_second : (w * 2147483648) / 4294967296 ≡ w / 2
    upper_second = omega arith

    lower_second : (w * 2147483648) % 2147483648 ≡ 0
    lower_second = omega arith

    agree : (z : ℕ) → z % half % 2147483648 ≡ z % 2147483648
    agree z = omega arith

-- Lanes

-- four lanes of 16 bits, the first the lowest
abbrev pub lanes : ℕ → ℕ → ℕ → ℕ → ℕ
lanes p q r s = ((s * 65536 + r) * 65536 + q) * 65536 + p

module _ (p q r s : ℕ) (p16 : p < 65536) (q16 : q < 65536) (r16 : r < 65536) where
  -- every other byte
  pub even_bytes : bit_and (lanes p q r s) 71777214294589695 ≡ lanes (p % 256) (q % 256) (r % 256) (s % 256)
  even_bytes =
      and_block 16 ((s * 65536 + r) * 65536 + q) 1095233372415 p 255 p16 (omega arith)
      ∙ rw (and_block 16 (s * 65536 + r) 16711935 q 255 q16 (omega arith), and_block 16 s 255 r 255 r16 (omega arith), and_mask p 8, and_mask q 8, and_mask r 8, and_mask s 8)

  -- the lower lane of each half
  pub low_lanes : bit_and (lanes p q r s) 281470681808895 ≡ p + half * r
  low_lanes =
      let first : bit_and p 65535 ≡ p = and_mask p 16 ∙ omega arith in
      let third : bit_and r 65535 ≡ r = and_mask r 16 ∙ omega arith in
      and_block 16 ((s * 65536 + r) * 65536 + q) 4294901760 p 65535 p16 (omega arith)
      ∙ rw (and_block 16 (s * 65536 + r) 65535 q 0 q16 (omega arith), and_block 16 s 0 r 65535 r16 (omega arith), first, and_zero_r q, third, and_zero_r s) (omega arith)

  -- the lanes one further
  pub next_lanes : lanes p q r s / 65536 ≡ lanes q r s 0
  next_lanes = omega arith
