-- Shift, or and mask on bytes and on words of four bytes.
--   or_word, and_word   byte by byte
--   mask_byte           the lowest byte
--   or_symbols          the byte of four symbols
--   word_bytes          the bytes of a word
--   word_symbols        the symbols of a word
--   round               one round of shift, or and mask
--   pack_rounds         a word of four symbols to a byte
--   spread_rounds       a byte to a word of four symbols
use mathlib.Core.Path.{◌≡◌, refl, ◌∙◌}
use mathlib.Core.List.{List, [], ◌∷◌}
use Prim.Native.Nat.{ℕ, ◌+◌, ◌*◌, ◌/◌, ◌%◌, ◌<◌, ◌≤◌}
use native.Mathlib.Omega.{arith}
use lib.Bits.{bit_and, bit_or, and_mask, and_block, or_block, or_shifted, or_shifted_r, or_zero_l, or_zero_r, and_zero_r}
use lib.ListN.{length, get_or, take, drop}
use Rattle.code.specs.Symbols.{Below, byte_of}
use Rattle.places.specs.Words as places
use Rattle.places.proofs.Bytes.{word_four}
use Rattle.packing.specs.Words.{word_of, Symbols}

module _ (a b c d e f g h : ℕ) (a8 : a < 256) (b8 : b < 256) (c8 : c < 256) (e8 : e < 256) (f8 : f < 256) (g8 : g < 256) where
  -- words are joined byte by byte
  or_word : bit_or (word_of a b c d) (word_of e f g h) ≡ word_of (bit_or a e) (bit_or b f) (bit_or c g) (bit_or d h)
  or_word =
      or_block 8 ((d * 256 + c) * 256 + b) ((h * 256 + g) * 256 + f) a e a8 e8
      ∙ rw (or_block 8 (d * 256 + c) (h * 256 + g) b f b8 f8, or_block 8 d h c g c8 g8)

  -- and masked byte by byte
  and_word : bit_and (word_of a b c d) (word_of e f g h) ≡ word_of (bit_and a e) (bit_and b f) (bit_and c g) (bit_and d h)
  and_word =
      and_block 8 ((d * 256 + c) * 256 + b) ((h * 256 + g) * 256 + f) a e a8 e8
      ∙ rw (and_block 8 (d * 256 + c) (h * 256 + g) b f b8 f8, and_block 8 d h c g c8 g8)

-- the lowest byte
pub mask_byte : (n : ℕ) → bit_and n 255 ≡ n % 256
mask_byte n = and_mask n 8

-- the byte of four symbols, the first in its highest bits
pub or_symbols : (a b c d : ℕ) → a < 4 → b < 4 → c < 4 → d < 4 → bit_or (bit_or (bit_or ((a * 64) % 256) ((b * 16) % 256)) ((c * 4) % 256)) d ≡ byte_of a b c d
or_symbols a b c d ha hb hc hd =
    let ea : (a * 64) % 256 ≡ a * 64 = omega arith in
    let eb : (b * 16) % 256 ≡ b * 16 = omega arith in
    let ec : (c * 4) % 256 ≡ c * 4 = omega arith in
    let ab : bit_or (a * 64) (b * 16) ≡ (4 * a + b) * 16 = or_shifted a 6 (b * 16) (omega arith) ∙ omega arith in
    let abc : bit_or ((4 * a + b) * 16) (c * 4) ≡ (16 * a + 4 * b + c) * 4 = or_shifted (4 * a + b) 4 (c * 4) (omega arith) ∙ omega arith in
    rw (ea, eb, ec, ab, abc) (or_shifted (16 * a + 4 * b + c) 2 d (omega arith) ∙ omega arith)

-- a word shifted up
abbrev up : ℕ → ℕ → ℕ
up n x = (x * n) % 4294967296

-- the bytes of a word of four bytes
module _ (w a b c d : ℕ) (is : w ≡ word_of a b c d) where
  pub word_bytes : a < 256 → b < 256 → c < 256 → (w % 256 ≡ a) × (w / 256 % 256 ≡ b) × (w / 65536 % 256 ≡ c) × (w / 16777216 ≡ d)
  word_bytes ha hb hc = (omega arith, omega arith, omega arith, omega arith)

  pub bytes_of_word : a < 256 → b < 256 → c < 256 → d < 256 → w % 256 ∷ w / 256 % 256 ∷ w / 65536 % 256 ∷ w / 16777216 % 256 ∷ [] ≡ a ∷ b ∷ c ∷ d ∷ []
  bytes_of_word ha hb hc hd =
      let e : w / 16777216 % 256 ≡ d = omega arith in
      let r = word_bytes ha hb hc in
      rw (r.0, r.1, r.2, e) refl

-- the symbols of the word of four symbols from place i on
pub word_symbols : (l : List ℕ) (i w : ℕ) → Below 4 l → i + 4 ≤ length l → w ≡ places.word_of (take 4 (drop i l)) → (w % 256 ≡ get_or l i 0) × (w / 256 % 256 ≡ get_or l (i + 1) 0) × (w / 65536 % 256 ≡ get_or l (i + 2) 0) × (w / 16777216 ≡ get_or l (i + 3) 0)
word_symbols l i w small h is =
    word_bytes w (get_or l i 0) (get_or l (i + 1) 0) (get_or l (i + 2) 0) (get_or l (i + 3) 0) (omega (arith, word_four l i h)) (omega (arith, small i)) (omega (arith, small (i + 1))) (omega (arith, small (i + 2)))

word_of_lem : (w : ℕ) → word_of (w % 256) (w / 256 % 256) (w / 65536 % 256) (w / 16777216) ≡ w
word_of_lem w = omega arith

-- a word shifted up joined to the word shifted down, under a mask
abbrev round : ℕ → ℕ → ℕ → ℕ → ℕ
round times over mask w = bit_and (bit_or (up times w) (w / over)) mask

-- A word of four symbols to a byte: its pairs, then its pair of pairs

module _ (a b c d : ℕ) (ha : a < 4) (hb : b < 4) (hc : c < 4) (hd : d < 4) where
  pairs_round : round 4 256 983055 (word_of a b c d) ≡ word_of (4 * a + b) 0 (4 * c + d) 0
  pairs_round =
      let higher : up 4 (word_of a b c d) ≡ word_of (a * 4) (b * 4) (c * 4) (d * 4) = omega arith in
      let lower : word_of a b c d / 256 ≡ word_of b c d 0 = omega arith in
      let ab : bit_or (a * 4) b ≡ 4 * a + b = or_shifted a 2 b hb ∙ omega arith in
      let bc : bit_or (b * 4) c ≡ 4 * b + c = or_shifted b 2 c hc ∙ omega arith in
      let cd : bit_or (c * 4) d ≡ 4 * c + d = or_shifted c 2 d hd ∙ omega arith in
      let joined : bit_or (word_of (a * 4) (b * 4) (c * 4) (d * 4)) (word_of b c d 0) ≡ word_of (4 * a + b) (4 * b + c) (4 * c + d) (d * 4) =
      or_word (a * 4) (b * 4) (c * 4) (d * 4) b c d 0 (omega arith) (omega arith) (omega arith) (omega arith) (omega arith) (omega arith)
      ∙ rw (ab, bc, cd, or_zero_r (d * 4)) in
      let first : bit_and (4 * a + b) 15 ≡ 4 * a + b = and_mask (4 * a + b) 4 ∙ omega arith in
      let third : bit_and (4 * c + d) 15 ≡ 4 * c + d = and_mask (4 * c + d) 4 ∙ omega arith in
      rw (higher, lower, joined)
      (and_word (4 * a + b) (4 * b + c) (4 * c + d) (d * 4) 15 0 15 0 (omega arith) (omega arith) (omega arith) (omega arith) (omega arith) (omega arith)
      ∙ rw (first, and_zero_r (4 * b + c), third, and_zero_r (d * 4)))

  byte_round : round 16 65536 255 (word_of (4 * a + b) 0 (4 * c + d) 0) ≡ byte_of a b c d
  byte_round =
      let higher : up 16 (word_of (4 * a + b) 0 (4 * c + d) 0) ≡ word_of ((4 * a + b) * 16) 0 ((4 * c + d) * 16) 0 = omega arith in
      let lower : word_of (4 * a + b) 0 (4 * c + d) 0 / 65536 ≡ word_of (4 * c + d) 0 0 0 = omega arith in
      let first : bit_or ((4 * a + b) * 16) (4 * c + d) ≡ byte_of a b c d = or_shifted (4 * a + b) 4 (4 * c + d) (omega arith) ∙ omega arith in
      let joined : bit_or (word_of ((4 * a + b) * 16) 0 ((4 * c + d) * 16) 0) (word_of (4 * c + d) 0 0 0) ≡ word_of (byte_of a b c d) 0 ((4 * c + d) * 16) 0 =
      or_word ((4 * a + b) * 16) 0 ((4 * c + d) * 16) 0 (4 * c + d) 0 0 0 (omega arith) (omega arith) (omega arith) (omega arith) (omega arith) (omega arith)
      ∙ rw (first, or_zero_r ((4 * c + d) * 16)) in
      rw (higher, lower, joined) (mask_byte (word_of (byte_of a b c d) 0 ((4 * c + d) * 16) 0) ∙ omega arith)

pub pack_rounds : (w : ℕ) → Symbols w → round 16 65536 255 (round 4 256 983055 w) ≡ byte_of (w % 256) (w / 256 % 256) (w / 65536 % 256) (w / 16777216)
pack_rounds w h =
    let e : round 4 256 983055 w ≡ _ = rw (word_of_lem w) at (pairs_round (w % 256) (w / 256 % 256) (w / 65536 % 256) (w / 16777216) h.0 h.1 h.2 h.3) in
    rw e (byte_round (w % 256) (w / 256 % 256) (w / 65536 % 256) (w / 16777216) h.0 h.1 h.2 h.3)

-- A byte to a word of four symbols: its halves, then their symbols

halves_round : (x : ℕ) → x < 256 → round 65536 16 983055 x ≡ word_of (x / 16) 0 (x % 16) 0
halves_round x byte =
    let higher : up 65536 x ≡ x * 65536 = omega arith in
    let joined : bit_or (x * 65536) (x / 16) ≡ word_of (x / 16) 0 x 0 = or_shifted x 16 (x / 16) (omega arith) ∙ omega arith in
    let first : bit_and (x / 16) 15 ≡ x / 16 = and_mask (x / 16) 4 ∙ omega arith in
    rw (higher, joined)
    (and_word (x / 16) 0 x 0 15 0 15 0 (omega arith) (omega arith) (omega arith) (omega arith) (omega arith) (omega arith) ∙ rw (first, and_mask x 4))

symbols_round : (h l : ℕ) → h < 16 → l < 16 → round 256 4 50529027 (word_of h 0 l 0) ≡ word_of (h / 4) (h % 4) (l / 4) (l % 4)
symbols_round h l h4 l4 =
    let higher : up 256 (word_of h 0 l 0) ≡ word_of 0 h 0 l = omega arith in
    let lower : word_of h 0 l 0 / 4 ≡ word_of (h / 4) (l % 4 * 64) (l / 4) 0 = omega arith in
    let joined : bit_or (word_of 0 h 0 l) (word_of (h / 4) (l % 4 * 64) (l / 4) 0) ≡ word_of (h / 4) (l % 4 * 64 + h) (l / 4) l =
    or_word 0 h 0 l (h / 4) (l % 4 * 64) (l / 4) 0 (omega arith) (omega arith) (omega arith) (omega arith) (omega arith) (omega arith)
    ∙ rw (or_zero_l (h / 4), or_shifted_r (l % 4) 6 h (omega arith), or_zero_l (l / 4), or_zero_r l) in
    let first : bit_and (h / 4) 3 ≡ h / 4 = and_mask (h / 4) 2 ∙ omega arith in
    let second : bit_and (l % 4 * 64 + h) 3 ≡ h % 4 = and_mask (l % 4 * 64 + h) 2 ∙ omega arith in
    let third : bit_and (l / 4) 3 ≡ l / 4 = and_mask (l / 4) 2 ∙ omega arith in
    rw (higher, lower, joined)
    (and_word (h / 4) (l % 4 * 64 + h) (l / 4) l 3 3 3 3 (omega arith) (omega arith) (omega arith) (omega arith) (omega arith) (omega arith)
    ∙ rw (first, second, third, and_mask l 2))

pub spread_rounds : (x : ℕ) → x < 256 → round 256 4 50529027 (round 65536 16 983055 x) ≡ word_of (x / 64 % 4) (x / 16 % 4) (x / 4 % 4) (x % 4)
spread_rounds x byte =
    let first : x / 16 / 4 ≡ x / 64 % 4 = omega arith in
    let third : x % 16 / 4 ≡ x / 4 % 4 = omega arith in
    let fourth : x % 16 % 4 ≡ x % 4 = omega arith in
    rw (halves_round x byte) (symbols_round (x / 16) (x % 16) (omega arith) (omega arith) ∙ rw (first, third, fourth))
