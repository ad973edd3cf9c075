-- Hexadecimal digits, two to a byte, the higher first.
--   hex_bytes     the bytes of digits
--   hex_digits    the upper-case digits of bytes
--   decodable     digits that can be put as bytes into a buffer
--   decode_call   the answer of a decoding, and the lent buffer afterwards
use Rattle.std.specs.Prelude.{Bool, ◌&&◌, cond, List, [], ◌∷◌, ℕ, ◌+◌, ◌*◌, ◌/◌, ◌%◌, eqb, leb, length, Option, Some, None}
use Rattle.code.specs.Buffers.{over_front}
use Rattle.text.specs.HexDigit.{no_digit, value_of, digit_of, all_digits}

-- the bytes of digits, two to a byte, the higher first
unfoldable pub hex_bytes : List ℕ → List ℕ
hex_bytes [] = []
hex_bytes (a ∷ []) = []
hex_bytes (a ∷ b ∷ cs) = (16 * value_of a + value_of b) ∷ hex_bytes cs

-- the upper-case digits of bytes
unfoldable pub hex_digits : List ℕ → List ℕ
hex_digits [] = []
hex_digits (x ∷ xs) = digit_of (x / 16) ∷ digit_of (x % 16) ∷ hex_digits xs

-- an even number of digits and nothing else, whose bytes a buffer of n bytes holds
abbrev pub decodable : List ℕ → ℕ → Bool
decodable cs n = eqb (length cs % 2) 0 && all_digits no_digit cs && leb (length cs / 2) n

-- what decoding a text into a buffer answers, and the buffer afterwards: unchanged where there is none
abbrev pub decode_call : List ℕ → List ℕ → Option ℕ × List ℕ
decode_call cs out = cond (decodable cs (length out)) (Some (length (hex_bytes cs)), over_front (hex_bytes cs) out) (None, out)
