-- Four and eight bytes from a place on.
use mathlib.Core.Path.{◌≡◌}
use Prim.Native.Nat.{ℕ, suc, ◌+◌, ◌*◌, ◌≤◌}
use mathlib.Core.List.{List}
use native.Mathlib.Omega.{arith}
use lib.ListN.{length, get_or, take, drop}
use mir.Syntax.{w8}
use mir.Val.{Fits}
use Rattle.code.specs.Symbols.{Below}
use Rattle.places.specs.Words.{word_of}
use Rattle.places.proofs.laws.Words.{word_next}

-- what is known of each entry of a slice of bytes
pub bytes_Below : (l : List ℕ) → ((i : ℕ) → Fits w8 (get_or l i 0)) → Below 256 l
bytes_Below l f i = (f i).fits

-- the word of the four and n more
word_more : (l : List ℕ) (n i : ℕ) → i + 4 ≤ length l → get_or l i 0 + 256 * get_or l (i + 1) 0 + 65536 * get_or l (i + 2) 0 + 16777216 * get_or l (i + 3) 0 + 4294967296 * word_of (take n (drop (i + 4) l)) ≡ word_of (take (suc (suc (suc (suc n)))) (drop i l))
word_more l n i h =
    let a = word_next l (suc (suc (suc n))) i (i + 1) (omega arith) (omega arith) in
    let b = word_next l (suc (suc n)) (i + 1) (i + 2) (omega arith) (omega arith) in
    let c = word_next l (suc n) (i + 2) (i + 3) (omega arith) (omega arith) in
    let d = word_next l n (i + 3) (i + 4) (omega arith) (omega arith) in
    omega arith

-- the word of the four
pub word_four : (l : List ℕ) (i : ℕ) → i + 4 ≤ length l → get_or l i 0 + 256 * get_or l (i + 1) 0 + 65536 * get_or l (i + 2) 0 + 16777216 * get_or l (i + 3) 0 ≡ word_of (take 4 (drop i l))
unfolding word_of
word_four l i h = omega (arith, word_more l 0 i h)

-- the word of the eight
pub word_eight : (l : List ℕ) (i : ℕ) → i + 8 ≤ length l → word_of (take 4 (drop i l)) + 4294967296 * word_of (take 4 (drop (i + 4) l)) ≡ word_of (take 8 (drop i l))
word_eight l i h = omega (arith, word_more l 4 i (omega arith), word_four l i (omega arith))
