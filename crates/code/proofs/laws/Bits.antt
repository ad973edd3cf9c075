-- Laws of bits and of the numbers that they write, over any width.
--   word_same                        words of one length that write one number are one
--   number_append                    the number of two words
--   bits_split, bits_join            the bits of a number are those of a high and of a low one
--   bits_low                         the lowest bits are those of the remainder
--   number_zeros, bits_zero          zero bits write 0
--   number_least                     w bits write a number below 2 ^ w
--   drop-bits                        what stands behind a number's bits
--   number_front, number_part        the number in some bits of a number
--   bits-take                        bits are those of the number that they write
--   length-in_bits, in_bits-append   numbers in bits
--   drop-in_bits                     the numbers behind the first
--   length-from_bits                 the numbers of a word
--   get_or-from_bits                 the number at a place
--   from_bits_front                  what stands behind the numbers is not read
--   from_bits-in_bits                numbers in bits are read again
--   in_bits-from_bits                the bits of numbers that are read
--   in_bytes_bits                    the bits of a word's bytes: the word, and zeros
--   bytes_back                       bytes whose bits are a word and zeros are the bytes of that word
use Rattle.std.specs.Prelude.{◌≡◌, refl, true, false, List, [], ◌∷◌, ◌++◌, ℕ, zero, suc, ◌+◌, ◌-◌, ◌*◌, ◌/◌, ◌%◌, ◌^◌, ◌≤◌, ◌<◌, length, get_or, take, drop, replicate}
use Rattle.std.proofs.Common.{sym, ap, ◌∙◌, append_assoc, mod-eq_of_lt, suc-add, mul-zero, zero-add, arith, length-append, length-take, length-drop, take-append-drop, take_at, drop_at, take-add, drop-drop, length-take-le, pow-add, shr-shr, pow_mono}
use Rattle.std.proofs.Math.Nat.{zero-mod}
use Rattle.std.proofs.lemmas.List.{length-replicate, replicate-append-replicate, take-append-le, drop-append-le}
use Rattle.std.proofs.Math.Seq.{drop-nil, take-append-add}
use Rattle.std.proofs.Math.Pow.{high, low, mod-mod-pow}
use Rattle.code.specs.Symbols.{Below}
use Rattle.code.specs.Layers.{Word, bits, number}
use Rattle.code.specs.Label.{in_bits, from_bits, bytes_for, spare, in_bytes}
use Rattle.code.proofs.laws.Lists.{take-replicate}
use Rattle.code.proofs.laws.Below.{Below-take}
use Rattle.code.proofs.laws.Layers.{length-bits, number_below, number-bits, bits-number}

-- words of one length that write one number are one
pub word_same : (u w : Word) → length u ≡ length w → number u ≡ number w → u ≡ w
word_same u w l n = sym (bits-number u) ∙ (λ i. bits (l i) (n i)) ∙ bits-number w

pub number_append : (u w : Word) → number (u ++ w) ≡ number u * 2 ^ length w + number w
unfolding number
number_append [] w = omega arith
number_append (true ∷ u) w =
    let p : 2 ^ length (u ++ w) ≡ 2 ^ length u * 2 ^ length w = rw (length-append u w) (pow-add 2 (length u) (length w)) in
    omega (arith, number_append u w)
number_append (false ∷ u) w = omega (arith, number_append u w)

-- bits are the high ones and the low ones
pub bits_split : (a b x : ℕ) → bits (a + b) x ≡ bits a (x / 2 ^ b) ++ bits b x
unfolding bits
bits_split zero b x = rw (zero-add b)
bits_split (suc a) b x =
    let e : x / 2 ^ (a + b) ≡ x / 2 ^ b / 2 ^ a = sym (shr-shr x b a ∙ ap (λ (n : ℕ). x / 2 ^ n) (omega arith)) in
    rw (suc-add a b, e, bits_split a b x)

-- the lowest bits are those of the remainder
pub bits_low : (a b x : ℕ) → bits b (x % 2 ^ (a + b)) ≡ bits b x
bits_low a b x =
    word_same (bits b (x % 2 ^ (a + b))) (bits b x) (length-bits b _ ∙ sym (length-bits b x))
    (number-bits b _ ∙ mod-mod-pow x a b ∙ sym (number-bits b x))

-- the bits of two numbers are those of one
pub bits_join : (a b x y : ℕ) → y < 2 ^ b → bits (a + b) (x * 2 ^ b + y) ≡ bits a x ++ bits b y
bits_join a b x y h =
    let e : bits b (x * 2 ^ b + y) ≡ bits b y = sym (bits_low 0 b (x * 2 ^ b + y)) ∙ rw (zero-add b, low x b h) in
    bits_split a b (x * 2 ^ b + y) ∙ rw (high x b h, e)

-- zero bits write 0
pub number_zeros : (n : ℕ) → number (replicate n false) ≡ 0
unfolding number
number_zeros zero = refl
number_zeros (suc n) = omega (arith, number_zeros n)

-- a word that writes 0 is zero bits
zeros_same : (w : Word) → number w ≡ 0 → w ≡ replicate (length w) false
zeros_same w e = word_same w (replicate (length w) false) (sym (length-replicate (length w) false)) (e ∙ sym (number_zeros (length w)))

-- 0 is written by zero bits
pub bits_zero : (n : ℕ) → bits n 0 ≡ replicate n false
bits_zero n =
    word_same (bits n 0) (replicate n false) (length-bits n 0 ∙ sym (length-replicate n false)) (number-bits n 0 ∙ zero-mod (2 ^ n) ∙ sym (number_zeros n))

-- so many bits write a number below that power of two
pub number_least : (w : ℕ) (bs : Word) → number (take w bs) < 2 ^ w
number_least w bs =
    let l : length (take w bs) ≤ w = rw (length-take w bs) (omega arith) in
    omega (arith, number_below (take w bs), pow_mono l)

-- what stands behind a number's bits
pub drop-bits : (w x m : ℕ) (rest : Word) → drop (w + m) (bits w x ++ rest) ≡ drop m rest
drop-bits w x m rest = sym (drop-drop m w (bits w x ++ rest)) ∙ ap (drop m) (drop_at (bits w x) rest w (length-bits w x))

-- the number in the first bits
pub number_front : (w x : ℕ) (rest : Word) → number (take w (bits w x ++ rest)) ≡ x % 2 ^ w
number_front w x rest = rw (take_at (bits w x) rest w (length-bits w x)) (number-bits w x)

-- the number in w bits behind the first r, where m stand behind them
pub number_part : (r w m x : ℕ) (rest : Word) → number (take w (drop r (bits (r + (w + m)) x ++ rest))) ≡ x / 2 ^ m % 2 ^ w
number_part r w m x rest =
    let inner : bits (w + m) x ++ rest ≡ bits w (x / 2 ^ m) ++ (bits m x ++ rest) = rw (bits_split w m x) (append_assoc (bits w (x / 2 ^ m)) (bits m x) rest) in
    let e : drop r (bits (r + (w + m)) x ++ rest) ≡ bits w (x / 2 ^ m) ++ (bits m x ++ rest) =
    rw (bits_split r (w + m) x, append_assoc (bits r (x / 2 ^ (w + m))) (bits (w + m) x) rest)
    (drop_at (bits r (x / 2 ^ (w + m))) (bits (w + m) x ++ rest) r (length-bits r _) ∙ inner) in
    rw e (number_front w (x / 2 ^ m) (bits m x ++ rest))

-- the first w bits are those of their number
pub bits-take : (w : ℕ) (bs : Word) → w ≤ length bs → bits w (number (take w bs)) ≡ take w bs
bits-take w bs h = ap (λ (k : ℕ). bits k (number (take w bs))) (sym (length-take-le w bs h)) ∙ bits-number (take w bs)

-- Numbers of so many bits each

pub length-in_bits : (w : ℕ) (xs : List ℕ) → length (in_bits w xs) ≡ w * length xs
unfolding in_bits
length-in_bits w [] = omega arith
length-in_bits w (x ∷ xs) = length-append (bits w x) (in_bits w xs) ∙ omega (arith, length-bits w x, length-in_bits w xs)

pub in_bits-append : (w : ℕ) (xs ys : List ℕ) → in_bits w (xs ++ ys) ≡ in_bits w xs ++ in_bits w ys
unfolding in_bits
in_bits-append w [] ys = refl
in_bits-append w (x ∷ xs) ys = rw (in_bits-append w xs ys) (sym (append_assoc (bits w x) (in_bits w xs) (in_bits w ys)))

-- numbers behind the first n
pub drop-in_bits : (w n : ℕ) (xs : List ℕ) → drop (w * n) (in_bits w xs) ≡ in_bits w (drop n xs)
unfolding in_bits
drop-in_bits w zero xs = rw (mul-zero w)
drop-in_bits w (suc n) [] = drop-nil (w * suc n)
drop-in_bits w (suc n) (x ∷ xs) =
    let e : w * suc n ≡ w + w * n = omega arith in
    rw e (drop-bits w x (w * n) (in_bits w xs) ∙ drop-in_bits w n xs)

pub length-from_bits : (w n : ℕ) (bs : Word) → length (from_bits w n bs) ≡ n
unfolding from_bits
length-from_bits w zero bs = refl
length-from_bits w (suc n) bs = ap suc (length-from_bits w n (drop w bs))

-- the number at a place
pub get_or-from_bits : (w n i : ℕ) (bs : Word) → i < n → get_or (from_bits w n bs) i 0 ≡ number (take w (drop (w * i) bs))
unfolding from_bits
get_or-from_bits w zero i bs h = absurd (omega arith)
get_or-from_bits w (suc n) zero bs h = rw (mul-zero w)
get_or-from_bits w (suc n) (suc i) bs h =
    let e : w * suc i ≡ w + w * i = omega arith in
    rw (e, ← drop-drop (w * i) w bs) (get_or-from_bits w n i (drop w bs) (omega arith))

-- what stands behind the numbers is not read
pub from_bits_front : (w n : ℕ) (u rest : Word) → w * n ≤ length u → from_bits w n (u ++ rest) ≡ from_bits w n u
unfolding from_bits
from_bits_front w zero u rest h = refl
from_bits_front w (suc n) u rest h =
    let e : w * suc n ≡ w + w * n = omega arith in
    rw (take-append-le w u rest (omega arith), drop-append-le w u rest (omega arith), from_bits_front w n (drop w u) rest (rw (length-drop w u) (omega arith)))

-- the numbers in bits are read again
pub from_bits-in_bits : (w : ℕ) (xs : List ℕ) (rest : Word) → Below (2 ^ w) xs → from_bits w (length xs) (in_bits w xs ++ rest) ≡ xs
unfolding in_bits from_bits
from_bits-in_bits w [] rest h = refl
from_bits-in_bits w (x ∷ xs) rest h =
    let first : number (take w (bits w x ++ (in_bits w xs ++ rest))) ≡ x = number_front w x (in_bits w xs ++ rest) ∙ mod-eq_of_lt (h 0) in
    rw (append_assoc (bits w x) (in_bits w xs) rest, first, drop_at (bits w x) (in_bits w xs ++ rest) w (length-bits w x), from_bits-in_bits w xs rest (λ i. h (suc i)))

-- the bits of numbers that are read
pub in_bits-from_bits : (w n : ℕ) (bs : Word) → w * n ≤ length bs → in_bits w (from_bits w n bs) ≡ take (w * n) bs
unfolding in_bits from_bits
in_bits-from_bits w zero bs h = rw (mul-zero w)
in_bits-from_bits w (suc n) bs h =
    let e : w * suc n ≡ w + w * n = omega arith in
    rw (e, take-add w (w * n) bs, bits-take w bs (omega arith), in_bits-from_bits w n (drop w bs) (rw (length-drop w bs) (omega arith)))

-- the first n of numbers that stand in bits
from_bits-take : (w n : ℕ) (xs : List ℕ) → Below (2 ^ w) xs → n ≤ length xs → from_bits w n (in_bits w xs) ≡ take n xs
from_bits-take w n xs h room =
    let l : length (take n xs) ≡ n = length-take-le n xs room in
    let e : in_bits w xs ≡ in_bits w (take n xs) ++ in_bits w (drop n xs) = ap (in_bits w) (sym (take-append-drop n xs)) ∙ in_bits-append w (take n xs) (drop n xs) in
    rw e (ap (λ (k : ℕ). from_bits w k (in_bits w (take n xs) ++ in_bits w (drop n xs))) (sym l) ∙ from_bits-in_bits w (take n xs) (in_bits w (drop n xs)) (Below-take n xs h))

-- A word's bytes

-- the bits of a word's bytes: the word, and zeros
pub in_bytes_bits : (w : Word) → in_bits 8 (in_bytes w) ≡ w ++ replicate (spare (length w)) false
in_bytes_bits w =
    let n = length w in
    let l : length (w ++ replicate 7 false) ≡ n + 7 = length-append w (replicate 7 false) ∙ rw (length-replicate 7 false) in
    let e : 8 * bytes_for n ≡ n + spare n = omega arith in
    in_bits-from_bits 8 (bytes_for n) (w ++ replicate 7 false) (omega arith)
    ∙ ap (λ (m : ℕ). take m (w ++ replicate 7 false)) e
    ∙ take-append-add w (replicate 7 false) (spare n)
    ∙ ap (λ (z : Word). w ++ z) (take-replicate (spare n) 7 false (omega arith))

-- bytes whose bits are a word of n bits and zeros are the bytes of that word
pub bytes_back : (bs : List ℕ) (w : Word) (n : ℕ) → Below 256 bs → length w ≡ n → bytes_for n ≤ length bs → take n (in_bits 8 bs) ≡ w → number (take (spare n) (drop n (in_bits 8 bs))) ≡ 0 → take (bytes_for n) bs ≡ in_bytes w
bytes_back bs w n small e room front behind =
    let m = bytes_for n in
    let b = in_bits 8 bs in
    let z = replicate (spare n) false in
    let all : length b ≡ 8 * length bs = length-in_bits 8 bs in
    let long : length (w ++ z) ≡ n + spare n = length-append w z ∙ rw (e, length-replicate (spare n) false) in
    let sized : length (take (spare n) (drop n b)) ≡ spare n = length-take-le (spare n) (drop n b) (rw (length-drop n b) (omega arith)) in
    let zeros : take (spare n) (drop n b) ≡ z = zeros_same (take (spare n) (drop n b)) behind ∙ ap (λ (k : ℕ). replicate k false) sized in
    let here : take (n + spare n) b ≡ w ++ z = take-add n (spare n) b ∙ (λ i. front i ++ zeros i) in
    let whole : b ≡ (w ++ z) ++ drop (n + spare n) b = sym (take-append-drop (n + spare n) b) ∙ ap (λ (u : Word). u ++ drop (n + spare n) b) here in
    let seven : spare n + (7 - spare n) ≡ 7 = omega arith in
    let more : (w ++ z) ++ replicate (7 - spare n) false ≡ w ++ replicate 7 false =
    append_assoc w z (replicate (7 - spare n) false) ∙ ap (λ (u : Word). w ++ u) (replicate-append-replicate (spare n) (7 - spare n) false ∙ ap (λ (k : ℕ). replicate k false) seven) in
    sym (from_bits-take 8 m bs small room)
    ∙ ap (from_bits 8 m) whole
    ∙ from_bits_front 8 m (w ++ z) (drop (n + spare n) b) (omega arith)
    ∙ sym (from_bits_front 8 m (w ++ z) (replicate (7 - spare n) false) (omega arith))
    ∙ (λ i. from_bits 8 (bytes_for (sym e i)) (more i))
