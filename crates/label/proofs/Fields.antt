-- A field of a label, from the two bytes in which it stands.
--   two_field   the number in some bits of two bytes
--   one_shift   a power of two by a shift
--   list_next   one more length is read
--   list_all    all lengths are read
use mathlib.Core.Path.{◌≡◌, refl, sym, ap, ◌∙◌}
use mathlib.Core.List.{List, [], ◌∷◌, ◌++◌, append_assoc}
use Prim.Native.Nat.{ℕ, ◌+◌, ◌-◌, ◌*◌, ◌/◌, ◌%◌, ◌^◌, ◌≤◌, ◌<◌}
use native.Mathlib.Numerals.{add-one}
use native.Mathlib.Omega.{arith}
use lib.ListN.{length, get_or, take, drop, set, length-drop}
use lib.Seq.{drop-drop, get_or-drop, take-append-le, drop-append-le, take_all, take-suc, take-suc-set}
use lib.Pow.{shl_exact}
use Rattle.code.specs.Symbols.{Below}
use Rattle.code.specs.Layers.{Word, bits, number}
use Rattle.code.proofs.laws.Below.{Below-drop}
use Rattle.code.specs.Label.{in_bits, from_bits, field}
use Rattle.code.proofs.laws.Bits.{bits_join, number_part, length-in_bits, in_bits-append, drop-in_bits, length-from_bits, get_or-from_bits}

-- two bytes before others; a missing one counts 0
two_first : (bs : List ℕ) → (rest : List ℕ) × (bs ++ 0 ∷ 0 ∷ [] ≡ get_or bs 0 0 ∷ get_or bs 1 0 ∷ rest)
two_first [] = ([], refl)
two_first (x ∷ []) = (0 ∷ [], refl)
two_first (x ∷ y ∷ bs) = (bs ++ 0 ∷ 0 ∷ [], refl)

-- the number in w bits behind the first r of the first two bytes
two_part : (bs : List ℕ) (r w : ℕ) → Below 256 bs → r + w ≤ 16 → r + w ≤ 8 * length bs → number (take w (drop r (in_bits 8 bs))) ≡ (get_or bs 0 0 * 256 + get_or bs 1 0) / 2 ^ (16 - r - w) % 2 ^ w
unfolding in_bits
two_part bs r w small here there =
    let x = get_or bs 0 0 in
    let y = get_or bs 1 0 in
    let m = 16 - r - w in
    let zeros = in_bits 8 (0 ∷ 0 ∷ []) in
    let l : length (in_bits 8 bs) ≡ 8 * length bs = length-in_bits 8 bs in
    let p = two_first bs in
    let all : in_bits 8 bs ++ zeros ≡ bits 16 (x * 256 + y) ++ in_bits 8 p.0 =
    sym (in_bits-append 8 bs (0 ∷ 0 ∷ []))
    ∙ ap (in_bits 8) p.1
    ∙ sym (append_assoc (bits 8 x) (bits 8 y) (in_bits 8 p.0))
    ∙ ap (λ (u : Word). u ++ in_bits 8 p.0) (sym (bits_join 8 8 x y (small 1))) in
    let sixteen : 16 ≡ r + (w + m) = omega arith in
    let front : take w (drop r (in_bits 8 bs)) ≡ take w (drop r (in_bits 8 bs ++ zeros)) =
    sym (take-append-le w (drop r (in_bits 8 bs)) zeros (rw (length-drop r (in_bits 8 bs)) (omega arith)))
    ∙ ap (take w) (sym (drop-append-le r (in_bits 8 bs) zeros (omega arith))) in
    ap number front
    ∙ ap (λ (u : Word). number (take w (drop r u))) (all ∙ ap (λ (n : ℕ). bits n (x * 256 + y) ++ in_bits 8 p.0) sixteen)
    ∙ number_part r w m (x * 256 + y) (in_bits 8 p.0)

-- the number in w bits behind the first `at`, from the two bytes in which it stands
pub two_field : (bs : List ℕ) (at w : ℕ) → Below 256 bs → at % 8 + w ≤ 16 → at + w ≤ 8 * length bs → field at w bs ≡ (get_or bs (at / 8) 0 * 256 + get_or bs (at / 8 + 1) 0) / 2 ^ (16 - at % 8 - w) % 2 ^ w
two_field bs at w small here there =
    let q = at / 8 in
    let whole : at ≡ 8 * q + at % 8 = omega arith in
    let behind : drop at (in_bits 8 bs) ≡ drop (at % 8) (in_bits 8 (drop q bs)) =
    ap (λ (n : ℕ). drop n (in_bits 8 bs)) whole ∙ sym (drop-drop (at % 8) (8 * q) (in_bits 8 bs)) ∙ ap (drop (at % 8)) (drop-in_bits 8 q bs) in
    let x : get_or (drop q bs) 0 0 ≡ get_or bs q 0 = get_or-drop q bs 0 0 ∙ ap (λ (n : ℕ). get_or bs n 0) (let e : q + 0 ≡ q = omega arith in e) in
    let y : get_or (drop q bs) 1 0 ≡ get_or bs (q + 1) 0 = get_or-drop q bs 1 0 in
    ap (λ (u : Word). number (take w u)) behind
    ∙ two_part (drop q bs) (at % 8) w (Below-drop q bs small) here (rw (length-drop q bs) (omega arith))
    ∙ (λ i. (x i * 256 + y i) / 2 ^ (16 - at % 8 - w) % 2 ^ w)

-- a power of two by a shift
pub one_shift : (w : ℕ) → w ≤ 16 → 1 * 2 ^ w % 4294967296 ≡ 2 ^ w
one_shift w h = shl_exact {a = 1} 1 w 32 (omega arith) (omega arith) ∙ omega arith

-- Lengths, one after the other

module _ (bs a : List ℕ) (at w n i : ℕ) where
  -- one more length is read
  pub list_next : (v : ℕ) → i < n → i < length a → v ≡ field (at + w * i) w bs → take i a ≡ take i (from_bits w n (drop at (in_bits 8 bs))) → take (i + 1) (set a i v) ≡ take (i + 1) (from_bits w n (drop at (in_bits 8 bs)))
  list_next v h room is e =
      let ks = from_bits w n (drop at (in_bits 8 bs)) in
      let next : get_or ks i 0 ≡ v = get_or-from_bits w n i (drop at (in_bits 8 bs)) h ∙ ap (λ (u : Word). number (take w u)) (drop-drop (w * i) at (in_bits 8 bs)) ∙ sym is in
      ap (λ (m : ℕ). take m (set a i v)) (add-one i)
      ∙ take-suc-set a i v room
      ∙ (λ j. e j ++ sym next j ∷ [])
      ∙ sym (take-suc ks i 0 (rw (length-from_bits w n (drop at (in_bits 8 bs))) h))
      ∙ ap (λ (m : ℕ). take m ks) (sym (add-one i))

  -- all lengths are read
  pub list_all : i ≡ n → take i a ≡ take i (from_bits w n (drop at (in_bits 8 bs))) → take n a ≡ from_bits w n (drop at (in_bits 8 bs))
  list_all all e =
      ap (λ (m : ℕ). take m a) (sym all) ∙ e ∙ take_all i (from_bits w n (drop at (in_bits 8 bs))) (rw (length-from_bits w n (drop at (in_bits 8 bs))) (omega arith))
