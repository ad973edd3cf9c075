-- How many starts the windows of a scan have.
--   full            the starts of the first windows, if all are above P
--   full_append     two rows of windows are fewer than one as long
--   full_number     how many they are
--   window_most     a window has at most its centre and the starts to both sides
--   length-window   it has so many, if all are above P
--   first_window    one fewer, if P is the last of them
--   size_above      a segment with a marker has more than 8 letters
--   length-tries    the starts of the windows behind p others
--   length_scan     the starts of all windows of a scan, if all are above P
--   scan_of_8       one fewer, if the lost segment has 8 letters
use Rattle.std.specs.Prelude.{◌≡◌, Bool, true, false, cond, List, [], ◌∷◌, map, ltb, length}
use Rattle.std.proofs.Math.Path.{refl}
use Rattle.std.proofs.Common.{add-one, length-append}
use Prim.Native.Nat.{ℕ, zero, suc, ◌+◌, ◌-◌, ◌*◌, ◌≤◌, ◌<◌}
use native.Mathlib.Omega.{arith}
use borrow.Author.Tests.{lt-ltb}
use Rattle.std.proofs.lemmas.List.{length-map}
use Rattle.code.specs.Segment.{size}
use Rattle.code.proofs.laws.Segment.{width_two}
use Rattle.code.specs.Layout.{Lengths, done, more}
use Rattle.code.specs.Strands.{above, pairs, window, try_at, tries}

-- the starts of the first j windows, if all are above P
unfoldable pub full : ℕ → ℕ
full zero = 0
full (suc j) = full j + (16 * suc j + 1)

-- one window more
pub full_next : (p : ℕ) → full (p + 1) ≡ full p + (16 * (p + 1) + 1)
unfolding full
full_next p = let e = add-one p in rw e

pub full_append : (a b : ℕ) → full a + full b ≤ full (a + b)
unfolding full
full_append zero b = let e : 0 + b ≡ b = omega arith in rw e (omega arith)
full_append (suc a) b = let e : suc a + b ≡ suc (a + b) = omega arith in rw e (omega (arith, full_append a b))

-- more windows have more starts
pub full_more : (a b : ℕ) → a ≤ b → full a ≤ full b
full_more a b h =
    let e : a + (b - a) ≡ b = omega arith in
    let m : full a + full (b - a) ≤ full b = rw e at (full_append a (b - a)) in
    omega arith

pub full_number : (j : ℕ) → full j ≡ 8 * suc j * j + j
unfolding full
full_number zero = refl
full_number (suc j) = omega (arith, full_number j)

-- Windows

length-pairs : (n d c : ℕ) → length (pairs n d c) ≡ 2 * c
unfolding pairs
length-pairs n d zero = refl
length-pairs n d (suc c) = omega (arith, length-pairs n (suc d) c)

above_most : (os : List ℕ) → length (above os) ≤ length os
unfolding above
above_most [] = omega arith
above_most (o ∷ os) = go (ltb 0 o) (above_most os)
  where
    go : (b : Bool) → length (above os) ≤ length os → length (cond b (o ∷ above os) (above os)) ≤ suc (length os)
    go true h = omega arith
    go false h = omega arith

pub window_most : (n c : ℕ) → length (window n c) ≤ 2 * c + 1
window_most n c = omega (arith, above_most (n ∷ pairs n 1 c), length-pairs n 1 c)

module _ (n : ℕ) where
  -- all starts of pairs up to d + c are above P
  above-pairs : (d c : ℕ) → 0 < d → d + c ≤ n → length (above (pairs n d c)) ≡ 2 * c
  unfolding above pairs
  above-pairs d zero h l = refl
  above-pairs d (suc c) h l = rw (lt-ltb 0 (n - d) (omega arith), lt-ltb 0 (n + d) (omega arith)) (omega (arith, above-pairs (suc d) c (omega arith) (omega arith)))

  -- of those up to n one is not
  above_last : (d c : ℕ) → 0 < d → d + c ≡ n → length (above (pairs n d (suc c))) ≡ 2 * c + 1
  unfolding above pairs
  above_last d zero h e = let z : n - d ≡ 0 = omega arith in rw (z, lt-ltb 0 (n + d) (omega arith))
  above_last d (suc c) h e = rw (lt-ltb 0 (n - d) (omega arith), lt-ltb 0 (n + d) (omega arith)) (omega (arith, above_last (suc d) c (omega arith) (omega arith)))

pub length-window : (n c : ℕ) → c < n → length (window n c) ≡ 2 * c + 1
unfolding above
length-window n c h = rw (lt-ltb 0 n (omega arith)) (omega (arith, above-pairs n 1 c (omega arith) (omega arith)))

pub first_window : (c : ℕ) → length (window (suc c) (suc c)) ≡ 2 * suc c
unfolding above
first_window c = rw (lt-ltb 0 (suc c) (omega arith)) (omega (arith, above_last (suc c) 1 c (omega arith) (omega arith)))

-- The windows of a scan

-- the centre moves by more than the window grows
pub size_above : (k : ℕ) → 2 ≤ k → 8 < size true k
unfolding size
size_above k h = omega (arith, width_two k h)

-- with the starts of p windows before them they are all
pub length-tries : {most : ℕ} (p n : ℕ) (ks : List ℕ) → Lengths most ks → 8 * (p + 1) < n → length (tries p n ks) + full p ≡ full (p + length ks)
unfolding tries
length-tries p n [] done h = let e : p + 0 ≡ p = omega arith in rw e (omega arith)
length-tries p n (k ∷ ks) (more two m ls) h =
    let w = map (try_at p k) (window n (8 * (p + 1))) in
    let e : p + suc (length ks) ≡ p + 1 + length ks = omega arith in
    rw (e, length-append w (tries (p + 1) (n + size true k) ks), length-map (window n (8 * (p + 1))) (try_at p k), length-window n (8 * (p + 1)) h)
    (omega (arith, full_next p, length-tries (p + 1) (n + size true k) ks ls (omega (arith, size_above k two))))

-- without any before them
pub length_scan : {most : ℕ} (n : ℕ) (ks : List ℕ) → Lengths most ks → 8 < n → length (tries 0 n ks) ≡ full (length ks)
unfolding full
length_scan n ks ls h = let e : 0 + length ks ≡ length ks = omega arith in let q = rw e at (length-tries 0 n ks ls (omega arith)) in omega arith

-- about 8 letters one fewer
pub scan_of_8 : {most : ℕ} (k : ℕ) (ks : List ℕ) → Lengths most (k ∷ ks) → length (tries 0 8 (k ∷ ks)) + 1 ≡ full (suc (length ks))
unfolding tries full
scan_of_8 k ks (more two m ls) =
    let w = map (try_at 0 k) (window 8 8) in
    let e : 1 + length ks ≡ suc (length ks) = omega arith in
    let q = rw e at (length-tries 1 (8 + size true k) ks ls (omega (arith, size_above k two))) in
    omega (arith, length-append w (tries 1 (8 + size true k) ks), length-map (window 8 8) (try_at 0 k), first_window 7)
