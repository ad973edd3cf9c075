-- A block that is being put into a buffer.
--   put_next        one more symbol of a block
--   put_eight_lem   eight symbols one by one are a block
--   put_both        two neighbouring blocks are one
--   put_part        m more symbols of a block
--   put_whole       a block as long as the buffer is what it holds
use mathlib.Core.Path.{◌≡◌, refl, sym, ap, ◌∙◌}
use mathlib.Core.List.{List, [], ◌++◌, append-nil}
use Prim.Native.Nat.{ℕ, ◌+◌, ◌<◌, ◌≤◌}
use native.Mathlib.Numerals.{add-one}
use native.Mathlib.Omega.{arith}
use lib.ListN.{length, get_or, take, drop, set, length-drop, drop_of_length-le}
use lib.Seq.{take-suc, take-add, get_or-drop, length-take-le}
use Rattle.code.specs.Buffers.{put_at}
use Rattle.code.proofs.laws.Lists.{put_first, put_nothing, put_one, put_put}

-- one more symbol of those from place i on
pub put_next : (s d : List ℕ) (i j n k m : ℕ) → k ≡ i + n → m ≡ j + n → k < length s → m < length d → set (put_at d j (take n (drop i s))) m (get_or s k 0) ≡ put_at d j (take (n + 1) (drop i s))
put_next s d i j n k m ek em h room =
    let b = drop i s in
    let long : n < length b = simp length-drop (omega arith) in
    let q : length (take n b) ≡ n = length-take-le n b (omega arith) in
    rw (em, ek, ← get_or-drop i s n 0, add-one n, take-suc b n 0 long) (rw q at (put_one d j (take n b) (omega arith) (get_or b n 0) (omega arith)))

-- eight symbols, written one by one
pub put_eight_lem : (s d : List ℕ) (i j : ℕ) → i + 8 ≤ length s → j + 8 ≤ length d → set (set (set (set (set (set (set (set d j (get_or s i 0)) (j + 1) (get_or s (i + 1) 0)) (j + 2) (get_or s (i + 2) 0)) (j + 3) (get_or s (i + 3) 0)) (j + 4) (get_or s (i + 4) 0)) (j + 5) (get_or s (i + 5) 0)) (j + 6) (get_or s (i + 6) 0)) (j + 7) (get_or s (i + 7) 0) ≡ put_at d j (take 8 (drop i s))
put_eight_lem s d i j h room = rw (first, next 1 (omega arith), next 2 (omega arith), next 3 (omega arith), next 4 (omega arith), next 5 (omega arith), next 6 (omega arith), next 7 (omega arith))
  where
    next : (n : ℕ) → n < 8 → set (put_at d j (take n (drop i s))) (j + n) (get_or s (i + n) 0) ≡ put_at d j (take (n + 1) (drop i s))
    next n l = put_next s d i j n (i + n) (j + n) refl refl (omega arith) (omega arith)

    first : set d j (get_or s i 0) ≡ put_at d j (take 1 (drop i s))
    first = ap (λ (l : List ℕ). set l j (get_or s i 0)) (sym (put_nothing d j)) ∙ put_next s d i j 0 i j (omega arith) (omega arith) (omega arith) (omega arith)

-- two neighbouring blocks are one
pub put_both : (d b c : List ℕ) (at n : ℕ) → n ≡ at + length b → n ≤ length d → put_at (put_at d at b) n c ≡ put_at d at (b ++ c)
put_both d b c at n e h = rw e (put_put d at b (omega arith) c)

-- m more symbols of a block
pub put_part : (s d : List ℕ) (at n m : ℕ) → n ≤ length s → at + n ≤ length d → put_at (put_at d at (take n s)) (at + n) (take m (drop n s)) ≡ put_at d at (take (n + m) s)
put_part s d at n m h room =
    let q : length (take n s) ≡ n = length-take-le n s h in
    rw take-add (put_both d (take n s) (take m (drop n s)) at (at + n) (omega arith) room)

-- a block as long as the buffer is what it holds then
pub put_whole : (d b : List ℕ) → length b ≡ length d → put_at d 0 b ≡ b
put_whole d b e = let none_left : drop (length b) d ≡ [] = drop_of_length-le d {i = length b} (omega arith) in put_first d b ∙ rw (none_left, append-nil)
