-- Steps 3 to 7 as the code makes them, at places of the whole strand.
use mathlib.Core.Path.{◌≡◌, refl, ap, ◌∙◌}
use mathlib.Core.Bool.{Bool, true, false}
use mathlib.Core.List.{List, [], ◌∷◌}
use Prim.Native.Nat.{ℕ, ◌+◌, ◌-◌, ◌≤◌, ◌<◌}
use native.Mathlib.Omega.{arith}
use borrow.Author.Tests.{lt-ltb, le-ltb}
use lib.Dec.{ltb}
use lib.ListN.{length, take, drop, length-drop, drop_of_length-le}
use lib.Seq.{drop-drop, take_all, length-take-le}
use Rattle.code.specs.Bounds.{longest, widest}
use Rattle.code.specs.declared.Link.{Link}
use Rattle.code.specs.Layers.{width}
use Rattle.code.proofs.laws.Layers.{width-Least}
use Rattle.code.specs.Segment.{check}
use Rattle.code.specs.Reading.{is_prefix, Shift, level, early, late, moved, check_agrees, syndrome_agrees, after_separator, message, repaired, link_of, taken, message_at, message_without}
use Rattle.code.specs.Reading as R
use Rattle.tail.specs.declared.Tail.{Tail}
use Rattle.tail.specs.Tails.{syndrome_in, IsTail}
use Rattle.message.specs.MessageAnswers.{took_by, repaired_at}

-- the tests with what follows a message, at a place
check_at : (k d : ℕ) (s m : List ℕ) (c : ℕ) → c ≡ check m → is_prefix (c ∷ []) (drop (d + k) s) ≡ check_agrees k (drop d s) m
unfolding check_agrees
check_at k d s m c e = rw (e, drop-drop k d s)

pub syndrome_seen : (j : Shift) (k d : ℕ) (s m : List ℕ) (t : Tail) (at : ℕ) → IsTail m t → at ≡ d + (moved j (k + 1) + 3) → is_prefix (syndrome_in t) (drop at s) ≡ syndrome_agrees j k (drop d s) m
unfolding syndrome_agrees
syndrome_seen j k d s m t at i e = rw (i.symbols, e, drop-drop (moved j (k + 1) + 3) d s)

-- Step 6

pub without_short : (k d : ℕ) (s : List ℕ) → length s ≤ d + k → message_without k (drop d s) ≡ R.MessageResult.lost 6
unfolding message_without check_agrees is_prefix
without_short k d s h =
    let e : drop k (drop d s) ≡ [] = drop-drop k d s ∙ drop_of_length-le s h in
    rw e

module _ (k d : ℕ) (s : List ℕ) (c : ℕ) (b : Bool) (read : c ≡ check (take k (drop d s))) (seen : b ≡ is_prefix (c ∷ []) (drop (d + k) s)) where
  pub without_read : b ≡ true → message_without k (drop d s) ≡ message (take k (drop d s))
  unfolding message_without
  without_read e = rw (← check_at k d s (take k (drop d s)) c read, ← seen, e)

  pub without_lost : b ≡ false → message_without k (drop d s) ≡ R.MessageResult.lost 6
  unfolding message_without
  without_lost e = rw (← check_at k d s (take k (drop d s)) c read, ← seen, e)

-- Steps 4 and 5

pub took_taken : (j : Shift) (k d : ℕ) (s m : List ℕ) (t : Tail) → IsTail m t → took_by j k (drop d s) t ≡ taken j k (drop d s) m
unfolding check_agrees syndrome_agrees
took_taken level k d s m t i = rw (i.check, i.symbols)
took_taken early k d s m t i = rw i.symbols
took_taken late k d s m t i = rw i.symbols

module _ (j : Shift) (k d : ℕ) (s : List ℕ) (t : Tail) (b : Bool) (tail : IsTail (take k (drop d s)) t) (took : b ≡ took_by j k (drop d s) t) where
  pub shift_read : b ≡ true → message_at j k (drop d s) ≡ message (take k (drop d s))
  unfolding message_at
  shift_read e = rw (← took_taken j k d s (take k (drop d s)) t tail, ← took, e)

  pub shift_repaired : b ≡ false → message_at j k (drop d s) ≡ repaired (link_of j) (width k) (take (moved j k) (drop d s)) (after_separator j k (drop d s))
  unfolding message_at
  shift_repaired e = rw (← took_taken j k d s (take k (drop d s)) t tail, ← took, e)

-- Step 7

-- the written syndrome runs past the end
pub repaired_short : (j : Shift) (k d t : ℕ) (s : List ℕ) → t ≡ width k → 0 < t → length s < d + (moved j (k + 1) + 3) + t → repaired_at j k (drop d s) ≡ R.MessageResult.lost 7
unfolding repaired
repaired_short j k d t s e z h =
    let n = moved j (k + 1) + 3 in
    let q : ltb (length (drop n (drop d s))) (width k) ≡ true = lt-ltb (length (drop n (drop d s))) (width k) (simp length-drop (omega arith)) in
    rw q

-- only the first t symbols are read
repaired_front : (l : Link) (t : ℕ) (x w : List ℕ) → t ≤ length w → repaired l t x w ≡ repaired l (length (take t w)) x (take t w)
unfolding repaired
repaired_front l t x w h =
    let n = length-take-le t w h in
    let q : ltb (length (take t w)) (length (take t w)) ≡ false = le-ltb (length (take t w)) (length (take t w)) (omega arith) in
    rw (le-ltb (length w) t h, q, take_all (length (take t w)) (take t w) (omega arith))

-- a part from a place on, as the code takes it
pub part_is : (a n : ℕ) (s : List ℕ) (m : ℕ) → m ≡ a + n → take (m - a) (drop a s) ≡ take n (drop a s)
part_is a n s m e = let q : m - a ≡ n = omega arith in rw q

-- the received symbols as the code lends them
pub lent : (j : Shift) (k d v : ℕ) (s : List ℕ) → v ≡ moved j k → take (d + v - d) (drop d s) ≡ take (moved j k) (drop d s)
lent j k d v s e = part_is d v s (d + v) refl ∙ ap (λ (n : ℕ). take n (drop d s)) e

-- step 7 with the symbols that the code lends, the syndrome from place a on
pub repaired_by : (j : Shift) (k d t v a : ℕ) (s : List ℕ) (l : Link) → l ≡ link_of j → t ≡ width k → v ≡ moved j k → a ≡ d + (moved j (k + 1) + 3) → a + t ≤ length s → repaired_at j k (drop d s) ≡ repaired l (length (take (a + t - a) (drop a s))) (take (d + v - d) (drop d s)) (take (a + t - a) (drop a s))
repaired_by j k d t v a s l el et ev ea h =
    let n = moved j (k + 1) + 3 in
    rw (el, lent j k d v s ev, part_is a t s (a + t) refl, et, ea, ← drop-drop n d s)
    (repaired_front (link_of j) (width k) (take (moved j k) (drop d s)) (drop n (drop d s)) (simp length-drop (omega arith)))

pub moved_least : (j : Shift) (k : ℕ) → k ≤ moved j (k + 1)
moved_least level k = omega arith
moved_least early k = omega arith
moved_least late k = omega arith

-- the most syndrome symbols
pub width_most : (k : ℕ) → k ≤ longest → width k ≤ widest
width_most k h = (width-Least k).least 16 (omega arith)

-- behind a hit marker the message lies before the separator that was found
pub hit_room : (j : Shift) (k p n : ℕ) (s : List ℕ) → n ≡ moved j 2 → moved j (k + 1) + 3 ≤ length (drop (p + 2) s) → p + n + k ≤ length s
hit_room level k p n s e r = omega (arith, length-drop (p + 2) s)
hit_room early k p n s e r = omega (arith, length-drop (p + 2) s)
hit_room late k p n s e r = omega (arith, length-drop (p + 2) s)
