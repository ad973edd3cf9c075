-- One step of each loop.
--   symbols_next   the symbols of one more byte
--   put_chunk       four more symbols are written
--   pack_step      one more byte of symbols
use mathlib.Core.Path.{◌≡◌, refl, sym, ◌∙◌}
use mathlib.Core.List.{List, ◌++◌, append_assoc}
use Prim.Native.Nat.{ℕ, ◌+◌, ◌-◌, ◌*◌, ◌<◌, ◌≤◌}
use native.Mathlib.Omega.{arith}
use borrow.Rule.Slice.PartMut.{put_mid}
use lib.ListN.{length, get_or, take, drop, set}
use lib.Seq.{drop-cons, drop-drop, take-add, take_at, drop_at, length-take-le}
use Rattle.code.proofs.laws.Lists.{write_next, drop_four}
use Rattle.code.specs.Symbols.{symbols_of, byte_of, symbols, bytes}
use Rattle.code.proofs.laws.Symbols.{symbols-drop, bytes-drop}

-- the symbols of one more byte
pub symbols_next : (bs : List ℕ) (i : ℕ) → i < length bs → take (4 * i + 4) (symbols bs) ≡ take (4 * i) (symbols bs) ++ symbols_of (get_or bs i 0)
unfolding symbols
symbols_next bs i h = take-add (4 * i) 4 (symbols bs) ∙ rw (symbols-drop i bs, drop-cons bs i 0 h)

-- four more symbols are written
pub put_chunk : (w d o b : List ℕ) (j : ℕ) → o ≡ take j w ++ drop j d → j ≤ length w → take (j + 4) w ≡ take j w ++ b → put_mid j (j + 4 - j) o b ≡ take (j + 4) w ++ drop (j + 4) d
put_chunk w d o b j e h next =
    let t : length (take j w) ≡ j = length-take-le j w h in
    let n : j + 4 - j ≡ 4 = omega arith in
    let is : put_mid j (j + 4 - j) o b ≡ take j o ++ (b ++ drop (j + 4 - j) (drop j o)) = refl in
    is ∙ rw (n, e, take_at (take j w) (drop j d) j t, drop_at (take j w) (drop j d) j t, next, drop-drop 4 j d) (sym (append_assoc (take j w) b (drop (j + 4) d)))

-- one more byte of symbols is written
pub pack_step : (m d : List ℕ) (i : ℕ) → 4 * i + 3 < length m → i < length d → set (take i (bytes m) ++ drop i d) i (byte_of (get_or m (4 * i) 0) (get_or m (4 * i + 1) 0) (get_or m (4 * i + 2) 0) (get_or m (4 * i + 3) 0)) ≡ take (i + 1) (bytes m) ++ drop (i + 1) d
unfolding bytes
pack_step m d i h room = write_next (bytes m) (bytes (drop (4 * i + 4) m)) d i _ (bytes-drop i m ∙ rw (drop_four m (4 * i) 0 h)) room
