-- A segment that is being written, by its parts.
--   Bits                              the syndrome symbols that are written, from the last on
--   mark-true, mark-false, mark-size  the marker, and a segment's length
--   put_parts                         marker, message and tail are the segment
use mathlib.Core.Path.{◌≡◌, refl, sym, ap, ◌∙◌}
use mathlib.Core.Bool.{Bool, true, false}
use mathlib.Core.List.{List, [], ◌∷◌, ◌++◌, append_assoc, append-nil}
use Prim.Native.Nat.{ℕ, zero, suc, ◌+◌, ◌-◌, ◌*◌, ◌/◌, ◌<◌, ◌≤◌}
use native.Mathlib.Omega.{arith}
use lib.Bits.{bit_and}
use lib.ListN.{length, get_or, take, drop, set, length-append, length-set}
use lib.Seq.{take-suc, length-take-le, set_at}
use Rattle.code.specs.Buffers.{put_at}
use Rattle.code.proofs.laws.Lists.{put_nothing}
use Rattle.copying.proofs.Blocks.{put_both}
use Rattle.code.specs.Layers.{pair, bits, width}
use Rattle.code.specs.Segment.{sep, marker, segment, size}
use Rattle.tail.specs.declared.Tail.{Tail}
use Rattle.tail.specs.Tails.{mark, IsTail, tail_of}
use Rattle.tail.proofs.SumsAndBits.{bits_last}
use Rattle.tail.proofs.Tails.{tail_symbols, marked_block}

-- one more symbol before a block
put_before : (d b : List ℕ) (n v : ℕ) → n < length d → set (put_at d (suc n) b) n v ≡ put_at d n (v ∷ b)
unfolding put_at
put_before d b n v h =
    let x = get_or d n 0 in
    let r = drop (suc n + length b) d in
    let t : length (take n d) ≡ n = length-take-le n d (omega arith) in
    let q : n + length (v ∷ b) ≡ suc n + length b = omega arith in
    let parts : ((take n d ++ x ∷ []) ++ b) ++ r ≡ take n d ++ x ∷ (b ++ r) = append_assoc (take n d ++ x ∷ []) b r ∙ append_assoc (take n d) (x ∷ []) (b ++ r) in
    rw (take-suc d n 0 h, q) (ap (λ (l : List ℕ). set l n v) parts ∙ (set_at (take n d) x (b ++ r) v n t ∙ sym (append_assoc (take n d) (v ∷ b) r)))

module _ (d : List ℕ) (at high low t : ℕ) where
  -- the symbols from place i on are written; those before it are of what is left of both numbers
  pub record Bits (i h l : ℕ) (o : List ℕ) : Type 0 where
    pub inside : i ≤ t
    pub room : length o ≡ length d
    done : List ℕ
    whole : pair (bits i h) (bits i l) ++ done ≡ pair (bits t high) (bits t low)
    stands : o ≡ put_at d (at + i) done

  pub Bits-begin : Bits t high low d
  Bits-begin = record { inside = omega arith; room = refl; done = []; whole = append-nil (pair (bits t high) (bits t low)); stands = sym (put_nothing d (at + t)) }

  pub Bits-turn : (i h l : ℕ) (o : List ℕ) → 0 < i → at + t ≤ length d → Bits i h l o → Bits (i - 1) (h / 2) (l / 2) (set o (at + (i - 1)) (2 * bit_and h 1 + bit_and l 1))
  Bits-turn i h l o some fits b =
      let n = i - 1 in
      let x = 2 * bit_and h 1 + bit_and l 1 in
      let e : i ≡ suc n = omega arith in
      let s : at + i ≡ suc (at + n) = omega arith in
      let last : pair (bits i h) (bits i l) ≡ pair (bits n (h / 2)) (bits n (l / 2)) ++ x ∷ [] = ap (λ (j : ℕ). pair (bits j h) (bits j l)) e ∙ bits_last n h l in
      record {
        inside = omega (arith, b.inside);
        room = simp length-set b.room;
        done = x ∷ b.done;
        whole = sym (append_assoc (pair (bits n (h / 2)) (bits n (l / 2))) (x ∷ []) b.done) ∙ (ap (λ (w : List ℕ). w ++ b.done) (sym last) ∙ b.whole);
        stands = rw (b.stands, s) (put_before d b.done (at + n) x (omega (arith, b.inside)));
      }

  pub bits_end : (i h l : ℕ) (o : List ℕ) → i ≤ 0 → Bits i h l o → o ≡ put_at d at (pair (bits t high) (bits t low))
  unfolding pair bits
  bits_end zero h l o z b = let e : at + 0 ≡ at = omega arith in b.stands ∙ rw (e, ← b.whole)
  bits_end (suc i) h l o z b = absurd (omega arith)

pub mark-true : (marked : Bool) (f : ℕ) (m : List ℕ) → marked ≡ true → mark marked f m ≡ marker f m ∷ marker f m ∷ []
unfolding mark
mark-true marked f m e = rw e

pub mark-false : (marked : Bool) (f : ℕ) (m : List ℕ) → marked ≡ false → mark marked f m ≡ []
unfolding mark
mark-false marked f m e = rw e

-- what Sep gives for f and a message is its marker
pub is_marker : (f : ℕ) (m : List ℕ) (x : ℕ) → x ≡ sep f (get_or m 0 0) (get_or m 1 0) → x ≡ marker f m
unfolding marker
is_marker f m x e = e

pub mark-size : (marked : Bool) (f : ℕ) (m : List ℕ) → length (mark marked f m) + (length m + (4 + width (length m))) ≡ size marked (length m)
unfolding mark size
mark-size true f m = refl
mark-size false f m = refl

-- marker, message and tail, one behind the other, are the segment
pub put_parts : (d o₁ o₂ m : List ℕ) (marked : Bool) (f at start : ℕ) (t : Tail) → IsTail m t → at + size marked (length m) ≤ length d → start ≡ at + length (mark marked f m) → o₁ ≡ put_at d at (mark marked f m) → o₂ ≡ put_at o₁ start m → put_at o₂ (start + length m) (tail_of t) ≡ put_at d at (segment marked f m)
put_parts d o₁ o₂ m marked f at start t tail room place e₁ e₂ =
    let k = mark marked f m in
    let n = mark-size marked f m in
    let both : o₂ ≡ put_at d at (k ++ m) = e₂ ∙ rw e₁ (put_both d k m at start place (omega arith)) in
    let whole : k ++ m ++ tail_of t ≡ segment marked f m = append_assoc k m (tail_of t) ∙ rw (tail_symbols m t tail) (marked_block marked f m) in
    rw (both, put_both d (k ++ m) (tail_of t) at (start + length m) (simp length-append (omega arith)) (omega arith), whole)
