-- Laws of layouts and written strands, in the order of the definitions.
use Rattle.std.specs.Prelude.{◌≡◌, refl, Bool, true, false, List, [], ◌∷◌, map, ℕ, zero, suc, ◌*◌, ◌<◌, ◌≤◌, length, get_or, drop}
use Rattle.std.proofs.Common.{ap, ◌∙◌, mul-suc, arith, length-append, length-drop, take-append-drop, take_at, drop_at, length-take-le}
use Rattle.code.specs.Symbols.{Below}
use Rattle.code.proofs.laws.Below.{Below-append, Below-take, Below-drop}
use Rattle.code.specs.Segment.{segment, last_of}
use Rattle.code.proofs.laws.Segment.{length-segment, segment-Below}
use Rattle.code.specs.Layout.{sum, Lengths, done, more, cut, joined, written, strand, extent}

-- every message of a list is below n
pub data Each (P : List ℕ → Type 0) : List (List ℕ) → Type 0 where
  none : Each P []
  both : {m : List ℕ} {ms : List (List ℕ)} → P m → Each P ms → Each P (m ∷ ms)

-- the sum of a layout's lengths
pub sum_most : {most : ℕ} (ks : List ℕ) → Lengths most ks → sum ks ≤ most * length ks
unfolding sum
sum_most [] done = omega arith
sum_most {most} (k ∷ ks) (more h m hs) = omega (arith, sum_most ks hs, mul-suc most (length ks))

-- lengths within one bound are within a larger one
pub Lengths-within : {most more_than : ℕ} {ks : List ℕ} → Lengths most ks → most ≤ more_than → Lengths more_than ks
Lengths-within done e = done
Lengths-within (more h m hs) e = more h (omega arith) (Lengths-within hs e)

-- each length of a layout is within its bounds
pub Lengths-at : {most : ℕ} (ks : List ℕ) (i : ℕ) → Lengths most ks → i < length ks → (2 ≤ get_or ks i 0) × (get_or ks i 0 ≤ most)
Lengths-at [] i done p = absurd (omega arith)
Lengths-at (k ∷ ks) zero (more h m hs) p = (h, m)
Lengths-at (k ∷ ks) (suc i) (more h m hs) p = Lengths-at ks i hs (omega arith)

-- the messages have the lengths of the layout
pub cut_lengths : (ks s : List ℕ) → length s ≡ sum ks → map length (cut ks s) ≡ ks
unfolding cut sum
cut_lengths [] s e = refl
cut_lengths (k ∷ ks) s e =
    let h = length-take-le k s (omega arith) in
    rw (h, cut_lengths ks (drop k s) (simp length-drop (omega arith)))

pub length-cut : (ks s : List ℕ) → length (cut ks s) ≡ length ks
unfolding cut
length-cut [] s = refl
length-cut (k ∷ ks) s = ap suc (length-cut ks (drop k s))

pub cut-Below : {n : ℕ} (ks s : List ℕ) → Below n s → Each (Below n) (cut ks s)
unfolding cut
cut-Below [] s h = none
cut-Below (k ∷ ks) s h = both (Below-take k s h) (cut-Below ks (drop k s) (Below-drop k s h))

-- what was cut and is joined is whole
pub joined-cut : (ks s : List ℕ) → length s ≡ sum ks → joined (cut ks s) ≡ s
unfolding joined cut sum
joined-cut [] [] e = refl
joined-cut [] (x ∷ s) e = absurd (omega arith)
joined-cut (k ∷ ks) s e = rw (joined-cut ks (drop k s) (simp length-drop (omega arith))) (take-append-drop k s)

-- what was joined is cut again
pub cut-joined : (ms : List (List ℕ)) → cut (map length ms) (joined ms) ≡ ms
unfolding joined cut
cut-joined [] = refl
cut-joined (m ∷ ms) = rw (take_at m (joined ms) (length m) refl, drop_at m (joined ms) (length m) refl, cut-joined ms)

-- a written strand has the layout's length
pub length-written : (marked : Bool) (f : ℕ) (ms : List (List ℕ)) → length (written marked f ms) ≡ extent marked (map length ms)
unfolding written extent
length-written marked f [] = refl
length-written marked f (m ∷ ms) = simp length-append (omega (arith, length-segment marked f m, length-written true (last_of m) ms))

-- the strand of symbols cut by a layout too
pub length-strand-cut : (ks s : List ℕ) → length s ≡ sum ks → length (strand (cut ks s)) ≡ extent false ks
length-strand-cut ks s e = length-written false 0 (cut ks s) ∙ ap (extent false) (cut_lengths ks s e)

pub written-Below : (marked : Bool) (f : ℕ) (ms : List (List ℕ)) → Each (Below 4) ms → Below 4 (written marked f ms)
unfolding written
written-Below marked f [] none = λ i. omega arith
written-Below marked f (m ∷ ms) (both h hs) = Below-append (segment marked f m) (written true (last_of m) ms) (segment-Below marked f m h) (written-Below true (last_of m) ms hs)
