-- A written segment stands in its place where its parts do.
use mathlib.Core.Path.{◌≡◌, refl, sym, ap, ◌∙◌}
use mathlib.Core.Bool.{Bool, true, false, true≢false, ◌&&◌}
use mathlib.Core.List.{List, [], ◌∷◌, cons≢nil}
use Prim.Native.Nat.{ℕ, ◌+◌, ◌-◌, ◌≤◌, ◌<◌}
use native.Mathlib.Omega.{arith}
use native.Mathlib.Decide.{dec_le}
use borrow.Author.Tests.{eqb-true}
use lib.Dec.{eqb}
use lib.ListN.{length, get_or, take, drop, length-drop}
use Rattle.code.proofs.laws.Lists.{drop_four}
use lib.Seq.{drop-drop, length-take-le, take_all}
use Rattle.code.specs.Segment.{check, separator, syndrome_of, block, segment, size, data_at}
use Rattle.code.proofs.laws.Segment.{length-segment}
use Rattle.code.specs.Layers.{width}
use Rattle.code.specs.Reading.{is_prefix}
use Rattle.code.proofs.laws.Reading.{and-true, and-false}
use Rattle.places.proofs.TestsAtPlaces.{block_past}
use Rattle.tail.specs.Tails.{mark}
use Rattle.clean.proofs.Parts.{prefix_append, segment_seen}
use Rattle.clean.specs.Clean.{may_end, behind_message, stands, stands_at}

-- four symbols, compared side by side

and_nested : (a b c d : Bool) → (((a && b) && c) && d) ≡ (a && (b && (c && (d && true))))
and_nested false b c d = refl
and_nested true false c d = refl
and_nested true true false d = refl
and_nested true true true false = refl
and_nested true true true true = refl

pub four_symbols : (s : List ℕ) (to c x : ℕ) → to + 4 ≤ length s → (((eqb c (get_or s to 0) && eqb x (get_or s (to + 1) 0)) && eqb x (get_or s (to + 2) 0)) && eqb x (get_or s (to + 3) 0)) ≡ is_prefix (c ∷ x ∷ x ∷ x ∷ []) (drop to s)
unfolding is_prefix
four_symbols s to c x room =
    and_nested (eqb c (get_or s to 0)) (eqb x (get_or s (to + 1) 0)) (eqb x (get_or s (to + 2) 0)) (eqb x (get_or s (to + 3) 0))
    ∙ rw (drop_four s to 0 (omega arith))

-- check and separators, and the syndrome behind them
module _ (m s : List ℕ) (to : ℕ) where
  abbrev front : ℕ → List ℕ
  front x = check m ∷ x ∷ x ∷ x ∷ []

  tail_parts : is_prefix (behind_message m) (drop to s) ≡ (is_prefix (front (separator m)) (drop to s) && is_prefix (syndrome_of m) (drop (to + 4) s))
  unfolding behind_message
  tail_parts = prefix_append (front (separator m)) (syndrome_of m) (drop to s) ∙ rw (drop-drop 4 to s)

  -- the separator x, from the symbols that stand for the syndrome
  module _ (x : ℕ) (is : is_prefix (syndrome_of m) (drop (to + 4) s) ≡ true → x ≡ separator m) where
    pub front_fails : is_prefix (front x) (drop to s) ≡ false → false ≡ is_prefix (behind_message m) (drop to s)
    front_fails e = sym (tail_parts ∙ go (is_prefix (syndrome_of m) (drop (to + 4) s)) refl)
      where
        go : (b : Bool) → is_prefix (syndrome_of m) (drop (to + 4) s) ≡ b → (is_prefix (front (separator m)) (drop to s) && b) ≡ false
        go true h = rw (← is h, e)
        go false h = and-false (is_prefix (front (separator m)) (drop to s))

    pub front_holds : is_prefix (front x) (drop to s) ≡ true → (r : Bool) → r ≡ is_prefix (syndrome_of m) (drop (to + 4) s) → r ≡ is_prefix (behind_message m) (drop to s)
    front_holds e r h = h ∙ sym (tail_parts ∙ go (is_prefix (syndrome_of m) (drop (to + 4) s)) refl)
      where
        go : (b : Bool) → is_prefix (syndrome_of m) (drop (to + 4) s) ≡ b → (is_prefix (front (separator m)) (drop to s) && b) ≡ b
        go true q = rw (← is q, e)
        go false q = and-false (is_prefix (front (separator m)) (drop to s))

pub size_data : (marked : Bool) (k : ℕ) → size marked k ≡ data_at marked + (k + (4 + width k))
unfolding size
size_data true k = refl
size_data false k = refl

-- the segment of the k symbols at D, at p
module _ (marked : Bool) (f k : ℕ) (ks : List ℕ) (p : ℕ) (s : List ℕ) where
  abbrev S : List ℕ
  S = drop p s

  abbrev D : List ℕ
  D = drop (data_at marked) S

  abbrev seen : Bool
  seen = stands marked f k p s

  -- it does not stand, or may not end where it does
  pub stands_not : seen ≡ false → false ≡ stands_at marked f k ks p s
  unfolding stands_at
  stands_not e = rw e

  pub ends_not : may_end ks (p + size marked k) (length s) ≡ false → false ≡ stands_at marked f k ks p s
  unfolding stands_at
  ends_not e = rw e (sym (and-false seen))

  -- it may end where it does
  pub stands_there : may_end ks (p + size marked k) (length s) ≡ true → (b : Bool) → seen ≡ b → b ≡ stands_at marked f k ks p s
  unfolding stands_at
  stands_there h b e = rw (e, h) (sym (and-true b))

  -- what a segment that stands says
  pub record Told : Type 0 where
    pub standing : seen ≡ true
    pub last : ks ≡ [] → p + size marked k ≡ length s

  pub stands_tells : stands_at marked f k ks p s ≡ true → Told
  unfolding stands_at
  stands_tells h = go seen refl ks refl h
    where
      go : (b : Bool) → seen ≡ b → (l : List ℕ) → ks ≡ l → (b && may_end l (p + size marked k) (length s)) ≡ true → Told
      go false q l e r = absurd (true≢false (sym r))
      go true q [] e r = record { standing = q; last = λ z. eqb-true (p + size marked k) (length s) r }
      go true q (x ∷ l) e r = record { standing = q; last = λ z. absurd (cons≢nil (sym e ∙ z)) }

  -- a segment needs more symbols than there are
  pub too_short : length s < p + size marked k → p ≤ length s → seen ≡ false
  too_short h inside = block_past s p (segment marked f (take k D)) (go (dec_le k (length D)))
    where
      long : length (segment marked f (take k D)) ≡ data_at marked + (length (take k D) + (4 + width (length (take k D))))
      long = length-segment marked f (take k D) ∙ size_data marked (length (take k D))

      go : Dec (k ≤ length D) → length s - p < length (segment marked f (take k D))
      go (yes l) = let e = length-take-le k D l in omega (arith, long, e, size_data marked k, ap width e)
      go (no l) = omega (arith, long, ap length (take_all k D (omega arith)), length-drop (data_at marked) S, length-drop p s)

  module _ (d : ℕ) (place : d ≡ p + data_at marked) (two : 2 ≤ k) where
    seen_parts : seen ≡ (is_prefix (mark marked f D) S && is_prefix (behind_message (take k (drop d s))) (drop (d + k) s))
    unfolding block behind_message
    seen_parts = segment_seen marked f p s k two d (behind_message (take k (drop d s))) place refl

    pub marker_fails : is_prefix (mark marked f D) S ≡ false → seen ≡ false
    marker_fails e = seen_parts ∙ rw e

    pub tail_decides : is_prefix (mark marked f D) S ≡ true → (b : Bool) → b ≡ is_prefix (behind_message (take k (drop d s))) (drop (d + k) s) → seen ≡ b
    tail_decides e b h = seen_parts ∙ rw (e, h)

-- a part of k symbols, as the logic puts it
pub from_to : (d k : ℕ) (s : List ℕ) (r : Bool) → r ≡ is_prefix (behind_message (take (d + k - d) (drop d s))) (drop (d + k) s) → r ≡ is_prefix (behind_message (take k (drop d s))) (drop (d + k) s)
from_to d k s r e = let n : d + k - d ≡ k = omega arith in rw n at e
