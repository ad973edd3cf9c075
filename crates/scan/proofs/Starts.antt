-- A start that the search found: it is clean, inside the strand and above P; and what the answer of a search tells.
use Rattle.std.specs.Prelude as Prelude
use Rattle.std.specs.Prelude.{IfSome}
use mathlib.Core.Path.{◌≡◌, refl, sym, ◌∙◌}
use mathlib.Core.Bool.{Bool, true, false, cond, true≢false}
use mathlib.Core.List.{List, [], ◌∷◌}
use mathlib.Core.Option.{Option, some, none}
use Prim.Native.Nat.{ℕ, ◌+◌, ◌≤◌, ◌<◌}
use native.Mathlib.Decide.{dec_le}
use native.Mathlib.Nat.{lt_of_not-le}
use native.Mathlib.Omega.{arith}
use lib.ListN.{length, drop, length-drop}
use lib.Seq.{drop-drop}
use Rattle.code.specs.Limits.{most_letters}
use Rattle.code.specs.Bounds.{Length}
use Rattle.code.specs.Symbols.{as_symbols}
use Rattle.code.proofs.laws.Letters.{length_as, as_Below}
use Rattle.code.proofs.laws.Below.{Below-drop}
use Rattle.code.proofs.laws.Layers.{width-Least}
use Rattle.code.specs.Segment.{size}
use Rattle.code.proofs.laws.Segment.{width_two}
use Rattle.code.specs.Reading.{clean}
use Rattle.scan.specs.Scans.{first_clean, letter_before, clean_from, searched, start_of, start_from, Known}
use Rattle.scan.proofs.laws.Scans.{clean_short, letter_below}

-- a segment's size is one that the search takes
pub size_room : (marked : Bool) (k : ℕ) → Length k → (8 ≤ size marked k) × (size marked k ≤ most_letters)
unfolding size
size_room true k h = (omega (arith, width_two k h.0), omega (arith, (width-Least k).least 16 (omega arith)))
size_room false k h = (omega (arith, width_two k h.0), omega (arith, (width-Least k).least 16 (omega arith)))

-- a start that is found is clean
pub clean_first : (k : ℕ) (g : ℕ → ℕ) (s letters os : List ℕ) (o : ℕ) → first_clean k g s letters os ≡ some o → clean k (g o) (drop o s) (drop o letters) ≡ true
unfolding first_clean
clean_first k g s letters [] o e = absurd (let z : ◌≡◌ {A = ℕ} 0 1 = cc in omega arith)
clean_first k g s letters (x ∷ os) o e = go (clean k (g x) (drop x s) (drop x letters)) refl e (clean_first k g s letters os o)
  where
    go : (b : Bool) → clean k (g x) (drop x s) (drop x letters) ≡ b → cond b (some x) (first_clean k g s letters os) ≡ some o → (first_clean k g s letters os ≡ some o → clean k (g o) (drop o s) (drop o letters) ≡ true) → clean k (g o) (drop o s) (drop o letters) ≡ true
    go true t e h = let q : x ≡ o = cc in rw (← q) t
    go false t e h = h e

pub clean_inside : (k f : ℕ) (s letters : List ℕ) → length s ≡ length letters → (o : ℕ) → clean k f (drop o s) (drop o letters) ≡ true → o + size true k ≤ length s
clean_inside k f s letters same o e = go (dec_le (o + size true k) (length s))
  where
    go : Dec (o + size true k ≤ length s) → o + size true k ≤ length s
    go (yes l) = l
    go (no l) = absurd (true≢false (sym e ∙ clean_short k f s letters same o (lt_of_not-le l)))

-- a start that is found is inside
pub first_inside : (k : ℕ) (g : ℕ → ℕ) (s letters os : List ℕ) → length s ≡ length letters → (o : ℕ) → first_clean k g s letters os ≡ some o → o ≤ length s
first_inside k g s letters os same o e = omega (arith, clean_inside k (g o) s letters same o (clean_first k g s letters os o e))

-- The answer of a search

module _ (given : Prelude.Option ℕ) (k passed p : ℕ) (os letters : List ℕ) where
  abbrev S : List ℕ
  S = drop p (as_symbols letters)

  abbrev g : ℕ → ℕ
  g = letter_before given S

  -- the start that it names
  pub searched_start : start_of (searched given k passed p os letters) ≡ start_from passed p g (first_clean k g S (drop p letters) os)
  searched_start = go (first_clean k g S (drop p letters) os)
    where
      go : (x : Option ℕ) → start_of (clean_from passed p g x) ≡ start_from passed p g x
      go (some o) = refl
      go none = refl

  -- what holds of it, k being the length behind those that are passed
  pub searched-Known : IfSome given (λ f. f < 4) → p ≤ length letters → (ks later : List ℕ) → drop passed ks ≡ k ∷ later → Known (as_symbols letters) letters ks (searched given k passed p os letters)
  searched-Known symbol inside ks later e = go (first_clean k g S (drop p letters) os) refl
    where
      from : length S ≡ length (drop p letters)
      from = simp length-drop (omega (arith, length_as letters))

      go : (x : Option ℕ) → first_clean k g S (drop p letters) os ≡ x → Known (as_symbols letters) letters ks (clean_from passed p g x)
      go none q = tt
      go (some o) q =
          let l = first_inside k g S (drop p letters) os from o q in
          (record { inside = omega (arith, l, length-drop p (as_symbols letters), length_as letters); symbol = letter_below given S (Below-drop p (as_symbols letters) (as_Below letters)) symbol o }, rw (e, ← drop-drop o p (as_symbols letters), ← drop-drop o p letters) (clean_first k g S (drop p letters) os o q))
