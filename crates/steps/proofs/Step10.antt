-- Step 10: what is answered of a lost segment.
--   Sought        how far the search has come
--   Sought-begin  it begins with the next segment
--   sought-bounds what the search about a centre asks
--   sought_past   all that is left to try has no room
--   sought_found  a segment stands
--   Sought-on     none stands: the one behind it is sought
--   sought_end    no segment is left
use Rattle.std.specs.Prelude.{None}
use mathlib.Core.Path.{◌≡◌, refl, sym, ap, subst, ◌∙◌}
use mathlib.Core.Bool.{Bool, true, false, cond}
use mathlib.Core.List.{List, [], ◌∷◌, map}
use mathlib.Core.Option.{Option, some, none}
use Prim.Native.Nat.{ℕ, zero, suc, ◌+◌, ◌-◌, ◌*◌, ◌<◌, ◌≤◌}
use native.Mathlib.Omega.{arith}
use lib.Dec.{ltb}
use lib.ListN.{length, get_or, drop, length-drop}
use Rattle.std.proofs.lemmas.List.{drop_all, drop_more}
use Rattle.code.specs.Symbols.{as_symbols}
use Rattle.code.proofs.laws.Letters.{as_length, length_as}
use Rattle.code.specs.Limits.{most_letters}
use Rattle.code.specs.Bounds.{longest, Length}
use Rattle.code.proofs.laws.Layers.{width-Least}
use Rattle.code.specs.Segment.{size}
use Rattle.code.proofs.laws.Segment.{width_two}
use Rattle.code.specs.Layout.{Lengths, done, more}
use Rattle.code.specs.Strands.{above, pairs, window, try_at, tries, first_standing, scan}
use Rattle.code.proofs.laws.Scan.{standing_append}
use Rattle.scan.specs.declared.Next.{Next}
use Rattle.scan.specs.declared.Next.TheVariants.{Clean, Nowhere}
use Rattle.scan.specs.Scans.{first_clean, letter_before, try_from, clean_from, searched, start_of, Known}
use Rattle.scan.proofs.laws.Scans.{clean_short, window_first}
use Rattle.scan.proofs.Starts.{size_room, searched_start, searched-Known}
use Rattle.steps.specs.declared.strand.Strand.{Strand}
use Rattle.steps.specs.declared.strand.Start.{Start}
use Rattle.steps.specs.Steps.{lost_at, AtStart}

-- Starts without room

-- every start of a list is b or more
abbrev AllFrom : ℕ → List ℕ → Type 0
AllFrom b [] = Unit {0}
AllFrom b (o ∷ os) = (b ≤ o) × AllFrom b os

pairs_from : (b n d c : ℕ) → b + (d + c) ≤ n + 1 → AllFrom b (pairs n d c)
unfolding pairs
pairs_from b n d zero h = tt
pairs_from b n d (suc c) h = (omega arith, (omega arith, pairs_from b n (suc d) c (omega arith)))

above_from : (b : ℕ) (os : List ℕ) → AllFrom b os → AllFrom b (above os)
unfolding above
above_from b [] h = tt
above_from b (o ∷ os) h = go (ltb 0 o) (above_from b os h.1)
  where
    go : (t : Bool) → AllFrom b (above os) → AllFrom b (cond t (o ∷ above os) (above os))
    go true r = (h.0, r)
    go false r = r

window_from : (b n c : ℕ) → b + c ≤ n → AllFrom b (window n c)
window_from b n c h = above_from b (n ∷ pairs n 1 c) (omega arith, pairs_from b n 1 c (omega arith))

module _ (s letters : List ℕ) (same : length s ≡ length letters) where
  -- no segment stands behind the end
  none_from : (passed k : ℕ) (os : List ℕ) → AllFrom (length s) os → first_standing s letters (map (try_at passed k) os) ≡ none
  unfolding first_standing size
  none_from passed k [] h = refl
  none_from passed k (o ∷ os) h = rw (clean_short k (get_or s (o - 1) 0) s letters same o (omega (arith, h.0))) (none_from passed k os h.1)

  -- all that is tried lies there
  none_left : (passed n : ℕ) (ks : List ℕ) → Lengths longest ks → length s + 8 * (passed + 1) ≤ n → first_standing s letters (tries passed n ks) ≡ none
  unfolding first_standing tries
  none_left passed n [] done h = refl
  none_left passed n (k ∷ ks) (more l m ls) h =
      let w = map (try_at passed k) (window n (8 * (passed + 1))) in
      standing_append s letters w (tries (passed + 1) (n + size true k) ks) ∙ rw (none_from passed k (window n (8 * (passed + 1))) (window_from (length s) n (8 * (passed + 1)) h)) (none_left (passed + 1) (n + size true k) ks ls (omega (arith, (size_room true k (l, m)).0)))

-- The search

-- the bounds of a segment with a marker
pub size_marked : (k : ℕ) → Length k → (10 ≤ size true k) × (size true k ≤ 300)
unfolding size
size_marked k h = (omega (arith, width_two k h.0), omega (arith, (width-Least k).least 16 (omega arith)))

-- a segment of k message symbols was lost at a start, and the lengths `rest` follow; `passed` of them are passed, and the next is sought about `centre`
pub record Sought (strand : Strand) (start : Start) (k : ℕ) (rest : List ℕ) (centre passed : ℕ) : Type 0 where
  pub same : scan (size start.marked k) rest (drop start.at (as_symbols strand.letters.now)) (drop start.at strand.letters.now) ≡ first_standing (drop start.at (as_symbols strand.letters.now)) (drop start.at strand.letters.now) (tries passed centre (drop passed rest))
  pub lengths : Lengths longest (drop passed rest)
  pub far : 10 * passed + 8 ≤ centre
  pub near : centre ≤ most_letters + 300 + 8 * passed

pub Sought-begin : (strand : Strand) (start : Start) (k : ℕ) (rest : List ℕ) → AtStart strand start rest k → (n : ℕ) → n ≡ size start.marked k → Sought strand start k rest n 0
unfolding scan
Sought-begin strand start k rest g n e = let r = size_room start.marked k g.message in record { same = rw e; lengths = g.behind; far = omega (arith, r.0); near = omega (arith, r.1) }

module _ {strand : Strand} {start : Start} {k : ℕ} {rest : List ℕ} {centre passed : ℕ} (t : Sought strand start k rest centre passed) (g : AtStart strand start rest k) where
  abbrev p : ℕ
  p = start.at

  abbrev letters : List ℕ
  letters = strand.letters.now

  inside : p ≤ length letters
  inside = omega (arith, g.inside, as_length _ _ strand.read)

  -- what is answered of the scan, where the letters are read as s
  abbrev Answered : List ℕ → Next → Type 0
  Answered s r = (start_of r ≡ (lost_at start.marked k rest p s letters 0).next) × Known s letters rest r

  answered : (r : Next) → Answered (as_symbols letters) r → Answered strand.symbols.now r
  answered r a = subst (λ (s : List ℕ). Answered s r) (sym strand.read) a

  found_none : scan (size start.marked k) rest (drop p (as_symbols letters)) (drop p letters) ≡ none → Answered (as_symbols letters) Nowhere
  found_none e = (rw e, tt)

  -- no segment is left
  pub sought_end : length rest ≤ passed → Answered strand.symbols.now Nowhere
  unfolding first_standing tries
  sought_end h = answered Nowhere (found_none (t.same ∙ ap (λ (ks : List ℕ). first_standing (drop p (as_symbols letters)) (drop p letters) (tries passed centre ks)) (drop_all passed rest h)))

  -- all that is left to try has no room
  pub sought_past : length letters + 8 * (passed + 1) ≤ p + centre → Answered strand.symbols.now Nowhere
  sought_past h =
      let long : length (drop p (as_symbols letters)) ≡ length (drop p letters) = simp length-drop (omega (arith, length_as letters)) in
      answered Nowhere (found_none (t.same ∙ none_left (drop p (as_symbols letters)) (drop p letters) long passed centre (drop passed rest) t.lengths (omega (arith, long, length-drop p letters))))

  -- the segment of the next length
  module _ (more_left : passed < length rest) where
    abbrev x : ℕ
    x = get_or rest passed 0

    abbrev xs : List ℕ
    xs = drop (passed + 1) rest

    here : drop passed rest ≡ x ∷ xs
    here = drop_more rest passed 0 more_left

    abbrev S : List ℕ
    S = drop p (as_symbols letters)

    abbrev L : List ℕ
    L = drop p letters

    abbrev starts : List ℕ
    starts = window centre (8 * (passed + 1))

    -- the first start where it stands
    abbrev first : Option ℕ
    first = first_clean x (letter_before None S) S L starts

    Length-is : Length x × Lengths longest xs
    Length-is = go (rw here at t.lengths)
      where
        go : Lengths longest (x ∷ xs) → Length x × Lengths longest xs
        go (more l m ls) = ((l, m), ls)

    -- what the search asks
    pub sought_small : Length x
    sought_small = Length-is.0

    -- it is found in its window, or one behind it
    window_is : scan (size start.marked k) rest S L ≡ try_from passed x first (first_standing S L (tries (passed + 1) (centre + size true x) xs))
    unfolding tries
    window_is = t.same ∙ (rw here (window_first passed x S L starts (tries (passed + 1) (centre + size true x) xs)))

    module _ (r : Next) (is : r ≡ searched None x passed p starts letters) where
      -- it stands
      pub sought_found : (at f n : ℕ) → r ≡ Clean at f n → Answered strand.symbols.now r
      unfolding letter_before
      sought_found at f n e = answered r (go first refl, subst (Known (as_symbols letters) letters rest) (sym is) (searched-Known None x passed p starts letters tt inside rest xs here))
        where
          go : (o : Option ℕ) → first ≡ o → start_of r ≡ (lost_at start.marked k rest p (as_symbols letters) letters 0).next
          go (some o) q = ap start_of is ∙ (searched_start None x passed p starts letters ∙ rw (q, window_is, q))
          go none q = absurd (nowhere (sym e ∙ (is ∙ ap (clean_from passed p (letter_before None S)) q)))
            where
              nowhere : Clean at f n ≡ Nowhere → ⊥
              nowhere z = let y : ◌≡◌ {A = ℕ} 0 1 = cc in omega arith

      -- it does not: the one behind it is sought
      pub Sought-on : ((at f n : ℕ) → r ≡ Clean at f n → ⊥) → centre < most_letters + 8 * (passed + 1) → (n : ℕ) → n ≡ size true x → Sought strand start k rest (centre + n) (passed + 1)
      Sought-on h close n e =
          let z = size_marked x sought_small in
          record {
            same = window_is ∙ rw (go first refl, e);
            lengths = Length-is.1;
            far = omega (arith, t.far, z.0);
            near = omega (arith, z.1);
          }
        where
          go : (o : Option ℕ) → first ≡ o → first ≡ none
          go none q = q
          go (some o) q = absurd (h _ _ _ (is ∙ ap (clean_from passed p (letter_before None S)) q))
