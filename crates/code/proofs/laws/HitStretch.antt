-- A stretch that stands where a segment's separator and syndrome should: the segment is read, and its end is found.
--   Good                                     the segment is read with its stretch for a piece
--   absent_same, absent_short, absent_long   no separator is found
--   level_same, level_short, level_long      the separator stands in its place
--   Moved                                    a letter put in is left to the next segment
use Rattle.std.specs.Prelude.{◌≡◌, Bool, false, ◌⊎◌}
use Rattle.std.proofs.Math.Path.{refl, ap, subst}
use Rattle.std.proofs.Common.{sym, ◌∙◌, true≢false, inl, inr, ⊎_elim, eq-or-lt_of_le}
use Rattle.std.proofs.Math.Bool.{true}
use mathlib.Core.List.{List, [], ◌∷◌, ◌++◌, append_assoc}
use Rattle.std.proofs.Math.Option.{some, none}
use Prim.Native.Nat.{ℕ, suc, ◌+◌, ◌≤◌, ◌<◌}
use native.Mathlib.Omega.{arith}
use Rattle.std.proofs.Math.ListN.{length, get_or, length-append}
use Rattle.std.proofs.Math.Seq.{get_or-append_seam, append_snoc, drop-length, take-length}
use Rattle.code.specs.Layers.{width}
use Rattle.code.specs.Repair.{put_in}
use Rattle.code.specs.Segment.{check, syndrome_of, separator, marker, segment, last_of, size, data_at}
use Rattle.code.proofs.laws.Segment.{length_syndrome, marker-Apart, inits, length-inits, syndrome_last}
use Rattle.code.proofs.laws.Edits.{applied_left}
use Rattle.code.specs.declared.Edit.TheVariants.{Ins}
use Rattle.code.specs.Reading.{is_prefix, three_equal, level, separator_at, syndrome_agrees, read_whole, message, behind}
use Rattle.code.proofs.laws.Reading.{drop_off, prefix_self, prefix_at, prefix_more, find_level}
use Rattle.code.proofs.laws.EditedBlock.{length_put}
use Rattle.code.proofs.laws.HitTail.{gives_level, gives_none, none_found, is_false}
use Rattle.code.proofs.laws.SegmentSteps.{pre, Reads, Sees, length-pre}
use Rattle.code.proofs.laws.OpenEnd.{Follow, Reads-same, Reads-short, Reads-long, Reads-seen, seen}

-- The stretch t stands where separator and syndrome should

module _ (m : List ℕ) (two : 2 ≤ length m) (marked : Bool) (f : ℕ) (ks r : List ℕ) (fol : Follow (last_of m) ks r) where
  -- what is received from the message on, and the segment's stretch
  abbrev pub block : List ℕ → List ℕ
  block t = m ++ check m ∷ (t ++ r)

  abbrev pub stretch : List ℕ → List ℕ
  stretch t = pre marked f m ++ (m ++ check m ∷ t)

  abbrev pub s : ℕ
  s = separator m

  abbrev pub a : List ℕ
  a = syndrome_of m

  pub parts : (t w : List ℕ) → pre marked f m ++ (m ++ check m ∷ (t ++ w)) ≡ stretch t ++ w
  parts t w =
      sym (append_assoc (pre marked f m) (m ++ check m ∷ t) w ∙ ap (λ (l : List ℕ). pre marked f m ++ l) (append_assoc m (check m ∷ t) w))

  length_stretch : (t : List ℕ) → length (stretch t) ≡ data_at marked + (length m + suc (length t))
  length_stretch t = simp length-append (omega (arith, length-pre m marked f))

  -- the segment is read with its stretch for a piece
  unfoldable pub Good : List ℕ → Type 0
  Good t = Reads marked m ks (pre marked f m ++ block t) (length (stretch t))

  -- a stretch that ends in z
  parts_last : (t v : List ℕ) (z : ℕ) → t ≡ v ++ z ∷ [] → pre marked f m ++ block t ≡ stretch v ++ z ∷ r
  parts_last t v z e = rw (e, append_snoc v z r) (parts v (z ∷ r))

  -- one that ends in the syndrome's last symbol and is a letter longer than the segment
  long : (t v : List ℕ) → t ≡ v ++ last_of m ∷ [] → length v ≡ 3 + width (length m) → read_whole (length m) (block t) (separator_at (length m) (block t)) ≡ message m → seen m marked f (block t) ≡ false → Good t
  unfolding Good size
  long t v e l g u =
      let n : length t ≡ suc (length v) = ap length e ∙ length-append v (last_of m ∷ []) ∙ omega arith in
      let o : suc (length (stretch v)) ≡ length (stretch t) = omega (arith, length_stretch v, length_stretch t) in
      subst (λ (i : ℕ). Reads marked m ks (pre marked f m ++ block t) i) o
      (Reads-long m marked f (block t) g ks (stretch v) r fol (parts_last t v (last_of m) e) (length_stretch v ∙ omega arith) u)

  -- No separator is found

  module _ (x y z u : ℕ) (w : List ℕ) where
    abbrev t : List ℕ
    t = x ∷ y ∷ z ∷ u ∷ w

    -- the three places where it is sought
    pub record Absent : Type 0 where
      pub now : three_equal (x ∷ y ∷ z ∷ u ∷ w ++ r) ≡ false
      pub before : three_equal (check m ∷ x ∷ y ∷ z ∷ u ∷ w ++ r) ≡ false
      pub after : three_equal (y ∷ z ∷ u ∷ w ++ r) ≡ false

    absent_none : Absent → separator_at (length m) (block t) ≡ none
    absent_none g = none_found m (check m) x y z u (w ++ r) g.now g.before g.after

    absent_gives : Absent → read_whole (length m) (block t) (separator_at (length m) (block t)) ≡ message m
    absent_gives g = gives_none m (t ++ r) (absent_none g)

    absent_unseen : Absent → seen m marked f (block t) ≡ false
    absent_unseen g = rw (absent_none g)

    -- a letter replaced
    pub absent_same : Absent → length t ≡ 3 + width (length m) → Good t
    unfolding Good size
    absent_same g l =
        Reads-same m marked f (block t) (absent_gives g) ks (stretch t) r fol (parts t r) (length_stretch t ∙ omega arith)
        (λ e. absurd (true≢false (sym e ∙ absent_unseen g)))

    -- a letter left out
    pub absent_short : Absent → suc (length t) ≡ 3 + width (length m) → Good t
    unfolding Good size
    absent_short g l =
        let q = length_stretch t in
        Reads-short m marked f (block t) (absent_gives g) ks (stretch t) r fol (parts t r) (omega arith) (λ m' ks' r' e. absent_unseen g)

    -- a letter put in
    pub absent_long : Absent → (v : List ℕ) → t ≡ v ++ last_of m ∷ [] → length v ≡ 3 + width (length m) → Good t
    absent_long g v e l = long t v e l (absent_gives g) (absent_unseen g)

  -- The separator stands where it should, and the symbols b behind it

  module _ (b : List ℕ) where
    abbrev t' : List ℕ
    t' = s ∷ s ∷ s ∷ b

    level_found : separator_at (length m) (block t') ≡ some level
    level_found = find_level (length m) s (b ++ r) m (check m) refl

    level_gives : read_whole (length m) (block t') (separator_at (length m) (block t')) ≡ message m
    level_gives = gives_level m (t' ++ r) level_found

    level_seen : seen m marked f (block t') ≡ is_prefix a (b ++ r)
    unfolding syndrome_agrees
    level_seen = rw (level_found, drop_off (length m + 1 + 3) m (check m ∷ t' ++ r) 4 (omega arith))

    level_behind : data_at marked + behind (length m) (separator_at (length m) (block t')) ≡ size marked (length m)
    unfolding size
    level_behind = rw level_found (omega arith)

    -- a syndrome letter replaced
    pub level_same : length b ≡ width (length m) → Good t'
    unfolding Good size
    level_same l =
        Reads-same m marked f (block t') level_gives ks (stretch t') r fol (parts t' r) (length_stretch t' ∙ omega arith)
        (λ e. level_behind)

    -- a syndrome letter left out: its place is taken by the next marker, which is not the last letter
    pub level_short : suc (length b) ≡ width (length m) → Good t'
    unfolding Good size last_of segment
    level_short l =
        let q = length_stretch t' in
        Reads-short m marked f (block t') level_gives ks (stretch t') r fol (parts t' r) (omega arith)
        (λ m' ks' r' e. level_seen ∙ is_false (is_prefix a (b ++ r)) (λ h. (marker-Apart (last_of m) m').first (next m' r' e ∙ prefix_at a (b ++ r) (length b) h (omega (arith, length_syndrome m)) ∙ ap (λ (i : ℕ). get_or a i 0) (omega arith))))
      where
        next : (m' r' : List ℕ) → r ≡ segment true (last_of m) m' ++ r' → marker (last_of m) m' ≡ get_or (b ++ r) (length b) 0
        next m' r' e = rw e (sym (get_or-append_seam b (marker (last_of m) m') _ 0))

  -- a letter put in stands behind the syndrome and is left to the next segment
  pub record Moved (t : List ℕ) : Type 0 where
    pub letter : ℕ
    pub behind_it : t ≡ (s ∷ s ∷ s ∷ a) ++ letter ∷ []
    pub reads_it : Sees marked m ks (pre marked f m ++ block t) (size marked (length m))

  -- a letter put in before, in or after the syndrome
  pub level_long : (i x : ℕ) → i ≤ width (length m) → x < 4 → Good (s ∷ s ∷ s ∷ put_in i x a) ⊎ Moved (s ∷ s ∷ s ∷ put_in i x a)
  unfolding Good
  level_long i x h hx = go (is_prefix a (b ++ r)) refl
    where
      b : List ℕ
      b = put_in i x a

      n : length b ≡ suc (length a)
      n = length_put i x a (omega (arith, length_syndrome m))

      t : List ℕ
      t = s ∷ s ∷ s ∷ b

      ends : i < width (length m) → t ≡ (s ∷ s ∷ s ∷ put_in i x (inits m two)) ++ last_of m ∷ []
      ends l =
          let q : i ≤ length (inits m two) = omega (arith, length-inits m two) in
          ap (λ (w : List ℕ). s ∷ s ∷ s ∷ put_in i x w) (syndrome_last m two) ∙ ap (λ (w : List ℕ). s ∷ s ∷ s ∷ w) (applied_left (Ins i x) (inits m two) (last_of m ∷ []) (q, hx))

      count : i < width (length m) → length (s ∷ s ∷ s ∷ put_in i x (inits m two)) ≡ 3 + width (length m)
      count l = omega (arith, length-inits m two, length_put i x (inits m two) (omega (arith, length-inits m two)))

      behind_all : i ≡ width (length m) → is_prefix a (b ++ r) ≡ true
      behind_all e =
          let q : b ≡ a ++ x ∷ [] = rw (e, ← length_syndrome m, take-length a, drop-length a) in
          rw (q, append_assoc a (x ∷ []) r) (prefix_self a (x ∷ r))

      inside : is_prefix a (b ++ r) ≡ false → i < width (length m)
      inside e = ⊎_elim (λ (q : i ≡ width (length m)). absurd (true≢false (sym (behind_all q) ∙ e))) (λ l. l) (eq-or-lt_of_le h)

      go : (y : Bool) → is_prefix a (b ++ r) ≡ y → Good t ⊎ Moved t
      go true e =
          ⊎_elim inl
          (λ (g : Sees marked m ks (pre marked f m ++ block t) (size marked (length m))). inr (record {
            letter = get_or b (length a) 0;
            behind_it = ap (λ (l : List ℕ). s ∷ s ∷ s ∷ l) (prefix_more a b r n e);
            reads_it = g;
          }))
          (Reads-seen m marked f (block t) (level_gives b) ks (stretch t) r fol (parts t r) (level_seen b ∙ e) (level_behind b))
      go false e = inl (long t (s ∷ s ∷ s ∷ put_in i x (inits m two)) (ends (inside e)) (count (inside e)) (level_gives b) (level_seen b ∙ e))
