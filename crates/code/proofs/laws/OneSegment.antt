-- One segment of a strand that keeps the conditions is read, whatever follows it: over symbols, as if no N were received.
--   Stops   where the reading of a stretch stops
--   stops   the stretch of a segment under one edit is read
use Rattle.std.specs.Prelude.{◌≡◌, Bool, false, ℕ, suc, ◌+◌, ◌≤◌, length}
use Rattle.std.proofs.Common.{sym, subst, ◌∙◌, add-one, le-leb, length-append}
use Rattle.std.proofs.Math.Path.{ap}
use Rattle.std.proofs.Math.Bool.{true}
use mathlib.Core.List.{List, [], ◌∷◌, ◌++◌, append_assoc}
use Rattle.std.proofs.Math.Logic.{⊎_elim}
use native.Mathlib.Omega.{arith}
use Rattle.std.proofs.Math.Seq.{append_snoc}
use Rattle.code.specs.Symbols.{Below}
use Rattle.code.specs.Layers.{width}
use Rattle.code.specs.Segment.{check, block, segment, last_of, size, data_at}
use Rattle.code.proofs.laws.Segment.{length-segment}
use Rattle.code.specs.Edits.{applied, Fits}
use Rattle.code.proofs.laws.Edits.{From, from?, less, applied_left, applied_right, Fits-left, Fits-right, From-less}
use Rattle.code.specs.declared.Edit.{Edit}
use Rattle.code.specs.declared.Edit.TheVariants.{None, Sub, Del, Ins}
use Rattle.code.specs.Conditions.{hits}
use Rattle.code.proofs.laws.SegmentSteps.{pre, Reads, Sees, Final, length-pre, reads_settled}
use Rattle.code.proofs.laws.OpenEnd.{Follow}
use Rattle.code.proofs.laws.HitStretch.{Good, Moved, parts}
use Rattle.code.proofs.laws.HitSegment.{tail_read}
use Rattle.code.proofs.laws.EditedSegment.{ending, message_edit, marker_edit}

-- an edit behind separator's first place hits
From-hits : (marked : Bool) (k : ℕ) (e : Edit) → From (data_at marked + (k + 1)) e → hits marked k e ≡ true
From-hits marked k None h = absurd h
From-hits marked k (Sub i x) h = le-leb (data_at marked + (k + 1)) i h
From-hits marked k (Del i x) h = le-leb (data_at marked + (k + 1)) i h
From-hits marked k (Ins i x) h = le-leb (data_at marked + (k + 1)) i h

-- a message of two symbols or more
pub record Proper (m : List ℕ) : Type 0 where
  pub two : 2 ≤ length m
  pub small : Below 4 m

-- message and check
abbrev opening : List ℕ → List ℕ
opening m = m ++ check m ∷ []

length-opening : (m : List ℕ) → length (opening m) ≡ suc (length m)
length-opening m = length-append m (check m ∷ []) ∙ omega arith

segment_as : (marked : Bool) (f : ℕ) (m : List ℕ) → segment marked f m ≡ pre marked f m ++ (opening m ++ ending m)
unfolding segment block
segment_as true f m = ap (λ (l : List ℕ). pre true f m ++ l) (sym (append_snoc m (check m) (ending m)))
segment_as false f m = sym (append_snoc m (check m) (ending m))

-- where the reading of a segment's stretch stops, under an edit and before the symbols r: the syndrome is seen at its end; or the edit hits, and
-- the next segment tells its end; or the edit hits, and a letter behind the segment is left to the next one
pub data Stops (marked : Bool) (f : ℕ) (m ks : List ℕ) (e : Edit) (r : List ℕ) : Type 0 where
  seen : Sees marked m ks (applied e (segment marked f m) ++ r) (length (applied e (segment marked f m))) → Stops marked f m ks e r
  next : hits marked (length m) e ≡ true → Reads marked m ks (applied e (segment marked f m) ++ r) (length (applied e (segment marked f m))) → Stops marked f m ks e r
  left : hits marked (length m) e ≡ true → (z : ℕ) → applied e (segment marked f m) ≡ segment marked f m ++ z ∷ [] → Sees marked m ks (applied e (segment marked f m) ++ r) (size marked (length m)) → Stops marked f m ks e r

module _ (marked : Bool) (f : ℕ) (m : List ℕ) (p : Proper m) (ks : List ℕ) (e : Edit) (r : List ℕ) (fit : Fits 4 e (length (segment marked f m))) (last : Final ks r) where
  abbrev received_here : List ℕ
  received_here = applied e (segment marked f m) ++ r

  length_here : length (segment marked f m) ≡ data_at marked + (suc (length m) + (3 + width (length m)))
  unfolding size
  length_here = length-segment marked f m ∙ omega arith

  -- the stretch u, in which the syndrome is seen
  closes : (u : List ℕ) → applied e (segment marked f m) ≡ u → Sees marked m ks (u ++ r) (length u) → Stops marked f m ks e r
  closes u eu g = seen (subst (λ (l : List ℕ). Sees marked m ks (l ++ r) (length l)) (sym eu) g)

  -- an edit in message or check
  in_message : (d : Edit) → Fits 4 d (suc (length m)) → (From (suc (length m)) d → ⊥) → applied e (segment marked f m) ≡ pre marked f m ++ (applied d (opening m) ++ ending m) → Stops marked f m ks e r
  in_message d h o q =
      let v = applied d (opening m) ++ ending m in
      let t = message_edit m p.two p.small r d h o in
      let g = reads_settled m marked f ks v r t.shift t.settles t.size_is last in
      closes (pre marked f m ++ v) q (subst (λ (l : List ℕ). Sees marked m ks l (length (pre marked f m ++ v))) (sym (append_assoc (pre marked f m) v r)) g)

  -- an edit behind the marker and before the separator
  behind_marker : From (data_at marked) e → (From (data_at marked + (length m + 1)) e → ⊥) → Stops marked f m ks e r
  behind_marker h o =
      let b = length-pre m marked f in
      let h' : From (length (pre marked f m)) e = rw b h in
      let d = less (length (pre marked f m)) e in
      let w : Fits 4 d (suc (length m) + (3 + width (length m))) = Fits-right e (length (pre marked f m)) (suc (length m) + (3 + width (length m))) h' (rw (b, ← length_here) fit) in
      let n : From (suc (length m)) d → ⊥ = λ k. o (rw (← b, add-one) (From-less e (length (pre marked f m)) (suc (length m)) k h')) in
      let g : Fits 4 d (suc (length m)) = Fits-left d (suc (length m)) (3 + width (length m)) w n in
      in_message d g n
      (ap (applied e) (segment_as marked f m) ∙ applied_right e (pre marked f m) (opening m ++ ending m) h' ∙ ap (λ (l : List ℕ). pre marked f m ++ l) (applied_left d (opening m) (ending m) (rw (length-opening m) g)))

  -- what stands for separator and syndrome under an edit there
  abbrev behind : Edit
  behind = less (length (pre marked f m ++ opening m)) e

  abbrev ended : List ℕ
  ended = applied behind (ending m)

  length_front : length (pre marked f m ++ opening m) ≡ data_at marked + (length m + 1)
  length_front = length-append (pre marked f m) (opening m) ∙ omega (arith, length-pre m marked f, length-opening m)

  Fits-behind : From (data_at marked + (length m + 1)) e → Fits 4 behind (3 + width (length m))
  Fits-behind h =
      let n = length_front in
      let l : data_at marked + (suc (length m) + (3 + width (length m))) ≡ length (pre marked f m ++ opening m) + (3 + width (length m)) = omega arith in
      Fits-right e (length (pre marked f m ++ opening m)) (3 + width (length m)) (rw n h) (rw (← l, ← length_here) fit)

  -- the letters before the separator, and then t
  front_is : (t : List ℕ) → (pre marked f m ++ opening m) ++ t ≡ pre marked f m ++ (m ++ check m ∷ t)
  front_is t = append_assoc (pre marked f m) (opening m) t ∙ ap (λ (l : List ℕ). pre marked f m ++ l) (append_snoc m (check m) t)

  ended_is : From (data_at marked + (length m + 1)) e → applied e (segment marked f m) ≡ pre marked f m ++ (m ++ check m ∷ ended)
  ended_is h =
      let q : segment marked f m ≡ (pre marked f m ++ opening m) ++ ending m = segment_as marked f m ∙ sym (append_assoc (pre marked f m) (opening m) (ending m)) in
      ap (applied e) q ∙ applied_right e (pre marked f m ++ opening m) (ending m) (rw length_front h) ∙ front_is ended

  whole_is : segment marked f m ≡ pre marked f m ++ (m ++ check m ∷ ending m)
  whole_is = segment_as marked f m ∙ ap (λ (l : List ℕ). pre marked f m ++ l) (append_snoc m (check m) (ending m))

  -- an edit in separator or syndrome, before an untouched segment or none
  in_ending : From (data_at marked + (length m + 1)) e → Follow (last_of m) ks r → Stops marked f m ks e r
  unfolding Good
  in_ending h fol = ⊎_elim good moved (tail_read m p.two marked f ks r fol behind (Fits-behind h))
    where
      hit : hits marked (length m) e ≡ true
      hit = From-hits marked (length m) e h

      -- what is received, from the stretch
      here : pre marked f m ++ (m ++ check m ∷ (ended ++ r)) ≡ received_here
      here = parts m p.two marked f ks r fol ended r ∙ ap (λ (l : List ℕ). l ++ r) (sym (ended_is h))

      good : Good m p.two marked f ks r fol ended → Stops marked f m ks e r
      good g = next hit (subst (λ (l : List ℕ). Reads marked m ks received_here (length l)) (sym (ended_is h)) (subst (λ (l : List ℕ). Reads marked m ks l (length (pre marked f m ++ (m ++ check m ∷ ended)))) here g))

      moved : Moved m p.two marked f ks r fol ended → Stops marked f m ks e r
      moved g =
          left hit g.letter
          (ended_is h ∙ ap (λ (t : List ℕ). pre marked f m ++ (m ++ check m ∷ t)) g.behind_it ∙ parts m p.two marked f ks r fol (ending m) (g.letter ∷ []) ∙ ap (λ (l : List ℕ). l ++ g.letter ∷ []) (sym whole_is))
          (subst (λ (l : List ℕ). Sees marked m ks l (size marked (length m))) here g.reads_it)

module _ (f : ℕ) (m : List ℕ) (p : Proper m) (ks : List ℕ) (e : Edit) (r : List ℕ) (fit : Fits 4 e (length (segment true f m))) (last : Final ks r) where
  -- an edit in the marker
  in_marker : (From 2 e → ⊥) → Stops true f m ks e r
  unfolding segment block
  in_marker o =
      let w : Fits 4 e 2 = Fits-left e 2 (length (block m)) (subst (Fits 4 e) (omega arith) fit) o in
      let b = m ++ check m ∷ ending m in
      let u = applied e (pre true f m) ++ b in
      let g = marker_edit m p.two p.small r f ks last e w o in
      let q : u ++ r ≡ applied e (pre true f m) ++ (m ++ check m ∷ (ending m ++ r)) = append_assoc (applied e (pre true f m)) b r ∙ ap (λ (l : List ℕ). applied e (pre true f m) ++ l) (append_assoc m (check m ∷ ending m) r) in
      closes true f m p ks e r fit last u (applied_left e (pre true f m) b w) (subst (λ (l : List ℕ). Sees true m ks l (length u)) (sym q) g)

-- an edit that lies in no part is none, or one in the marker
before_message : (marked : Bool) (f : ℕ) (m ks : List ℕ) (e : Edit) (r : List ℕ) → Proper m → Fits 4 e (length (segment marked f m)) → Final ks r → (From (data_at marked) e → ⊥) → Stops marked f m ks e r
before_message marked f m ks None r p fit last o = in_message marked f m p ks None r fit last None tt (λ k. k) (segment_as marked f m)
before_message true f m ks (Sub i x) r p fit last o = in_marker f m p ks (Sub i x) r fit last o
before_message true f m ks (Del i x) r p fit last o = in_marker f m p ks (Del i x) r fit last o
before_message true f m ks (Ins i x) r p fit last o = in_marker f m p ks (Ins i x) r fit last o
before_message false f m ks (Sub i x) r p fit last o = absurd (o (omega arith))
before_message false f m ks (Del i x) r p fit last o = absurd (o (omega arith))
before_message false f m ks (Ins i x) r p fit last o = absurd (o (omega arith))

-- the stretch of a segment under one edit is read, if an untouched segment or none follows one that the edit hits
pub stops : (marked : Bool) (f : ℕ) (m ks : List ℕ) (e : Edit) (r : List ℕ) → Proper m → Fits 4 e (length (segment marked f m)) → Final ks r → (hits marked (length m) e ≡ true → Follow (last_of m) ks r) → Stops marked f m ks e r
stops marked f m ks e r p fit last follow = go (from? (data_at marked + (length m + 1)) e) (from? (data_at marked) e)
  where
    go : Dec (From (data_at marked + (length m + 1)) e) → Dec (From (data_at marked) e) → Stops marked f m ks e r
    go (yes q) d = in_ending marked f m p ks e r fit last q (follow (From-hits marked (length m) e q))
    go (no o) (yes q) = behind_marker marked f m p ks e r fit last q o
    go (no o) (no k) = before_message marked f m ks e r p fit last k
