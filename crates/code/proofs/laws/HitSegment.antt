-- A segment under an edit in its separator or syndrome is read, and its end is found.
--   tail_read   the edits of separator and syndrome, one by one
use Rattle.std.specs.Prelude.{◌≡◌, refl, Bool, ◌⊎◌, ℕ, zero, suc, ◌+◌, ◌≤◌, get_or, take, drop, set}
use Rattle.std.proofs.Common.{sym, ap, ◌∙◌, inl, arith, length-set, take_at}
use Rattle.std.proofs.Math.Path.{subst}
use mathlib.Core.List.{List, [], ◌∷◌, ◌++◌, append_assoc, cons≢nil}
use Rattle.std.proofs.Math.Decide.{ℕ_discrete}
use Rattle.std.proofs.Math.ListN.{length, length-append}
use Rattle.std.proofs.Math.Seq.{append_snoc}
use Rattle.code.specs.Layers.{width}
use Rattle.code.specs.Repair.{leave_out}
use Rattle.code.specs.Segment.{check, syndrome_of, separator, last_of}
use Rattle.code.proofs.laws.Segment.{length_syndrome, width_two, separator-Apart, inits, length-inits, syndrome_last}
use Rattle.code.specs.Edits.{applied, Fits}
use Rattle.code.specs.declared.Edit.{Edit}
use Rattle.code.specs.declared.Edit.TheVariants.{None, Sub, Del, Ins}
use Rattle.code.specs.Reading.{late, syndrome_agrees, message_at}
use Rattle.code.proofs.laws.Reading.{drop_off, prefix_self, three_no, three_no', find_late}
use Rattle.code.proofs.laws.EditedBlock.{Settles, heads, length_leave}
use Rattle.code.proofs.laws.SegmentSteps.{pre, Reads, reads_settled, Final}
use Rattle.code.proofs.laws.OpenEnd.{Follow, final, follows}
use Rattle.code.proofs.laws.HitStretch.{Good, Moved, absent_same, absent_short, absent_long, level_same, level_short, level_long}

-- a letter other than the separator's just before it: the separator is found one later, and the syndrome agrees
Settles-front : (m : List ℕ) (x : ℕ) (r : List ℕ) → (separator m ≡ x → ⊥) → Settles late m r (m ++ check m ∷ x ∷ separator m ∷ separator m ∷ separator m ∷ (syndrome_of m ++ r))
unfolding message_at syndrome_agrees
Settles-front m x r ne =
    let s = separator m in
    let c = check m in
    let d = m ++ c ∷ x ∷ s ∷ s ∷ s ∷ (syndrome_of m ++ r) in
    let q : (m ++ c ∷ []) ++ x ∷ s ∷ s ∷ s ∷ (syndrome_of m ++ r) ≡ d = append_snoc m c (x ∷ s ∷ s ∷ s ∷ syndrome_of m ++ r) in
    let n : length (m ++ c ∷ []) ≡ length m + 1 = length-append m (c ∷ []) in
    let t : take (length m) d ≡ m = take_at m (c ∷ x ∷ s ∷ s ∷ s ∷ syndrome_of m ++ r) (length m) refl in
    let g : drop (length m + 1 + 1 + 3) d ≡ syndrome_of m ++ r = drop_off (length m + 1 + 1 + 3) m (c ∷ x ∷ s ∷ s ∷ s ∷ syndrome_of m ++ r) 5 (omega arith) in
    record {
      found = rw (← q) (find_late (length m) s (syndrome_of m ++ r) (m ++ c ∷ []) x ne n);
      after = g;
      gives = rw (t, g, prefix_self (syndrome_of m) r);
    }

-- where a segment follows, something does
Follow-Final : {f : ℕ} {ks r : List ℕ} → Follow f ks r → Final ks r
Follow-Final final e = refl
Follow-Final (follows m ks r two) e = absurd (cons≢nil e)

module _ (m : List ℕ) (two : 2 ≤ length m) (marked : Bool) (f : ℕ) (ks r : List ℕ) (fol : Follow (last_of m) ks r) where
  abbrev s : ℕ
  s = separator m

  abbrev a : List ℕ
  a = syndrome_of m

  -- what is received from the message on, and the segment's stretch, where t stands in the place of separator and syndrome
  abbrev block : List ℕ → List ℕ
  block t = m ++ check m ∷ (t ++ r)

  abbrev stretch : List ℕ → List ℕ
  stretch t = pre marked f m ++ (m ++ check m ∷ t)

  -- the segment is read, or a letter is left to the next one
  abbrev GoodHere : List ℕ → Type 0
  GoodHere t = Good m two marked f ks r fol t

  abbrev MovedHere : List ℕ → Type 0
  MovedHere t = Moved m two marked f ks r fol t

  -- the first symbols of the syndrome
  abbrev a₁ : ℕ
  a₁ = get_or a 0 0

  abbrev a₂ : ℕ
  a₂ = get_or a 1 0

  abbrev w : List ℕ
  w = drop 2 a

  syndrome_is : a ≡ a₁ ∷ a₂ ∷ w
  syndrome_is = heads a (omega (arith, length_syndrome m, width_two (length m) two))

  s≢c : s ≡ check m → ⊥
  s≢c = (separator-Apart m).first

  c≢s : check m ≡ s → ⊥
  c≢s e = s≢c (sym e)

  s≢a₁ : s ≡ a₁ → ⊥
  s≢a₁ = (separator-Apart m).second

  -- what holds with the syndrome's first symbols shown holds of the syndrome
  shown : (p : List ℕ) → GoodHere (p ++ a₁ ∷ a₂ ∷ w) → GoodHere (p ++ a)
  shown p g = subst (λ (l : List ℕ). GoodHere (p ++ l)) (sym syndrome_is) g

  wide_is : suc (suc (length w)) ≡ width (length m)
  wide_is = sym (ap length syndrome_is) ∙ length_syndrome m

  -- one of the separator's letters replaced by another
  sub_first : (x : ℕ) → (x ≡ s → ⊥) → GoodHere (x ∷ s ∷ s ∷ a)
  sub_first x ne =
      shown (x ∷ s ∷ s ∷ [])
      (absent_same m two marked f ks r fol x s s a₁ (a₂ ∷ w) (record { now = three_no x s s _ ne; before = three_no' (check m) x s _ ne; after = three_no' s s a₁ _ s≢a₁ }) (omega (arith, wide_is)))

  sub_second : (x : ℕ) → (x ≡ s → ⊥) → GoodHere (s ∷ x ∷ s ∷ a)
  sub_second x ne =
      shown (s ∷ x ∷ s ∷ [])
      (absent_same m two marked f ks r fol s x s a₁ (a₂ ∷ w) (record { now = three_no s x s _ (λ e. ne (sym e)); before = three_no (check m) s x _ c≢s; after = three_no' x s a₁ _ s≢a₁ }) (omega (arith, wide_is)))

  sub_third : (x : ℕ) → (x ≡ s → ⊥) → GoodHere (s ∷ s ∷ x ∷ a)
  sub_third x ne =
      shown (s ∷ s ∷ x ∷ [])
      (absent_same m two marked f ks r fol s s x a₁ (a₂ ∷ w) (record { now = three_no' s s x _ (λ e. ne (sym e)); before = three_no (check m) s s _ c≢s; after = three_no s x a₁ _ (λ e. ne (sym e)) }) (omega (arith, wide_is)))

  -- one of the separator's letters left out
  del_one : GoodHere (s ∷ s ∷ a)
  del_one =
      shown (s ∷ s ∷ [])
      (absent_short m two marked f ks r fol s s a₁ a₂ w (record { now = three_no' s s a₁ _ s≢a₁; before = three_no (check m) s s _ c≢s; after = three_no s a₁ a₂ _ s≢a₁ }) (omega (arith, wide_is)))

  -- another letter put in inside the separator
  ins_second : (x : ℕ) → (x ≡ s → ⊥) → GoodHere (s ∷ x ∷ s ∷ s ∷ a)
  ins_second x ne =
      absent_long m two marked f ks r fol s x s s a (record { now = three_no s x s _ (λ e. ne (sym e)); before = three_no (check m) s x _ c≢s; after = three_no x s s _ ne })
      (s ∷ x ∷ s ∷ s ∷ inits m two) (ap (λ (l : List ℕ). s ∷ x ∷ s ∷ s ∷ l) (syndrome_last m two)) (omega (arith, length-inits m two))

  ins_third : (x : ℕ) → (x ≡ s → ⊥) → GoodHere (s ∷ s ∷ x ∷ s ∷ a)
  ins_third x ne =
      absent_long m two marked f ks r fol s s x s a (record { now = three_no' s s x _ (λ e. ne (sym e)); before = three_no (check m) s s _ c≢s; after = three_no s x s _ (λ e. ne (sym e)) })
      (s ∷ s ∷ x ∷ s ∷ inits m two) (ap (λ (l : List ℕ). s ∷ s ∷ x ∷ s ∷ l) (syndrome_last m two)) (omega (arith, length-inits m two))

  -- another letter put in just before the separator: it is found one later
  ins_first : (x : ℕ) → (x ≡ s → ⊥) → GoodHere (x ∷ s ∷ s ∷ s ∷ a)
  unfolding Good
  ins_first x ne =
      let t = x ∷ s ∷ s ∷ s ∷ a in
      let v = m ++ check m ∷ t in
      let q : v ++ r ≡ block t = append_assoc m (check m ∷ t) r in
      let n : length v ≡ length m + 1 + 1 + 3 + width (length m) = length-append m (check m ∷ t) ∙ omega (arith, length_syndrome m) in
      let g = subst (λ (d : List ℕ). Settles late m r d) (sym q) (Settles-front m x r (λ e. ne (sym e))) in
      subst (λ (d : List ℕ). Reads marked m ks (pre marked f m ++ d) (length (stretch t))) q (reads_settled m marked f ks v r late g n (Follow-Final fol)).reads

  -- separator and syndrome as written
  abbrev pub tail : List ℕ
  tail = s ∷ s ∷ s ∷ a

  unhurt : GoodHere tail
  unhurt = level_same m two marked f ks r fol a (length_syndrome m)

  -- a letter of the separator replaced, by itself or by another
  either_way : (x : ℕ) (g : ℕ → List ℕ) → g s ≡ tail → ((x ≡ s → ⊥) → GoodHere (g x)) → GoodHere (g x)
  either_way x g e h = go (ℕ_discrete x s)
    where
      go : Dec (x ≡ s) → GoodHere (g x)
      go (yes q) = subst GoodHere (sym (ap g q ∙ e)) unhurt
      go (no ne) = h ne

  -- the separator's own letter put in at it stands before the syndrome
  either_put : (x : ℕ) (g : ℕ → List ℕ) → g s ≡ s ∷ s ∷ s ∷ s ∷ a → ((x ≡ s → ⊥) → GoodHere (g x)) → GoodHere (g x) ⊎ MovedHere (g x)
  either_put x g e h = go (ℕ_discrete x s)
    where
      go : Dec (x ≡ s) → GoodHere (g x) ⊎ MovedHere (g x)
      go (yes q) = subst (λ (l : List ℕ). GoodHere l ⊎ MovedHere l) (sym (ap g q ∙ e)) (level_long m two marked f ks r fol 0 s (omega arith) (separator-Apart m).below)
      go (no ne) = inl (h ne)

  -- a segment under an edit in separator or syndrome is read
  pub tail_read : (e : Edit) → Fits 4 e (3 + width (length m)) → GoodHere (applied e tail) ⊎ MovedHere (applied e tail)
  tail_read None h = inl unhurt
  tail_read (Sub zero x) h = inl (either_way x (λ y. y ∷ s ∷ s ∷ a) refl (sub_first x))
  tail_read (Sub (suc zero) x) h = inl (either_way x (λ y. s ∷ y ∷ s ∷ a) refl (sub_second x))
  tail_read (Sub (suc (suc zero)) x) h = inl (either_way x (λ y. s ∷ s ∷ y ∷ a) refl (sub_third x))
  tail_read (Sub (suc (suc (suc i))) x) h = inl (level_same m two marked f ks r fol (set a i x) (simp length-set (length_syndrome m)))
  tail_read (Del zero x) h = inl del_one
  tail_read (Del (suc zero) x) h = inl del_one
  tail_read (Del (suc (suc zero)) x) h = inl del_one
  tail_read (Del (suc (suc (suc i))) x) h = inl (level_short m two marked f ks r fol (leave_out i a) (length_leave i a (omega (arith, length_syndrome m)) ∙ length_syndrome m))
  tail_read (Ins zero x) h = either_put x (λ y. y ∷ s ∷ s ∷ s ∷ a) refl (ins_first x)
  tail_read (Ins (suc zero) x) h = either_put x (λ y. s ∷ y ∷ s ∷ s ∷ a) refl (ins_second x)
  tail_read (Ins (suc (suc zero)) x) h = either_put x (λ y. s ∷ s ∷ y ∷ s ∷ a) refl (ins_third x)
  tail_read (Ins (suc (suc (suc i))) x) h = level_long m two marked f ks r fol i x (omega (arith, h.0)) h.1
