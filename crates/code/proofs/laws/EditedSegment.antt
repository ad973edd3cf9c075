-- A segment under an edit in its marker, message or check is read, and its syndrome settles the end.
use Rattle.std.specs.Prelude.{◌≡◌, refl, true, List, [], ◌∷◌, ◌++◌, ℕ, zero, suc, ◌+◌, ◌≤◌, ◌<◌, length, get_or, take, drop, set}
use Rattle.std.proofs.Common.{sym, ap, subst, ◌∙◌, append_assoc, ⊎_elim, eq-or-lt_of_le, le_of_suc-le-suc, lt_of_not-le, arith, length-append, length-set, drop-cons, take_at}
use Rattle.std.proofs.Math.Decide.{ℕ_discrete}
use Rattle.std.proofs.Math.Seq.{append_snoc, set-append_seam}
use Rattle.code.specs.Symbols.{Below}
use Rattle.code.specs.Layers.{width}
use Rattle.code.specs.Repair.{put_in, leave_out}
use Rattle.code.specs.Segment.{check, syndrome_of, separator, marker}
use Rattle.code.proofs.laws.Segment.{length_syndrome, marker-Apart}
use Rattle.code.specs.Edits.{applied, Fits}
use Rattle.code.proofs.laws.Edits.{From, applied_left}
use Rattle.code.specs.declared.Edit.{Edit}
use Rattle.code.specs.declared.Edit.TheVariants.{None, Sub, Del, Ins}
use Rattle.code.specs.Reading.{Shift, level, early, late, moved}
use Rattle.code.proofs.laws.EditedBlock.{Settles, tail, length_leave, length_put, leave_last, Settles-none, Settles-sub, Settles-check, Settles-del, Settles-no_check, Settles-ins}
use Rattle.code.proofs.laws.SegmentSteps.{Sees, Final, reads_settled, reads_hit}

-- separator and syndrome
abbrev pub ending : List ℕ → List ℕ
ending m = separator m ∷ separator m ∷ separator m ∷ syndrome_of m

-- the edited v stands before the rest r, and is settled
pub record Settled (m r v : List ℕ) : Type 0 where
  pub shift : Shift
  pub settles : Settles shift m r (v ++ r)
  pub size_is : length v ≡ moved shift (length m + 1) + 3 + width (length m)

module _ (m : List ℕ) (two : 2 ≤ length m) (small : Below 4 m) (r : List ℕ) where
  -- y and the check, and then separator and syndrome
  with_check : (j : Shift) (c : ℕ) (y : List ℕ) → suc (length y) ≡ moved j (length m + 1) → Settles j m r (y ++ c ∷ tail m r) → Settled m r ((y ++ c ∷ []) ++ ending m)
  with_check j c y n t =
      let e : ((y ++ c ∷ []) ++ ending m) ++ r ≡ y ++ c ∷ tail m r = append_assoc (y ++ c ∷ []) (ending m) r ∙ append_snoc y c (tail m r) in
      record {
        shift = j;
        settles = subst (λ (d : List ℕ). Settles j m r d) (sym e) t;
        size_is = simp length-append (omega (arith, length_syndrome m));
      }

  -- an edit that fits message and check, but is not behind the check
  pub message_edit : (e : Edit) → Fits 4 e (suc (length m)) → (From (suc (length m)) e → ⊥) → Settled m r (applied e (m ++ check m ∷ []) ++ ending m)
  message_edit None h o = with_check level (check m) m (omega arith) (Settles-none m two small r)
  message_edit (Sub i x) h o = ⊎_elim at inside (eq-or-lt_of_le (le_of_suc-le-suc h.0))
    where
      at : i ≡ length m → Settled m r (set (m ++ check m ∷ []) i x ++ ending m)
      at e = rw (e, set-append_seam m (check m) [] x) (with_check level x m (omega arith) (Settles-check m two small r x))

      inside : i < length m → Settled m r (set (m ++ check m ∷ []) i x ++ ending m)
      inside l = rw (applied_left (Sub i x) m (check m ∷ []) (l, h.1)) (with_check level (check m) (set m i x) (simp length-set (omega arith)) (Settles-sub m two small r i x l h.1))
  message_edit (Del i x) h o = ⊎_elim at inside (eq-or-lt_of_le (le_of_suc-le-suc h))
    where
      at : i ≡ length m → Settled m r (leave_out i (m ++ check m ∷ []) ++ ending m)
      at e =
          rw (e, leave_last m (check m))
          (record {
            shift = early;
            settles = subst (λ (d : List ℕ). Settles early m r d) (sym (append_assoc m (ending m) r)) (Settles-no_check m two small r);
            size_is = simp length-append (omega (arith, length_syndrome m));
          })

      inside : i < length m → Settled m r (leave_out i (m ++ check m ∷ []) ++ ending m)
      inside l = rw (applied_left (Del i x) m (check m ∷ []) l) (with_check early (check m) (leave_out i m) (omega (arith, length_leave i m l)) (Settles-del m two small r i l))
  message_edit (Ins i x) h o =
      let l : i ≤ length m = le_of_suc-le-suc (lt_of_not-le (λ q. o q)) in
      rw (applied_left (Ins i x) m (check m ∷ []) (l, h.1)) (with_check late (check m) (put_in i x m) (omega (arith, length_put i x m l)) (Settles-ins m two small r i x l h.1))

  -- An edit in the marker

  module _ (f : ℕ) (ks : List ℕ) (last : Final ks r) where
    abbrev mk : ℕ
    mk = marker f m

    -- the message and what follows, behind the marker
    abbrev onward : List ℕ
    onward = m ++ check m ∷ tail m r

    mk_small : mk < 4
    mk_small = (marker-Apart f m).below

    abbrev body : List ℕ
    body = m ++ check m ∷ ending m

    onward_is : body ++ r ≡ onward
    onward_is = append_assoc m (check m ∷ ending m) r

    length-body : length body ≡ length m + 1 + 3 + width (length m)
    length-body = simp length-append (omega (arith, length_syndrome m))

    -- the marker is whole
    whole_marker : Sees true m ks (mk ∷ mk ∷ onward) (length (mk ∷ mk ∷ body))
    whole_marker =
        rw (← onward_is)
        (reads_settled m true f ks body r level (subst (λ (d : List ℕ). Settles level m r d) (sym onward_is) (Settles-none m two small r)) length-body last)

    -- the marker's symbol put in once more stands before the message
    thrice : Sees true m ks (mk ∷ mk ∷ mk ∷ onward) (length (mk ∷ mk ∷ mk ∷ body))
    thrice =
        let n = length-body in
        rw (← onward_is)
        (reads_settled m true f ks (mk ∷ body) r late
        (subst (λ (d : List ℕ). Settles late m r (mk ∷ d)) (sym onward_is) (Settles-ins m two small r 0 mk (omega arith) mk_small)) (omega arith) last)

    -- one of its letters replaced by another: x and y differ
    replaced : (x y : ℕ) → (x ≡ y → ⊥) → Sees true m ks (x ∷ y ∷ onward) (length (x ∷ y ∷ body))
    replaced x y ne =
        let t = Settles-none m two small r in
        let n = length-body in
        reads_hit m x y ks onward (x ∷ y ∷ body) r level ne (take_at m (check m ∷ tail m r) (length m) refl) t.found t.after (ap (λ (l : List ℕ). x ∷ y ∷ l) (sym onward_is)) (omega arith) last

    -- another letter put in at it: the first two of three differ, and the third is the marker's
    put_in_lem : (x y : ℕ) → (x ≡ y → ⊥) → Sees true m ks (x ∷ y ∷ mk ∷ onward) (length (x ∷ y ∷ mk ∷ body))
    put_in_lem x y ne =
        let t = Settles-ins m two small r 0 mk (omega arith) mk_small in
        let n = length-body in
        reads_hit m x y ks (mk ∷ onward) (x ∷ y ∷ mk ∷ body) r late ne (take_at m (check m ∷ tail m r) (length m) refl) t.found t.after (ap (λ (l : List ℕ). x ∷ y ∷ mk ∷ l) (sym onward_is)) (omega arith) last

    -- one of its letters left out: the other stands before the first message symbol, which differs from it
    left_out : Sees true m ks (mk ∷ onward) (length (mk ∷ body))
    left_out =
        let x = get_or m 0 0 in
        let w = drop 1 m ++ check m ∷ tail m r in
        let q : m ≡ x ∷ drop 1 m = drop-cons m 0 0 (omega arith) in
        let d : onward ≡ x ∷ w = ap (λ (l : List ℕ). l ++ check m ∷ tail m r) q in
        let t = Settles-del m two small r 0 (omega arith) in
        let n = length-body in
        let k : take (length m) (x ∷ w) ≡ m = ap (take (length m)) (sym d) ∙ take_at m (check m ∷ tail m r) (length m) refl in
        subst (λ (l : List ℕ). Sees true m ks (mk ∷ l) (length (mk ∷ body))) (sym d)
        (reads_hit m mk x ks w (mk ∷ body) r early (marker-Apart f m).second k t.found t.after (ap (λ (l : List ℕ). mk ∷ l) (sym d ∙ sym onward_is)) (omega arith) last)

    pub marker_edit : (e : Edit) → Fits 4 e 2 → (From 2 e → ⊥) → Sees true m ks (applied e (mk ∷ mk ∷ []) ++ onward) (length (applied e (mk ∷ mk ∷ []) ++ body))
    marker_edit None h o = whole_marker
    marker_edit (Sub zero x) h o = decided (ℕ_discrete x mk)
      where
        decided : Dec (x ≡ mk) → Sees true m ks (x ∷ mk ∷ onward) (length (x ∷ mk ∷ body))
        decided (yes e) = rw e whole_marker
        decided (no ne) = replaced x mk ne
    marker_edit (Sub (suc zero) x) h o = decided (ℕ_discrete mk x)
      where
        decided : Dec (mk ≡ x) → Sees true m ks (mk ∷ x ∷ onward) (length (mk ∷ x ∷ body))
        decided (yes e) = rw (← e) whole_marker
        decided (no ne) = replaced mk x ne
    marker_edit (Sub (suc (suc i)) x) h o = absurd (o (omega arith))
    marker_edit (Del zero x) h o = left_out
    marker_edit (Del (suc zero) x) h o = left_out
    marker_edit (Del (suc (suc i)) x) h o = absurd (o (omega arith))
    marker_edit (Ins zero x) h o = decided (ℕ_discrete x mk)
      where
        decided : Dec (x ≡ mk) → Sees true m ks (x ∷ mk ∷ mk ∷ onward) (length (x ∷ mk ∷ mk ∷ body))
        decided (yes e) = rw e thrice
        decided (no ne) = put_in_lem x mk ne
    marker_edit (Ins (suc zero) x) h o = decided (ℕ_discrete mk x)
      where
        decided : Dec (mk ≡ x) → Sees true m ks (mk ∷ x ∷ mk ∷ onward) (length (mk ∷ x ∷ mk ∷ body))
        decided (yes e) = rw (← e) thrice
        decided (no ne) = put_in_lem mk x ne
    marker_edit (Ins (suc (suc i)) x) h o = absurd (o (omega arith))
