-- Laws of the judgement: the edit it names turns the written segment into the piece, no smaller place does, and it is missed only where one
-- edit is not enough.
use Rattle.std.proofs.Math.Path.{◌≡◌, refl, subst}
use Rattle.std.proofs.Common.{sym, ap, ◌∙◌, append-nil, ⊎_elim, eq-or-lt_of_le, lt_of_not-le, not-suc-le-zero, drop_of_length-le, take_all, get_or-set_same}
use Rattle.std.specs.Prelude.{Bool, ◌||◌, List, [], ◌∷◌, length, set}
use Rattle.std.proofs.Math.Bool.{true, false, cond, true≢false}
use Rattle.std.proofs.Math.Option.{some, none}
use Prim.Native.Nat.{ℕ, zero, suc, ◌+◌, ◌≤◌, ◌<◌}
use Rattle.std.proofs.Math.Nat.{le_of_suc-le-suc}
use native.Mathlib.Omega.{arith}
use Rattle.std.proofs.Math.Decide.{dec_le}
use Rattle.std.proofs.Math.ListN.{get_or}
use Rattle.std.proofs.Math.Seq.{take-length, drop-length, set_out}
use Rattle.code.specs.Symbols.{Below}
use Rattle.code.specs.Repair.{put_in, leave_out}
use Rattle.code.specs.Edits.{applied, place_of, Fits, same, first_edit, judged}
use Rattle.code.proofs.laws.Edits.{same_refl, same-true}
use Rattle.code.specs.declared.Edit.{Edit}
use Rattle.code.specs.declared.Edit.TheVariants.{None, Sub, Del, Ins}

module _ (w v : List ℕ) where
  turns : Edit → Bool
  turns e = same (applied e w) v

  -- the edits that are tried at place i
  sub_at : ℕ → Edit
  sub_at i = Sub i (get_or v i 0)

  del_at : ℕ → Edit
  del_at i = Del i (get_or w i 0)

  ins_at : ℕ → Edit
  ins_at i = Ins i (get_or v i 0)

  -- one of them turns w into v
  turns_at : ℕ → Bool
  turns_at i = turns (sub_at i) || (turns (del_at i) || turns (ins_at i))

  -- what a search from place i on found
  record Smallest (i : ℕ) (e : Edit) : Type 0 where
    gives : applied e w ≡ v
    behind : i ≤ place_of e
    least : (j : ℕ) → i ≤ j → j < place_of e → turns_at j ≡ false

  first_some : (i n : ℕ) (e : Edit) → first_edit w v i n ≡ some e → Smallest i e
  unfolding first_edit turns sub_at del_at ins_at turns_at
  first_some i zero e h = let z : ◌≡◌ {A = ℕ} 0 1 = cc in absurd (omega arith)
  first_some i (suc n) e h = go (turns (sub_at i)) (turns (del_at i)) (turns (ins_at i)) refl refl refl h (λ q. first_some (suc i) n e q)
    where
      found : (d : Edit) → place_of d ≡ i → turns d ≡ true → some d ≡ some e → Smallest i e
      found d p t q =
          let r : d ≡ e = cc in
          subst (λ (x : Edit). Smallest i x) r (record { gives = same-true (applied d w) v t; behind = omega arith; least = λ j l k. absurd (omega arith) })

      go : (a b c : Bool) → turns (sub_at i) ≡ a → turns (del_at i) ≡ b → turns (ins_at i) ≡ c → cond a (some (sub_at i)) (cond b (some (del_at i)) (cond c (some (ins_at i)) (first_edit w v (suc i) n))) ≡ some e → (first_edit w v (suc i) n ≡ some e → Smallest (suc i) e) → Smallest i e
      go true b c p q r f next = found (sub_at i) refl p f
      go false true c p q r f next = found (del_at i) refl q f
      go false false true p q r f next = found (ins_at i) refl r f
      go false false false p q r f next =
          let s = next f in
          record {
            gives = s.gives;
            behind = omega (arith, s.behind);
            least = λ j l k. ⊎_elim (λ (g : i ≡ j). rw (← g, p, q, r)) (λ (g : i < j). s.least j g k) (eq-or-lt_of_le l);
          }

  first_none : (i n : ℕ) → first_edit w v i n ≡ none → (j : ℕ) → i ≤ j → j < i + n → turns_at j ≡ false
  unfolding first_edit turns sub_at del_at ins_at turns_at
  first_none i zero h j l k = absurd (omega arith)
  first_none i (suc n) h j l k = go (turns (sub_at i)) (turns (del_at i)) (turns (ins_at i)) refl refl refl h (λ q r. first_none (suc i) n q j r (omega arith))
    where
      missed : (d : Edit) → some d ≡ none → turns_at j ≡ false
      missed d q = let z : ◌≡◌ {A = ℕ} 0 1 = cc in absurd (omega arith)

      go : (a b c : Bool) → turns (sub_at i) ≡ a → turns (del_at i) ≡ b → turns (ins_at i) ≡ c → cond a (some (sub_at i)) (cond b (some (del_at i)) (cond c (some (ins_at i)) (first_edit w v (suc i) n))) ≡ none → (first_edit w v (suc i) n ≡ none → i < j → turns_at j ≡ false) → turns_at j ≡ false
      go true b c p q r f next = missed (sub_at i) f
      go false true c p q r f next = missed (del_at i) f
      go false false true p q r f next = missed (ins_at i) f
      go false false false p q r f next = ⊎_elim (λ (g : i ≡ j). rw (← g, p, q, r)) (λ (g : i < j). next f g) (eq-or-lt_of_le l)

put_at_lem : (i x : ℕ) (w : List ℕ) → i ≤ length w → get_or (put_in i x w) i 0 ≡ x
put_at_lem zero x w h = refl
put_at_lem (suc i) x [] h = absurd (not-suc-le-zero h)
put_at_lem (suc i) x (y ∷ w) h = put_at_lem i x w (le_of_suc-le-suc h)

or_left : (a b : Bool) → a ≡ true → (a || b) ≡ true
or_left true b e = refl
or_left false b e = cc

or_right : (a b : Bool) → b ≡ true → (a || b) ≡ true
or_right true b e = refl
or_right false b e = e

-- an edit that turns w into v is found at its place
edit_turns : (w v : List ℕ) (e : Edit) → Fits 4 e (length w) → applied e w ≡ v → (e ≡ None → ⊥) → turns_at w v (place_of e) ≡ true
unfolding turns sub_at del_at ins_at turns_at
edit_turns w v None h t n = absurd (n refl)
edit_turns w v (Sub i x) h t n =
    let g : get_or v i 0 ≡ x = rw (← t) (get_or-set_same w i x 0 h.0) in
    let s : turns w v (sub_at w v i) ≡ true = rw (g, t) (same_refl v) in
    or_left (turns w v (sub_at w v i)) (turns w v (del_at w v i) || turns w v (ins_at w v i)) s
edit_turns w v (Del i x) h t n =
    let s : turns w v (del_at w v i) ≡ true = rw t (same_refl v) in
    or_right (turns w v (sub_at w v i)) (turns w v (del_at w v i) || turns w v (ins_at w v i)) (or_left (turns w v (del_at w v i)) (turns w v (ins_at w v i)) s)
edit_turns w v (Ins i x) h t n =
    let g : get_or v i 0 ≡ x = rw (← t) (put_at_lem i x w h.0) in
    let s : turns w v (ins_at w v i) ≡ true = rw (g, t) (same_refl v) in
    or_right (turns w v (sub_at w v i)) (turns w v (del_at w v i) || turns w v (ins_at w v i)) (or_right (turns w v (del_at w v i)) (turns w v (ins_at w v i)) s)

-- The judgement

Fits-place : (e : Edit) (n : ℕ) → Fits 4 e n → place_of e ≤ n
Fits-place None n h = omega arith
Fits-place (Sub i x) n h = omega (arith, h.0)
Fits-place (Del i x) n h = omega arith
Fits-place (Ins i x) n h = h.0

module _ (w v : List ℕ) where
  -- the named edit gives the piece, and no edit with a smaller place does
  pub record Named (e : Edit) : Type 0 where
    pub gives : applied e w ≡ v
    pub smallest : (d : Edit) → Fits 4 d (length w) → applied d w ≡ v → place_of e ≤ place_of d

  unequal : (d : Edit) → same w v ≡ false → applied d w ≡ v → d ≡ None → ⊥
  unequal d f t e =
      let q : w ≡ v = sym (ap (λ (x : Edit). applied x w) e) ∙ t in
      true≢false (sym (rw q (same_refl v)) ∙ f)

  pub judged-Named : (e : Edit) → judged w v ≡ some e → Named e
  unfolding judged
  judged-Named e h = go (same w v) refl h
    where
      go : (b : Bool) → same w v ≡ b → cond b (some None) (first_edit w v 0 (suc (length w))) ≡ some e → Named e
      go true q f =
          let r : None ≡ e = cc in
          subst (λ (x : Edit). Named x) r (record { gives = same-true w v q; smallest = λ d k t. omega arith })
      go false q f =
          let s = first_some w v 0 (suc (length w)) e f in
          record {
            gives = s.gives;
            smallest = λ d k t.
                le_of_suc-le-suc (lt_of_not-le (λ l. true≢false (sym (edit_turns w v d k t (unequal d q t)) ∙ s.least (place_of d) (omega arith) l)));
          }

  -- where no edit is named, one is not enough
  pub judged-none : judged w v ≡ none → (d : Edit) → Fits 4 d (length w) → applied d w ≡ v → ⊥
  unfolding judged
  judged-none h d k t = go (same w v) refl h
    where
      go : (b : Bool) → same w v ≡ b → cond b (some None) (first_edit w v 0 (suc (length w))) ≡ none → ⊥
      go true q f = let z : ◌≡◌ {A = ℕ} 0 1 = cc in omega arith
      go false q f =
          let l = Fits-place d (length w) k in
          true≢false (sym (edit_turns w v d k t (unequal d q t)) ∙ first_none w v 0 (suc (length w)) f (place_of d) (omega arith) (omega arith))

-- no edit is named where the piece equals the segment
pub judged_same : (w v : List ℕ) → w ≡ v → judged w v ≡ some None
unfolding judged
judged_same w v e = rw (e, same_refl v)

-- past the end an edit changes nothing, but for an insertion, which stands at the end
left_past : (w : List ℕ) (i : ℕ) → length w ≤ i → leave_out i w ≡ w
left_past w i h = let past : length w ≤ suc i = omega arith in rw (take_all i w h, drop_of_length-le w past) (append-nil w)

put_past : (w : List ℕ) (i x : ℕ) → length w ≤ i → put_in i x w ≡ put_in (length w) x w
put_past w i x h = rw (take_all i w h, drop_of_length-le w h, take-length w, drop-length w)

-- the named place is one of the segment's, and the named letter is one
module _ (w v : List ℕ) (v4 : Below 4 v) where
  pub judged-Fits : (e : Edit) → judged w v ≡ some e → Fits 4 e (length w)
  judged-Fits None q = tt
  judged-Fits (Sub i x) q = go (dec_le (length w) i)
    where
      t : set w i x ≡ v
      t = (judged-Named w v (Sub i x) q).gives

      go : Dec (length w ≤ i) → (i < length w) × (x < 4)
      go (yes h) = let s = judged_same w v (sym (set_out w i x h) ∙ t) in let z : ◌≡◌ {A = ℕ} 0 1 = cc in absurd (omega arith)
      go (no h) =
          let l : i < length w = lt_of_not-le h in
          let g : get_or v i 0 ≡ x = rw (← t) (get_or-set_same w i x 0 l) in
          (l, omega (arith, v4 i))
  judged-Fits (Del i x) q = go (dec_le (length w) i)
    where
      t : leave_out i w ≡ v
      t = (judged-Named w v (Del i x) q).gives

      go : Dec (length w ≤ i) → i < length w
      go (yes h) = let s = judged_same w v (sym (left_past w i h) ∙ t) in let z : ◌≡◌ {A = ℕ} 0 1 = cc in absurd (omega arith)
      go (no h) = lt_of_not-le h
  judged-Fits (Ins i x) q = go (dec_le (length w) i)
    where
      n : Named w v (Ins i x)
      n = judged-Named w v (Ins i x) q

      small : (p : ℕ) → p ≤ length w → put_in p x w ≡ v → x < 4
      small p h t = let g : get_or v p 0 ≡ x = rw (← t) (put_at_lem p x w h) in omega (arith, v4 p)

      go : Dec (length w ≤ i) → (i ≤ length w) × (x < 4)
      go (yes h) =
          let t : put_in (length w) x w ≡ v = sym (put_past w i x h) ∙ n.gives in
          let s = small (length w) (omega arith) t in
          (n.smallest (Ins (length w) x) (omega arith, s) t, s)
      go (no h) = let l : i < length w = lt_of_not-le h in (omega arith, small i (omega arith) n.gives)

-- the letter of a deletion is the written one
module _ (w v : List ℕ) (i x : ℕ) where
  first_left : (j n : ℕ) → first_edit w v j n ≡ some (Del i x) → x ≡ get_or w i 0
  unfolding first_edit
  first_left j zero q = let z : ◌≡◌ {A = ℕ} 0 1 = cc in absurd (omega arith)
  first_left j (suc n) q = go (same (applied sub w) v) (same (applied del w) v) (same (applied ins w) v) q (λ r. first_left (suc j) n r)
    where
      sub : Edit
      sub = Sub j (get_or v j 0)

      del : Edit
      del = Del j (get_or w j 0)

      ins : Edit
      ins = Ins j (get_or v j 0)

      go : (a b c : Bool) → cond a (some sub) (cond b (some del) (cond c (some ins) (first_edit w v (suc j) n))) ≡ some (Del i x) → (first_edit w v (suc j) n ≡ some (Del i x) → x ≡ get_or w i 0) → x ≡ get_or w i 0
      go true b c r next = let z : ◌≡◌ {A = ℕ} 0 1 = cc in absurd (omega arith)
      go false true c r next =
          let e : j ≡ i = cc in
          let d : get_or w j 0 ≡ x = cc in
          rw (← e) (sym d)
      go false false true r next = let z : ◌≡◌ {A = ℕ} 0 1 = cc in absurd (omega arith)
      go false false false r next = next r

  pub judged_left : judged w v ≡ some (Del i x) → x ≡ get_or w i 0
  unfolding judged
  judged_left q = go (same w v) q
    where
      go : (b : Bool) → cond b (some None) (first_edit w v 0 (suc (length w))) ≡ some (Del i x) → x ≡ get_or w i 0
      go true r = let z : ◌≡◌ {A = ℕ} 0 1 = cc in absurd (omega arith)
      go false r = first_left 0 (suc (length w)) r
