-- What the judgement is, by what each place gives.
--   Misses         no edit that is tried at a place turns the segment into the piece
--   judged_missed  no place gives the piece
--   judged_sub,    the edit at the first place that does
--   judged_del,
--   judged_ins
use Rattle.std.specs.Prelude.{◌≡◌, Bool, true, false, List, length, get_or, set}
use Rattle.std.proofs.Math.Path.{refl}
use Rattle.std.proofs.Common.{◌∙◌}
use Rattle.std.proofs.Math.Option.{some, none}
use Prim.Native.Nat.{ℕ, zero, suc, ◌+◌, ◌-◌, ◌≤◌, ◌<◌}
use native.Mathlib.Omega.{arith}
use Rattle.code.specs.Repair.{put_in, leave_out}
use Rattle.code.specs.Edits.{same, first_edit, judged}
use Rattle.code.proofs.laws.Edits.{same_refl, same-true}
use Rattle.code.specs.declared.Edit.TheVariants.{Sub, Del, Ins}

-- no edit that is tried at place j turns w into v
pub record Misses (w v : List ℕ) (j : ℕ) : Type 0 where
  pub sub : set w j (get_or v j 0) ≡ v → ⊥
  pub del : leave_out j w ≡ v → ⊥
  pub ins : put_in j (get_or v j 0) w ≡ v → ⊥

same-false : (w v : List ℕ) → (w ≡ v → ⊥) → same w v ≡ false
same-false w v n = go (same w v) refl
  where
    go : (b : Bool) → same w v ≡ b → b ≡ false
    go true e = absurd (n (same-true w v e))
    go false e = refl

same_yes : (w v : List ℕ) → w ≡ v → same w v ≡ true
same_yes w v e = rw e (same_refl v)

module _ (w v : List ℕ) where
  -- places that miss are passed over
  first_skip : (d i n m q : ℕ) → m ≡ d + n → q ≡ i + d → ((j : ℕ) → i ≤ j → j < q → Misses w v j) → first_edit w v i m ≡ first_edit w v q n
  unfolding first_edit
  first_skip zero i n m q e f h =
      let g : m ≡ n = omega arith in
      let k : q ≡ i = omega arith in
      rw (g, k)
  first_skip (suc d) i n m q e f h =
      let s = h i (omega arith) (omega arith) in
      let g : m ≡ suc (d + n) = omega arith in
      rw (g, same-false (set w i (get_or v i 0)) v s.sub, same-false (leave_out i w) v s.del, same-false (put_in i (get_or v i 0) w) v s.ins)
      (first_skip d (suc i) n (d + n) q refl (omega arith) (λ j l k. h j (omega arith) k))

  module _ (differ : w ≡ v → ⊥) where
    judged_first : judged w v ≡ first_edit w v 0 (suc (length w))
    unfolding judged
    judged_first = rw (same-false w v differ)

    -- no place gives the piece
    pub judged_missed : ((j : ℕ) → j ≤ length w → Misses w v j) → judged w v ≡ none
    unfolding first_edit
    judged_missed m = judged_first ∙ first_skip (suc (length w)) 0 0 (suc (length w)) (suc (length w)) (omega arith) (omega arith) (λ j l k. m j (omega arith))

    -- p is the first place that gives the piece
    module _ (p : ℕ) (inside : p ≤ length w) (before : (j : ℕ) → j < p → Misses w v j) where
      judged_at : judged w v ≡ first_edit w v p (suc (length w - p))
      judged_at = judged_first ∙ first_skip p 0 (suc (length w - p)) (suc (length w)) p (omega arith) (omega arith) (λ j l k. before j k)

      pub judged_sub : set w p (get_or v p 0) ≡ v → judged w v ≡ some (Sub p (get_or v p 0))
      unfolding first_edit
      judged_sub t = judged_at ∙ rw (same_yes (set w p (get_or v p 0)) v t)

      pub judged_del : (set w p (get_or v p 0) ≡ v → ⊥) → leave_out p w ≡ v → judged w v ≡ some (Del p (get_or w p 0))
      unfolding first_edit
      judged_del s t = judged_at ∙ rw (same-false (set w p (get_or v p 0)) v s, same_yes (leave_out p w) v t)

      pub judged_ins : (set w p (get_or v p 0) ≡ v → ⊥) → (leave_out p w ≡ v → ⊥) → put_in p (get_or v p 0) w ≡ v → judged w v ≡ some (Ins p (get_or v p 0))
      unfolding first_edit
      judged_ins s d t =
          judged_at
          ∙ rw (same-false (set w p (get_or v p 0)) v s, same-false (leave_out p w) v d, same_yes (put_in p (get_or v p 0) w) v t)
