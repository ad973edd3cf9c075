-- What the first difference and the rest behind it tell of the judgement.
use mathlib.Core.Path.{◌≡◌, refl, sym, ap, subst, ◌∙◌}
use mathlib.Core.Bool.{Bool, true, false, cond, true≢false}
use mathlib.Core.List.{List}
use mathlib.Core.Option.{some, none}
use Prim.Native.Nat.{ℕ, suc, ◌+◌, ◌-◌, ◌≤◌, ◌<◌}
use native.Mathlib.Decide.{dec_le}
use native.Mathlib.Nat.{lt_of_not-le}
use native.Mathlib.Numerals.{add-one}
use native.Mathlib.Omega.{arith}
use lib.ListN.{length, get_or, take, drop, set, length-drop, length-set, take-append-drop}
use lib.Seq.{take_all, set-get_or, set_split, split_at}
use Rattle.code.specs.Repair.{put_in, leave_out}
use Rattle.code.proofs.laws.EditedBlock.{length_leave, length_put}
use Rattle.code.specs.Edits.{judged}
use Rattle.code.proofs.laws.Judged.{judged_same}
use Rattle.code.proofs.laws.JudgedPlaces.{Misses, judged_missed, judged_sub, judged_del, judged_ins}
use Rattle.code.specs.Reading.{is_prefix}
use Rattle.code.specs.declared.Edit.TheVariants.{None, Sub, Del, Ins}
use Rattle.edits.specs.Judgement.{common, run_start}
use Rattle.edits.proofs.LeftOut.{leave_low, leave_high, leave_put, put_leave, leave_past, leave_le, leave_ge}
use Rattle.places.proofs.TestsAtPlaces.{prefix_equal, prefix_whole}
use Rattle.edits.proofs.SharedFront.{shared, shared_at, common_self, set_rest, leave_rest, Run, run}

-- Which edits the lengths rule out

module _ (w v : List ℕ) (j : ℕ) (inside : j ≤ length w) where
  put_length : put_in j (get_or v j 0) w ≡ v → length v ≡ suc (length w)
  put_length e = sym (ap length e) ∙ length_put j (get_or v j 0) w inside

  set-length : set w j (get_or v j 0) ≡ v → length v ≡ length w
  set-length e = sym (ap length e) ∙ length-set w j (get_or v j 0)

  miss_changed : length v ≡ length w → (w ≡ v → ⊥) → (set w j (get_or v j 0) ≡ v → ⊥) → Misses w v j
  miss_changed n differ m = record { sub = m; del = λ e. go e (dec_le (length w) j); ins = λ e. omega (arith, put_length e) }
    where
      go : leave_out j w ≡ v → Dec (length w ≤ j) → ⊥
      go e (yes h) = differ (sym (leave_past j w h) ∙ e)
      go e (no h) = let l = lt_of_not-le h in omega (arith, ap length e, length_leave j w l)

  miss_less : length v + 1 ≡ length w → (leave_out j w ≡ v → ⊥) → Misses w v j
  miss_less n m = record { sub = λ e. omega (arith, set-length e); del = m; ins = λ e. omega (arith, put_length e) }

  miss_more : length v ≡ length w + 1 → (put_in j (get_or v j 0) w ≡ v → ⊥) → Misses w v j
  miss_more n m = record { sub = λ e. omega (arith, set-length e); del = λ e. omega (arith, ap length e, leave_le j w); ins = m }

  miss_far : (length v ≡ length w → ⊥) → (length v + 1 ≡ length w → ⊥) → (length v ≡ length w + 1 → ⊥) → Misses w v j
  miss_far n n' n'' =
      record {
        sub = λ e. n (set-length e);
        del = λ e. let q = ap length e in let a = leave_le j w in let b = leave_ge j w in omega arith;
        ins = λ e. n'' (omega (arith, put_length e));
      }

-- As many letters

-- the list from place n on, as a part of a slice
abbrev from : List ℕ → ℕ → List ℕ
from l n = take (length l - n) (drop n l)

from_is : (l : List ℕ) (n : ℕ) → from l n ≡ drop n l
from_is l n = take_all (length l - n) (drop n l) (omega (arith, length-drop n l))

module _ (w v : List ℕ) (i : ℕ) (as_many : length v ≡ length w) (found : i ≡ common w v) where
  pub changed_none : length w ≤ i → judged w v ≡ some None
  changed_none h =
      let s = shared w v in
      judged_same w v (sym (take_all (common w v) w (omega arith)) ∙ s.front ∙ take_all (common w v) v (omega arith))

  module _ (inside : i < length w) where
    differ : w ≡ v → ⊥
    differ e = omega (arith, common_self w v e)

    pub changed_sub : is_prefix (from w (i + 1)) (drop (i + 1) v) ≡ true → judged w v ≡ some (Sub i (get_or v i 0))
    changed_sub t =
        let n : length (from w (i + 1)) ≡ length (drop (i + 1) v) = rw from_is (simp length-drop (omega arith)) in
        let r : drop (suc i) w ≡ drop (suc i) v = rw (← add-one) (sym (from_is w (i + 1)) ∙ prefix_whole (from w (i + 1)) (drop (i + 1) v) n t) in
        let f : take i w ≡ take i v = rw found (shared w v).front in
        let k : i < length v = omega arith in
        judged_sub w v differ i (omega arith)
        (λ j l. miss_changed w v j (omega arith) as_many differ (λ e. differ (sym (set-get_or w j 0) ∙ ap (λ (x : ℕ). set w j x) (shared_at w v j (omega arith)) ∙ e)))
        (set_split w i (get_or v i 0) inside ∙ rw (f, r) (sym (split_at v i 0 k)))

    pub changed_many : is_prefix (from w (i + 1)) (drop (i + 1) v) ≡ false → judged w v ≡ none
    changed_many t = judged_missed w v differ (λ j l. miss_changed w v j l as_many differ (λ e. true≢false (sym (prefix_equal (from w (i + 1)) (drop (i + 1) v) (from_is w (i + 1) ∙ rest j e)) ∙ t)))
      where
        rest : (j : ℕ) → set w j (get_or v j 0) ≡ v → drop (i + 1) w ≡ drop (i + 1) v
        rest j e = rw (add-one, found) (subst (λ (u : List ℕ). drop (suc (common w u)) w ≡ drop (suc (common w u)) u) e (set_rest j (get_or v j 0) w))

-- One letter less or more: it is left out of the longer list

module _ (long short : List ℕ) (i : ℕ) (one : length short + 1 ≡ length long) (found : i ≡ common long short) where
  within : i < length long
  within = let s = shared long short in omega arith

  -- the rest behind the first difference agrees
  module _ (t : is_prefix (from long (i + 1)) (drop i short) ≡ true) where
    gone : leave_out i long ≡ short
    gone =
        let s = shared long short in
        let n : length (from long (i + 1)) ≡ length (drop i short) = rw from_is (simp length-drop (omega arith)) in
        let r : drop (suc i) long ≡ drop i short = rw (← add-one) (sym (from_is long (i + 1)) ∙ prefix_whole (from long (i + 1)) (drop i short) n t) in
        let f : take i long ≡ take i short = rw found s.front in
        rw (f, r) (take-append-drop i short)

    module _ (p : ℕ) (start : p ≡ run_start long (get_or long i 0) i) where
      the_Run : Run long (get_or long i 0) i p
      the_Run = rw start (run long (get_or long i 0) i within refl)

      first_gone : leave_out p long ≡ short
      first_gone = the_Run.left ∙ gone

      before_gone : (j : ℕ) → j < p → leave_out j long ≡ short → ⊥
      before_gone j l e =
          let q : p ≡ suc (p - 1) = omega arith in
          the_Run.first (p - 1) q
          (sym (leave_low p (p - 1) long (omega arith)) ∙ ap (λ (u : List ℕ). get_or u (p - 1) 0) (first_gone ∙ sym e) ∙ leave_high j (p - 1) long (omega arith) ∙ rw (← q) the_Run.at)

  never_gone : is_prefix (from long (i + 1)) (drop i short) ≡ false → (j : ℕ) → leave_out j long ≡ short → ⊥
  never_gone t j e = true≢false (sym (prefix_equal (from long (i + 1)) (drop i short) (from_is long (i + 1) ∙ rest)) ∙ t)
    where
      rest : drop (i + 1) long ≡ drop i short
      rest = rw (add-one, found) (subst (λ (u : List ℕ). drop (suc (common long u)) long ≡ drop (common long u) u) e (leave_rest j long))

  unlike : long ≡ short → ⊥
  unlike e = omega (arith, ap length e)

  -- a letter put in is one that is left out of the longer
  out : (j : ℕ) → j ≤ length short → put_in j (get_or long j 0) short ≡ long → leave_out j long ≡ short
  out j h e = ap (λ (u : List ℕ). leave_out j u) (sym e) ∙ leave_put j (get_or long j 0) short h

  pub one_many : (less : Bool) → is_prefix (from long (i + 1)) (drop i short) ≡ false → judged (cond less long short) (cond less short long) ≡ none
  one_many true t = judged_missed long short unlike (λ j l. miss_less long short j l one (never_gone t j))
  one_many false t = judged_missed short long (λ e. unlike (sym e)) (λ j l. miss_more short long j l (sym one) (λ e. never_gone t j (out j l e)))

  module _ (t : is_prefix (from long (i + 1)) (drop i short) ≡ true) (p : ℕ) (start : p ≡ run_start long (get_or long i 0) i) (h : p ≤ i) where
    pub one_less : judged long short ≡ some (Del p (get_or long p 0))
    one_less =
        let b = within in
        judged_del long short unlike p (omega arith)
        (λ j l. miss_less long short j (omega arith) one (before_gone t p start j l))
        (λ e. omega (arith, set-length long short p (omega arith) e))
        (first_gone t p start)

    pub one_more : judged short long ≡ some (Ins p (get_or long p 0))
    one_more =
        let b = within in
        judged_ins short long (λ e. unlike (sym e)) p (omega arith)
        (λ j l. miss_more short long j (omega arith) (sym one) (λ e. before_gone t p start j l (out j (omega arith) e)))
        (λ e. omega (arith, set-length short long p (omega arith) e))
        (λ e. omega (arith, ap length e, leave_le p short))
        (ap (λ (u : List ℕ). put_in p (get_or long p 0) u) (sym (first_gone t p start)) ∙ put_leave p long (omega arith))

-- Lengths further apart

pub far_many : (w v : List ℕ) → (length v ≡ length w → ⊥) → (length v + 1 ≡ length w → ⊥) → (length v ≡ length w + 1 → ⊥) → judged w v ≡ none
far_many w v n n' n'' = judged_missed w v (λ e. n (sym (ap length e))) (λ j l. miss_far w v j l n n' n'')
