-- The end of a segment, from what step 8 answers; and the message, from what steps 2 to 7 answer.
--   end_nowhere   there is no end
--   end_known     there is one
--   message_lost  a step loses it
use mathlib.Core.Path.{◌≡◌, refl, sym, ap, subst, ◌∙◌}
use mathlib.Core.List.{List}
use mathlib.Core.Option.{Option, some, none}
use Prim.Native.Nat.{ℕ, ◌+◌, ◌-◌, ◌≤◌}
use native.Mathlib.Omega.{arith}
use lib.ListN.{length, drop}
use Rattle.code.specs.Segment.{last_of}
use Rattle.code.specs.Reading.{message, lost, end_of}
use Rattle.code.specs.Reading as R
use Rattle.tail.specs.declared.Tail.{Tail}
use Rattle.std.specs.Prelude.{Result, Err}
use Rattle.message.specs.declared.Lost.{Lost}
use Rattle.message.specs.MessageAnswers.{IsMessageResult}
use Rattle.scan.specs.declared.Next.{Next}
use Rattle.scan.specs.declared.Next.TheVariants.{At, Clean, Nowhere}
use Rattle.scan.specs.Scans.{Ahead, ahead, start_from, next_place}
use Rattle.steps.specs.declared.strand.Strand.{Strand}
use Rattle.steps.specs.declared.strand.Start.{Start}
use Rattle.steps.specs.Step8.{IsEnd}
use Rattle.steps.specs.Steps.{message_from}
use Rattle.steps.proofs.Answers.{Ended}

no_start : (p l : ℕ) (x : Option ℕ) → none ≡ start_from 0 p (λ o. l) x → x ≡ none
no_start p l none e = refl
no_start p l (some o) e = absurd (let z : ◌≡◌ {A = ℕ} 0 1 = cc in omega arith)

some_start : (p l : ℕ) (x : Option ℕ) (y : Ahead) → some y ≡ start_from 0 p (λ o. l) x → (x ≡ some (y.place - p)) × (p ≤ y.place) × (y ≡ ahead 0 y.place l)
some_start p l none y e = absurd (let z : ◌≡◌ {A = ℕ} 0 1 = cc in omega arith)
some_start p l (some o) y e =
    let q : y ≡ ahead 0 (p + o) l = cc in
    let n : y.place ≡ p + o = ap (λ (x : Ahead). x.place) q in
    let i : o ≡ y.place - p = omega arith in
    (ap some i, omega arith, q ∙ ap (λ (x : ℕ). ahead 0 x l) (sym n))

module _ (strand : Strand) (start : Start) (m ks : List ℕ) where
  abbrev end : Option ℕ
  end = end_of start.marked (length m) ks (drop start.at strand.symbols.now) (drop start.at strand.letters.now) m

  -- there is no end
  pub end_nowhere : (r : Next) → IsEnd strand start m ks r → r ≡ Nowhere → end ≡ none
  end_nowhere r is e = no_start start.at (last_of m) end (subst (IsEnd strand start m ks) e is).0

  -- there is one
  pub end_known : message_from strand start (length m) ≡ message m → (r : Next) → IsEnd strand start m ks r → (r ≡ Nowhere → ⊥) → (n at : ℕ) → at ≡ next_place r n → Ended strand start ks m r at
  end_known g (At e f) is h n at q =
      let x = some_start start.at (last_of m) end (ahead 0 e f) is.0 in
      record { is_read_message = g; ends = rw q x.0; behind = omega (arith, x.1, q); inside = omega (arith, is.1.inside, q); next_is = rw q (ap some x.2); known = is.1 }
  end_known g (Clean e f i) is h n at q =
      let x = some_start start.at (last_of m) end (ahead i e f) is.0 in
      record { is_read_message = g; ends = rw q x.0; behind = omega (arith, x.1, q); inside = omega (arith, is.1.0.inside, q); next_is = rw q (ap some x.2); known = is.1 }
  end_known g Nowhere is h n at q = absurd (h refl)

-- the step that loses it
pub message_lost : (g : R.MessageResult) (out : List ℕ) (r : Result Tail Lost) (x : Lost) → IsMessageResult g out r → r ≡ Err x → g ≡ lost x.step
message_lost g out r x is e = go g (subst (IsMessageResult g out) e is)
  where
    go : (g : R.MessageResult) → IsMessageResult g out (Err x) → g ≡ lost x.step
    go (message m) h = absurd h
    go (lost i) h = ap lost (sym h)
