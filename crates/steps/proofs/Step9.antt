-- Step 9: the piece against the segment written anew.
--   size_most    a segment fits the array that it is written into
--   anew_front   it stands at the front of that array
--   named        a verdict that names an edit
--   lost_named   one that names none
use mathlib.Core.Path.{◌≡◌, refl, sym, ◌∙◌}
use mathlib.Core.Bool.{Bool, true, false}
use mathlib.Core.List.{List}
use mathlib.Core.Option.{Option, some, none}
use Prim.Native.Nat.{ℕ, ◌≤◌}
use native.Mathlib.Omega.{arith}
use lib.ListN.{length, take, drop}
use lib.Seq.{take-append-le, take-length}
use Rattle.code.specs.Buffers.{put_at}
use Rattle.code.proofs.laws.Lists.{put_first}
use Rattle.code.specs.Bounds.{longest}
use Rattle.code.proofs.laws.Layers.{width-Least}
use Rattle.code.specs.Segment.{segment, size}
use Rattle.code.proofs.laws.Segment.{length-segment}
use Rattle.code.specs.declared.Edit.{Edit}
use Rattle.code.specs.declared.Verdict.{Verdict}
use Rattle.code.specs.declared.Verdict.TheVariants.{Read, Lost}
use Rattle.edits.specs.Judgement.{judged_as}

-- a segment fits the array that it is written into
pub size_most : (marked : Bool) (k : ℕ) → k ≤ longest → size marked k ≤ 272
unfolding size
size_most true k l = omega (arith, (width-Least k).least 9 (omega arith))
size_most false k l = omega (arith, (width-Least k).least 9 (omega arith))

-- the segment stands at the front of the array that it was written into
pub anew_front : (marked : Bool) (f : ℕ) (m d a : List ℕ) (n : ℕ) → a ≡ put_at d 0 (segment marked f m) → n ≡ size marked (length m) → take n a ≡ segment marked f m
anew_front marked f m d a n e q =
    let w = segment marked f m in
    let k : n ≡ length w = q ∙ sym (length-segment marked f m) in
    rw (e, k, put_first d w) (take-append-le (length w) w (drop (length w) d) (omega arith) ∙ take-length w)

-- a verdict that is none of those that lose
pub record Named (x : Option Edit) (v : Verdict) : Type 0 where
  pub edit : Edit
  pub is : x ≡ some edit
  pub verdict : v ≡ Read edit

pub named : (x : Option Edit) (v : Verdict) → v ≡ judged_as x → ((n : ℕ) → v ≡ Lost n → ⊥) → Named x v
named (some e) v q h = record { edit = e; is = refl; verdict = q }
named none v q h = absurd (h 9 q)

-- a verdict that loses is that of more than one edit
pub lost_named : (x : Option Edit) (v : Verdict) (step : ℕ) → v ≡ judged_as x → v ≡ Lost step → (x ≡ none) × (step ≡ 9)
lost_named (some e) v step q h = absurd (let r : Read e ≡ Lost step = sym q ∙ h in let z : ◌≡◌ {A = ℕ} 0 1 = cc in omega arith)
lost_named none v step q h = let r : Lost 9 ≡ Lost step = sym q ∙ h in let i : 9 ≡ step = cc in (refl, sym i)
