-- What steps 1 to 9 found of a segment that is read.
--   Parts        its message, its end and its edit
--   read_parts   they are those of the steps
use Rattle.std.proofs.Math.Path.{◌≡◌, refl}
use Rattle.std.specs.Prelude.{Bool, ℕ, take}
use mathlib.Core.List.{List}
use Rattle.std.proofs.Math.Option.{Option, some, none}
use Rattle.std.proofs.Common.{arith}
use Rattle.code.specs.Segment.{segment}
use Rattle.code.specs.Edits.{judged}
use Rattle.code.specs.Reading.{MessageResult, message, read_message, end_of, read, with_edit, with_end, with_message, read_segment}
use Rattle.code.specs.declared.Edit.{Edit}

module _ (marked : Bool) (f k : ℕ) (ks s letters m : List ℕ) (e : Edit) (o : ℕ) where
  -- steps 3 to 7 give the message m, step 8 the end o, and step 9 names the edit e
  pub record Parts : Type 0 where
    pub gives : read_message marked k s ≡ message m
    pub ends : end_of marked k ks s letters m ≡ some o
    pub named : judged (segment marked f m) (take o s) ≡ some e

  pub read_parts : read_segment marked f k ks s letters ≡ read m e o → Parts
  unfolding read_segment
  read_parts t = go (read_message marked k s) refl t
    where
      judging : (n : List ℕ) (p : ℕ) (j : Option Edit) → read_message marked k s ≡ message n → end_of marked k ks s letters n ≡ some p → judged (segment marked f n) (take p s) ≡ j → with_edit n p j ≡ read m e o → Parts
      judging n p (some d) g h y q =
          let a : n ≡ m = cc in
          let b : p ≡ o = cc in
          let c : d ≡ e = cc in
          record { gives = rw (← a) g; ends = rw (← a, ← b) h; named = rw (← a, ← b, ← c) y }
      judging n p none g h y q = let z : ◌≡◌ {A = ℕ} 0 1 = cc in absurd (omega arith)

      ending : (n : List ℕ) (p : Option ℕ) → read_message marked k s ≡ message n → end_of marked k ks s letters n ≡ p → with_end marked f s n p ≡ read m e o → Parts
      ending n (some p) g h q = judging n p (judged (segment marked f n) (take p s)) g h refl q
      ending n none g h q = let z : ◌≡◌ {A = ℕ} 0 1 = cc in absurd (omega arith)

      go : (g : MessageResult) → read_message marked k s ≡ g → with_message marked f k ks s letters g ≡ read m e o → Parts
      go (message n) g q = ending n (end_of marked k ks s letters n) g refl q
      go (MessageResult.lost step) g q = let z : ◌≡◌ {A = ℕ} 0 1 = cc in absurd (omega arith)
