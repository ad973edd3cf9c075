-- What the comparison of a piece is made of.
--   common      how many letters two lists share at the front
--   run_start   where a run of equal letters starts
--   judged_as   a judgement as a verdict
use Rattle.std.specs.Prelude.{cond, List, [], ◌∷◌, ℕ, zero, suc, eqb, get_or}
use Rattle.std.proofs.Math.Option.{Option, some, none}
use Rattle.code.specs.declared.Edit.{Edit}
use Rattle.code.specs.declared.Verdict.{Verdict}
use Rattle.code.specs.declared.Verdict.TheVariants.{Read, Lost}

-- how many letters two lists share at the front
unfoldable pub common : List ℕ → List ℕ → ℕ
common [] v = 0
common (x ∷ w) [] = 0
common (x ∷ w) (y ∷ v) = cond (eqb x y) (suc (common w v)) 0

-- the first place of the letters x that stand before place i without a gap; i itself if there are none
unfoldable pub run_start : List ℕ → ℕ → ℕ → ℕ
run_start w x zero = 0
run_start w x (suc i) = cond (eqb (get_or w i 0) x) (run_start w x i) (suc i)

-- read with the named edit; lost in step 9 where there is none
abbrev pub judged_as : Option Edit → Verdict
judged_as (some e) = Read e
judged_as none = Lost 9
