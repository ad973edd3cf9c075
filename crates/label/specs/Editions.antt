-- The editions of the label by their numbers.
--   edition_number   the number of an edition
--   Names            what is answered to a number: the edition that has it, and a refusal where none has
use Rattle.std.specs.Prelude.{◌≡◌, ℕ, Result, MatchResult}
use Rattle.code.specs.declared.Refusal.{Refusal}
use Rattle.code.specs.declared.Refusal.TheVariants.{Label}
use Rattle.label.specs.declared.editions.Edition.{Edition}
use Rattle.label.specs.declared.editions.Edition.TheVariants.{One, Two, Three}

-- the number of an edition
abbrev pub edition_number : Edition → ℕ
edition_number One = 1
edition_number Two = 2
edition_number Three = 3

-- what is answered to a number: the edition that has it, and a refusal where none has
abbrev pub Names : ℕ → Result Edition Refusal → Type 0
Names n r = MatchResult r (λ e. edition_number e ≡ n) (λ u. (u ≡ Label) × ((e : Edition) → edition_number e ≡ n → ⊥))
