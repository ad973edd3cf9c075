-- Editions by their numbers.
--   unlisted   a number that no edition has is none of an edition that lists its lengths
--   no_first   and it is not 1
--   is_third   whether an answer is edition 3
use Rattle.std.specs.Prelude.{◌≡◌, refl, ℕ, Bool, false, Result, Ok, Err, eqb}
use Rattle.std.specs.Result.{result_eq}
use Rattle.std.proofs.Common.{sym, ap, ◌∙◌, ne_eqb}
use Rattle.code.specs.declared.Refusal.{Refusal}
use Rattle.code.specs.Label.{lists}
use Rattle.label.specs.declared.editions.Edition.{Edition}
use Rattle.label.specs.declared.editions.Edition.TheVariants.{One, Two, Three}
use Rattle.label.specs.contracts.editions.EditionPartialEq.TheImpl.{eq-value}
use Rattle.label.specs.Editions.{edition_number, Names}

module _ (n : ℕ) (none : (e : Edition) → edition_number e ≡ n → ⊥) where
  pub unlisted : lists n ≡ false
  unlisted = rw (ne_eqb n 2 (λ p. none Two (sym p)), ne_eqb n 3 (λ p. none Three (sym p)))

  pub no_first : n ≡ 1 → ⊥
  no_first p = none One (sym p)

eq_third : (e : Edition) → eq-value.it e Three ≡ eqb (edition_number e) 3
eq_third One = refl
eq_third Two = refl
eq_third Three = refl

pub is_third : (n : ℕ) (F : Refusal → Refusal → Bool) (r : Result Edition Refusal) → Names n r → result_eq eq-value.it F r (Ok Three) ≡ eqb n 3
is_third n F (Ok e) h = eq_third e ∙ ap (λ (m : ℕ). eqb m 3) h
is_third n F (Err u) h = sym (ne_eqb n 3 (λ p. h.1 Three (sym p)))
