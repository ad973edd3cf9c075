-- Laws of the tally, in the order of its definitions.
--   passes_not       a count that fits with n added
--   Fits             each of the four counts stays within 32 bits
--   full_not         a tally that is not full
--   Fits-not_full    a tally whose counts fit
--   tallied-Fits     counts that fit are added, all four of them
--   tallied_sum      a sum holds each count with its part added, and each fits
--   tallied_full     a refusal is that of a full tally, and one of the counts does not fit
use Rattle.std.specs.Prelude.{Ok, Err, ◌≡◌, refl, Bool, true, false, ◌||◌, ℕ, ◌+◌, ◌≤◌}
use Rattle.std.proofs.Common.{arith, ltb-false, le-ltb}
use Rattle.code.specs.declared.Refusal.{Refusal}
use Rattle.code.specs.declared.Refusal.TheVariants.{TallyFull}
use Rattle.code.specs.declared.Counts.{Counts}
use Rattle.code.specs.declared.Tally.{Tally}
use Rattle.code.proofs.laws.Refusals.{or-false}
use Rattle.code.specs.Tallies.{most_count, passes, full, added, unless_full, tallied}

pub passes_not : (count n : ℕ) → passes count n ≡ false → count + n ≤ most_count
passes_not count n e = ltb-false most_count (count + n) e

-- each of the four counts stays within 32 bits
pub record Fits (t : Tally) (n : Counts) : Type 0 where
  pub strands_fit : t.strands + 1 ≤ most_count
  pub clean_fit : t.counts.clean + n.clean ≤ most_count
  pub corrected_fit : t.counts.corrected + n.corrected ≤ most_count
  pub lost_fit : t.counts.lost + n.lost ≤ most_count

module _ (t : Tally) (n : Counts) where
  pub full_not : full t n ≡ false → Fits t n
  full_not e =
      let p = or-false (passes t.strands 1 || passes t.counts.clean n.clean || passes t.counts.corrected n.corrected) (passes t.counts.lost n.lost) e in
      let q = or-false (passes t.strands 1 || passes t.counts.clean n.clean) (passes t.counts.corrected n.corrected) p.0 in
      let r = or-false (passes t.strands 1) (passes t.counts.clean n.clean) q.0 in
      record {
        strands_fit = passes_not _ _ r.0;
        clean_fit = passes_not _ _ r.1;
        corrected_fit = passes_not _ _ q.1;
        lost_fit = passes_not _ _ p.1;
      }

  pub Fits-not_full : Fits t n → full t n ≡ false
  Fits-not_full f = simp (le-ltb _ _ f.strands_fit, le-ltb _ _ f.clean_fit, le-ltb _ _ f.corrected_fit, le-ltb _ _ f.lost_fit)

  -- counts that fit are added, all four of them
  pub tallied-Fits : Fits t n → tallied t n ≡ Ok (added t n)
  tallied-Fits f = rw (Fits-not_full f)

  -- a sum holds each count with its part added, and each fits
  pub tallied_sum : (u : Tally) → tallied t n ≡ Ok u → (u ≡ added t n) × Fits t n
  tallied_sum u e = go (full t n) refl e
    where
      go : (x : Bool) → full t n ≡ x → unless_full x (added t n) ≡ Ok u → (u ≡ added t n) × Fits t n
      go true p q = let no : ◌≡◌ {A = ℕ} 0 1 = cc in absurd (omega arith)
      go false p q = (cc, full_not p)

  -- a refusal is that of a full tally, and one of the counts does not fit
  pub tallied_full : (r : Refusal) → tallied t n ≡ Err r → (r ≡ TallyFull) × (Fits t n → ⊥)
  tallied_full r e = go (full t n) refl e
    where
      go : (x : Bool) → full t n ≡ x → unless_full x (added t n) ≡ Err r → (r ≡ TallyFull) × (Fits t n → ⊥)
      go true p q = (cc, λ f. let g = Fits-not_full f in let no : ◌≡◌ {A = ℕ} 0 1 = cc in omega arith)
      go false p q = let no : ◌≡◌ {A = ℕ} 0 1 = cc in absurd (omega arith)
