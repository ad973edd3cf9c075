-- The lines of the first verdicts.
--   lines_next   one line more
--   lines_part   they are no longer than all lines
use Rattle.std.proofs.Common.{◌≡◌, sym, ap, ◌∙◌, arith, List, [], ◌∷◌, ◌++◌, ℕ, zero, suc, ◌+◌, ◌≤◌, ◌<◌, length, get_or, take, append_assoc, append-nil, length-append}
use Rattle.code.specs.declared.Verdict.{Verdict}
use Rattle.code.specs.declared.Verdict.TheVariants.{NoStart}
use Rattle.lines.specs.Report.{segment_line, lines_from}

pub lines_next : (n : ℕ) (vs : List Verdict) (i : ℕ) → i < length vs → lines_from n (take (suc i) vs) ≡ lines_from n (take i vs) ++ segment_line (n + i) (get_or vs i NoStart)
unfolding lines_from
lines_next n [] i h = absurd (omega arith)
lines_next n (v ∷ vs) zero h = append-nil (segment_line n v) ∙ ap (λ (m : ℕ). segment_line m v) (let e : n ≡ n + 0 = omega arith in e)
lines_next n (v ∷ vs) (suc i) h =
    ap (λ (l : List ℕ). segment_line n v ++ l) (lines_next (suc n) vs i (omega arith))
    ∙ sym (append_assoc (segment_line n v) (lines_from (suc n) (take i vs)) (segment_line (suc n + i) (get_or vs i NoStart)))
    ∙ ap (λ (m : ℕ). (segment_line n v ++ lines_from (suc n) (take i vs)) ++ segment_line m (get_or vs i NoStart)) (let e : suc n + i ≡ n + suc i = omega arith in e)

pub lines_part : (n : ℕ) (vs : List Verdict) (i : ℕ) → length (lines_from n (take i vs)) ≤ length (lines_from n vs)
unfolding lines_from
lines_part n vs zero = omega arith
lines_part n [] (suc i) = omega arith
lines_part n (v ∷ vs) (suc i) = simp length-append (omega (arith, lines_part (suc n) vs i))
