-- What is shown of a report, by its answer.
--   lines_shown     the lines
--   refused_shown   a refusal
use Rattle.std.specs.Prelude.{Result, Ok, Err}
use mathlib.Core.Path.{◌≡◌, sym, ap, ◌∙◌}
use mathlib.Core.List.{List}
use Prim.Native.Nat.{ℕ, ◌≤◌}
use native.Mathlib.Omega.{arith}
use lib.ListN.{length, take, drop}
use lib.Seq.{take_at}
use Rattle.code.specs.declared.Refusal.{Refusal}
use Rattle.code.specs.Refusals.{unless_refused}
use Rattle.code.specs.Order.{Order}
use Rattle.code.specs.Buffers.{over_front}
use Rattle.console.specs.RefusedLine.{refused_line}
use Rattle.lines.specs.Report.{most_report}
use Rattle.report.specs.ReportCall.{report_of, strand_test, report_as, report_call}
use Rattle.report.proofs.laws.ReportCall.{report_room}
use Rattle.report_strand.specs.ReportOutput.{report_text}

module _ (o : Order) (letters before after : List ℕ) (answer : Result ℕ Refusal) (room : most_report ≤ length before) (e : (answer, after) ≡ report_call o letters before) where
  -- the answer by the tests of the strand alone
  tested : (answer, after) ≡ report_as (strand_test o letters) (report_of o letters) before
  tested = e ∙ ap (λ (c : Result (Unit {0}) Refusal). report_as c (report_of o letters) before) (report_room o letters (length before) room)

  pub lines_shown : (n : ℕ) → answer ≡ Ok n → take n after ≡ report_text o letters
  unfolding report_text
  lines_shown n told = go (strand_test o letters) tested
    where
      go : (c : Result (Unit {0}) Refusal) → (answer, after) ≡ report_as c (report_of o letters) before → take n after ≡ unless_refused c (report_of o letters) refused_line
      go (Ok tt) q =
          let m : Ok n ≡ Ok (length (report_of o letters)) = sym told ∙ ap (λ (w : Result ℕ Refusal × List ℕ). w.0) q in
          let k : length (report_of o letters) ≡ n = cc in
          let put : after ≡ over_front (report_of o letters) before = ap (λ (w : Result ℕ Refusal × List ℕ). w.1) q in
          ap (take n) put ∙ take_at (report_of o letters) (drop (length (report_of o letters)) before) n k
      go (Err r) q =
          let m : Ok n ≡ Err r = sym told ∙ ap (λ (w : Result ℕ Refusal × List ℕ). w.0) q in
          let z : ◌≡◌ {A = ℕ} 0 1 = cc in
          absurd (omega arith)

  pub refused_shown : (r : Refusal) → answer ≡ Err r → refused_line r ≡ report_text o letters
  unfolding report_text
  refused_shown r told = go (strand_test o letters) tested
    where
      go : (c : Result (Unit {0}) Refusal) → (answer, after) ≡ report_as c (report_of o letters) before → refused_line r ≡ unless_refused c (report_of o letters) refused_line
      go (Ok tt) q =
          let m : Err r ≡ Ok (length (report_of o letters)) = sym told ∙ ap (λ (w : Result ℕ Refusal × List ℕ). w.0) q in
          let z : ◌≡◌ {A = ℕ} 0 1 = cc in
          absurd (omega arith)
      go (Err u) q =
          let m : Err r ≡ Err u = sym told ∙ ap (λ (w : Result ℕ Refusal × List ℕ). w.0) q in
          let k : r ≡ u = cc in
          ap refused_line k
