-- What the report calls use.
--   short_report, whole_report     what a report of lines answers
--   report_foreign, report_whole   the tests of a report behind 1 to 4, in their order
use Rattle.std.specs.Prelude.{Ok, Err}
use mathlib.Core.Path.{◌≡◌, ◌∙◌}
use mathlib.Core.Bool.{Bool}
use mathlib.Core.List.{List}
use Prim.Native.Nat.{ℕ, ◌≤◌, ◌<◌}
use borrow.Author.Tests.{lt-ltb, le-ltb}
use lib.ListN.{length}
use Rattle.code.specs.declared.Decoded.TheVariants as D
use Rattle.code.specs.declared.Refusal.TheVariants.{ShortBuffer, ForeignLetter}
use Rattle.code.specs.Symbols.{decoded}
use Rattle.code.specs.Refusals.{refuse}
use Rattle.code.specs.Order.{Order}
use Rattle.code.specs.Buffers.{over_front}
use Rattle.code.specs.ReadCall.{received_test}
use Rattle.code.proofs.laws.ReadCall.{received_then}
use Rattle.report.specs.ReportCall.{report_of, short_for, report_test, report_as}

module _ (lines out : List ℕ) where
  -- the buffer is too short
  pub short_report : length out < length lines → (Err ShortBuffer, out) ≡ report_as (refuse (short_for lines (length out)) ShortBuffer (Ok tt)) lines out
  short_report h = rw (lt-ltb (length out) (length lines) h)

  -- the lines are put to its front
  pub whole_report : length lines ≤ length out → (Ok (length lines), over_front lines out) ≡ report_as (refuse (short_for lines (length out)) ShortBuffer (Ok tt)) lines out
  whole_report h = rw (le-ltb (length out) (length lines) h)

module _ (o : Order) (cs : List ℕ) (received : received_test o (length cs) (Ok tt) ≡ Ok tt) (n : ℕ) where
  pub report_foreign : (i : ℕ) → decoded cs ≡ D.Foreign i → report_test o cs n ≡ Err (ForeignLetter i)
  report_foreign i d = received_then o (length cs) _ received ∙ rw d

  pub report_whole : (b : Bool) → decoded cs ≡ D.Whole b → report_test o cs n ≡ refuse (short_for (report_of o cs) n) ShortBuffer (Ok tt)
  report_whole b d = received_then o (length cs) _ received ∙ rw d
