-- Laws of the report call.
--   report_room      a buffer for every report changes no test of a strand
--   refuses_alike    a report refuses as a reading does
use Rattle.std.specs.Prelude.{Result, Ok, Err, ◌≡◌, refl, false, List, ℕ, ◌≤◌, length}
use Rattle.code.specs.declared.Refusal.{Refusal}
use Rattle.std.proofs.Common.{sym, ◌∙◌, arith, le-ltb}
use Rattle.code.specs.declared.Decoded.{Decoded}
use Rattle.code.specs.declared.Decoded.TheVariants as D
use Rattle.code.specs.declared.Refusal.TheVariants.{ShortBuffer}
use Rattle.code.specs.Symbols.{legible, decoded}
use Rattle.code.proofs.laws.Symbols.{legible-Below}
use Rattle.code.proofs.laws.Layout.{Lengths-within}
use Rattle.code.specs.Limits.{most_bytes, most_segments}
use Rattle.code.specs.Refusals.{refuse}
use Rattle.code.specs.Order.{Order}
use Rattle.code.proofs.laws.Order.{order_fine}
use Rattle.code.specs.Sheet.{sheet_bytes}
use Rattle.code.specs.ReadCall.{foreign_test, received_test, read_test}
use Rattle.code.proofs.laws.ReadCall.{received_fine, received_then, received_refused}
use Rattle.lines.specs.Report.{most_report}
use Rattle.report.specs.ReportCall.{report_of, strand_test, short_for, report_test, RefusesAlike}
use Rattle.report.proofs.laws.Named.{lines_room}

module _ (o : Order) (cs : List ℕ) where
  -- tests behind 1 to 4 that agree wherever these are not met
  behind : (x y : Result (Unit {0}) Refusal) → (received_test o (length cs) (Ok tt) ≡ Ok tt → x ≡ y) → received_test o (length cs) x ≡ received_test o (length cs) y
  behind x y h = go (received_test o (length cs) (Ok tt)) refl
    where
      go : (c : Result (Unit {0}) Refusal) → received_test o (length cs) (Ok tt) ≡ c → received_test o (length cs) x ≡ received_test o (length cs) y
      go (Ok _) p = received_then o (length cs) x p ∙ h p ∙ sym (received_then o (length cs) y p)
      go (Err u) p = received_refused o (length cs) u x p ∙ sym (received_refused o (length cs) u y p)

  -- the lines of a strand that tests 1 to 4 take
  report_most : received_test o (length cs) (Ok tt) ≡ Ok tt → length (report_of o cs) ≤ most_report
  report_most p =
      let f = order_fine o false (received_fine o (length cs) p).0 in
      lines_room o.lengths (legible cs) (Lengths-within f.lengths (omega arith)) (legible-Below cs) f.segments_fit

  -- a buffer for every report changes no test of a strand
  pub report_room : (n : ℕ) → most_report ≤ n → report_test o cs n ≡ strand_test o cs
  report_room n h = behind _ _ (λ p. foreign (decoded cs) (le-ltb n (length (report_of o cs)) (omega (arith, report_most p))))
    where
      foreign : (d : Decoded) → short_for (report_of o cs) n ≡ false → foreign_test d (refuse (short_for (report_of o cs) n) ShortBuffer (Ok tt)) ≡ foreign_test d (Ok tt)
      foreign (D.Whole b) e = rw e
      foreign (D.Foreign i) e = refl

  -- nor do buffers for every reading
  read_room : read_test o cs most_bytes (sheet_bytes most_segments) ≡ strand_test o cs
  read_room = behind _ _ (λ p. let f = order_fine o false (received_fine o (length cs) p).0 in rw (le-ltb most_bytes o.b f.bytes_fit, le-ltb (sheet_bytes most_segments) (sheet_bytes (length o.lengths)) (omega (arith, f.segments_fit))))

pub refuses_alike : RefusesAlike
refuses_alike o cs = report_room o cs most_report (omega arith) ∙ sym (read_room o cs)
