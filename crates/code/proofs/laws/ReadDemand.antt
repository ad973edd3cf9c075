-- Demand 3 of the reading call.
--   only_short         of a strand that keeps the one-edit conditions only test 5 can be met
--   Kept, kept         what holds of the reading of such a strand
--   demand_3_call      the reading call keeps demand 3
--   one_message_Sent   no two messages of one order share such a strand
use Rattle.std.specs.Prelude.{Ok, ◌≡◌, false, List, ℕ, ◌+◌, ◌≤◌, length}
use Rattle.std.proofs.Common.{sym, ap, ◌∙◌, arith}
use Rattle.std.proofs.lemmas.List.{length-map}
use Rattle.code.specs.declared.Decoded.TheVariants as D
use Rattle.code.specs.declared.Refusal.TheVariants.{ShortBuffer}
use Rattle.code.specs.Symbols.{letter_of, legible, decoded, has_unknown, symbols, bytes}
use Rattle.code.proofs.laws.Symbols.{legible-letters, length-symbols, symbols-Below, bytes-symbols}
use Rattle.code.specs.Layout.{sum}
use Rattle.code.specs.Limits.{most_length, most_letters}
use Rattle.code.specs.Refusals.{refuse}
use Rattle.code.specs.Order.{Order}
use Rattle.code.proofs.laws.Order.{order_fine}
use Rattle.code.specs.Sheet.{count_of}
use Rattle.code.specs.Strands.{messages_of}
use Rattle.code.proofs.laws.Demand3.{demand_3}
use Rattle.code.specs.Demand3.{Regains}
use Rattle.code.proofs.laws.WithinLimits.{readable}
use Rattle.code.specs.ReadCall.{short_buffers, read_test, outcomes_of, marks_for, read_call}
use Rattle.code.proofs.laws.ReadCall.{fine_received, received_then}
use Rattle.code.specs.ReadDemand.{Sent, Demand3Call}

-- of letters that keep the conditions only test 5 can be met
pub only_short : (o : Order) (cs bs s : List ℕ) (n m : ℕ) → Sent o cs bs s → read_test o cs n m ≡ refuse (short_buffers o n m) ShortBuffer (Ok tt)
only_short o cs bs s n m sent =
    let r = readable o false bs s (order_fine o false sent.order) sent.size sent.one_edit in
    let short : length cs ≤ most_letters = omega (arith, r.short, length-map s letter_of, ap length sent.received) in
    let letters_alone : decoded cs ≡ D.Whole (has_unknown s) = ap decoded (sym sent.received) ∙ r.no_foreign in
    received_then o (length cs) _ (fine_received o (length cs) sent.order short) ∙ rw letters_alone

-- what holds of the reading of letters that carry the bytes bs
pub record Kept (o : Order) (cs bs : List ℕ) : Type 0 where
  pub message : bytes (messages_of (outcomes_of o cs)) ≡ bs
  pub none_lost : count_of 2 (marks_for o cs) ≡ 0
  pub all_found : count_of 0 (marks_for o cs) + count_of 1 (marks_for o cs) ≡ length o.lengths
  pub tested : (n m : ℕ) → read_test o cs n m ≡ refuse (short_buffers o n m) ShortBuffer (Ok tt)

pub kept : (o : Order) (cs bs s : List ℕ) → Sent o cs bs s → Kept o cs bs
kept o cs bs s sent =
    let p = order_fine o false sent.order in
    let l : legible cs ≡ s = ap legible (sym sent.received) ∙ legible-letters s (readable o false bs s p sent.size sent.one_edit).small in
    let x : length (symbols bs) ≡ sum o.lengths = length-symbols bs ∙ omega (arith, sent.size, p.whole) in
    let r : Regains o.lengths (symbols bs) (legible cs) = rw l (demand_3 most_length o.lengths (symbols bs) s (record { lengths = p.lengths; symbols = symbols-Below bs; size = x }) sent.one_edit) in
    record {
      message = ap bytes r.message ∙ bytes-symbols bs sent.are_bytes;
      none_lost = r.none_lost;
      all_found = r.all_found;
      tested = λ n m. only_short o cs bs s n m sent;
    }

-- the reading call keeps demand 3
pub demand_3_call : (o : Order) (cs message sheet : List ℕ) → Demand3Call o cs message sheet (read_call o cs message sheet)
demand_3_call o cs message sheet bs s sent =
    let t = kept o cs bs s sent in
    let tested = t.tested (length message) (length sheet) in
    let marks = marks_for o cs in
    record {
      turned_down = λ h. rw (tested, h);
      given = λ h.
          record {
            clean = count_of 0 marks;
            corrected = count_of 1 marks;
            all_found = t.all_found;
            none_lost = t.none_lost;
            gives = rw (tested, h, t.none_lost, t.message);
          };
    }

-- no two messages of one order share received letters with one edit in each segment
pub one_message_Sent : (o : Order) (cs bs s bs' s' : List ℕ) → Sent o cs bs s → Sent o cs bs' s' → bs ≡ bs'
one_message_Sent o cs bs s bs' s' sent sent' = sym (kept o cs bs s sent).message ∙ (kept o cs bs' s' sent').message
