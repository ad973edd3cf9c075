-- What is answered of a segment: from its message, its end and the comparison, or from the step that loses it.
--   read_message-lost, no_end, with_end_lem   what steps 1 to 9 make of a message and an end
--   gives_lost, gives_read                    the step of a segment that was lost or read
--   Ended                                     what is known of a segment before step 9
--   compared_lost, compared_read              the step of a segment that was compared
use mathlib.Core.Path.{◌≡◌, refl, sym, ap, subst, ◌∙◌}
use mathlib.Core.List.{List}
use mathlib.Core.Option.{some, none}
use Prim.Native.Nat.{ℕ, ◌+◌, ◌-◌, ◌≤◌}
use native.Mathlib.Omega.{arith}
use lib.ListN.{length, take, drop}
use Rattle.code.specs.Segment.{segment, last_of}
use Rattle.code.specs.Edits.{judged}
use Rattle.code.specs.Reading.{message, lost, end_of, with_edit, read_segment}
use Rattle.code.specs.Reading as R
use Rattle.code.specs.Strands.{told}
use Rattle.code.specs.declared.Edit.{Edit}
use Rattle.code.specs.declared.Verdict.{Verdict}
use Rattle.code.specs.declared.Verdict.TheVariants.{Read, Lost}
use Rattle.edits.specs.Judgement.{judged_as}
use Rattle.scan.specs.declared.Next.{Next}
use Rattle.scan.specs.Scans.{ahead, start_of, Known}
use Rattle.steps.specs.declared.Answer.{Answer}
use Rattle.steps.specs.declared.strand.Strand.{Strand}
use Rattle.steps.specs.declared.strand.Start.{Start}
use Rattle.steps.specs.Steps.{after_one, step_at, message_from, step_from, lost_from, IsStep}
use Rattle.steps.proofs.Step9.{Named, lost_named}

module _ (strand : Strand) (start : Start) (ks : List ℕ) (k : ℕ) where
  abbrev S : List ℕ
  S = drop start.at strand.symbols.now

  abbrev L : List ℕ
  L = drop start.at strand.letters.now

  abbrev one : R.SegmentResult
  one = read_segment start.marked start.before k ks S L

  -- a message that is lost
  pub read_message-lost : (n : ℕ) → message_from strand start k ≡ lost n → one ≡ R.SegmentResult.lost n
  unfolding read_segment
  read_message-lost n e = rw e

  module _ (m : List ℕ) (g : message_from strand start k ≡ message m) where
    -- a message without an end
    pub no_end : end_of start.marked k ks S L m ≡ none → one ≡ R.SegmentResult.lost 8
    unfolding read_segment
    no_end e = rw (g, e)

    -- a message with its end
    pub with_end_lem : (o : ℕ) → end_of start.marked k ks S L m ≡ some o → one ≡ with_edit m o (judged (segment start.marked start.before m) (take o S))
    unfolding read_segment
    with_end_lem o e = rw (g, e)

  -- the step of a segment that was lost
  pub gives_lost : (n : ℕ) (out : List ℕ) (r : Answer) → one ≡ R.SegmentResult.lost n → IsStep (lost_from strand start k ks n) strand ks out r → IsStep (step_from strand start k ks) strand ks out r
  unfolding step_at
  gives_lost n out r e is = subst (λ (o : R.SegmentResult). IsStep (after_one start.marked k ks start.at strand.symbols.now strand.letters.now o) strand ks out r) (sym e) is

  -- the step of a segment that was read
  pub gives_read : (m out : List ℕ) (e : Edit) (o end : ℕ) (r : Answer) → one ≡ R.SegmentResult.read m e o → out ≡ m → r.verdict ≡ Read e → start_of r.next ≡ some (ahead 0 end (last_of m)) → end ≡ start.at + o → Known strand.symbols.now strand.letters.now ks r.next → IsStep (step_from strand start k ks) strand ks out r
  unfolding step_at
  gives_read m out e o end r q u v w i known =
      subst (λ (x : R.SegmentResult). IsStep (after_one start.marked k ks start.at strand.symbols.now strand.letters.now x) strand ks out r) (sym q) (record { verdict = ap (λ (y : Verdict). told y (take o L)) v; next = w ∙ ap (λ (y : ℕ). some (ahead 0 y (last_of m))) i; message = u; known = known })

-- the message of the segment at a start is in the buffer, and the segment ends at `end`, where `next` says that the next one starts
pub record Ended (strand : Strand) (start : Start) (ks out : List ℕ) (next : Next) (end : ℕ) : Type 0 where
  pub is_read_message : message_from strand start (length out) ≡ message out
  pub ends : end_of start.marked (length out) ks (drop start.at strand.symbols.now) (drop start.at strand.letters.now) out ≡ some (end - start.at)
  pub behind : start.at ≤ end
  pub inside : end ≤ length strand.symbols.now
  pub next_is : start_of next ≡ some (ahead 0 end (last_of out))
  pub known : Known strand.symbols.now strand.letters.now ks next

-- a segment whose message is in the buffer, and whose end is known
module _ (strand : Strand) (start : Start) (ks m : List ℕ) (next : Next) (end : ℕ) (e : Ended strand start ks m next end) (v : Verdict) (is : v ≡ judged_as (judged (segment start.marked start.before m) (take (end - start.at) (drop start.at strand.symbols.now)))) where
  found : one strand start ks (length m) ≡ with_edit m (end - start.at) (judged (segment start.marked start.before m) (take (end - start.at) (drop start.at strand.symbols.now)))
  found = with_end_lem strand start ks (length m) m e.is_read_message (end - start.at) e.ends

  pub compared_lost : (n k : ℕ) (out : List ℕ) (r : Answer) → v ≡ Lost n → k ≡ length m → IsStep (lost_from strand start k ks n) strand ks out r → IsStep (step_from strand start (length m) ks) strand ks out r
  compared_lost n k out r q l i =
      let x = lost_named (judged (segment start.marked start.before m) (take (end - start.at) (drop start.at strand.symbols.now))) v n is q in
      gives_lost strand start ks (length m) 9 out r (found ∙ ap (with_edit m (end - start.at)) x.0) (subst (λ (y : ℕ). IsStep (lost_from strand start (length m) ks y) strand ks out r) x.1 (subst (λ (y : ℕ). IsStep (lost_from strand start y ks n) strand ks out r) l i))

  pub compared_read : Named (judged (segment start.marked start.before m) (take (end - start.at) (drop start.at strand.symbols.now))) v → IsStep (step_from strand start (length m) ks) strand ks m (record { verdict = v; next = next })
  compared_read n = gives_read strand start ks (length m) m m n.edit (end - start.at) end _ (found ∙ ap (with_edit m (end - start.at)) n.is) refl n.verdict e.next_is (omega (arith, e.behind)) e.known
