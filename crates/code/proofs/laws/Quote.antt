-- What a quote answers is right: the proof of Quote.antt.
use Rattle.std.specs.Prelude.{Result, Ok, Err, ◌≡◌, refl, false, List, ℕ, ◌*◌, length}
use Rattle.code.specs.declared.Refusal.{Refusal}
use Rattle.std.proofs.Common.{sym, ap, ◌∙◌, arith}
use Rattle.std.proofs.lemmas.List.{length-map}
use Rattle.code.specs.Limits.{most_length}
use Rattle.code.specs.Refusals.{unless_refused}
use Rattle.code.specs.Order.{Order, order_test, Taken}
use Rattle.code.proofs.laws.Order.{order_fine}
use Rattle.code.proofs.laws.Writing.{length_strand}
use Rattle.code.specs.Sheet.{marks_of, sheet_bytes, sheet_of, mark_of}
use Rattle.code.specs.Strands.{Outcome, outcomes, verdicts_of}
use Rattle.code.proofs.laws.Strands.{length-outcomes}
use Rattle.code.proofs.laws.ReadCall.{length_sheet}
use Rattle.code.proofs.laws.Starts.{at_most, empty_tries}
use Rattle.code.specs.Quote.{quote_of, Right, QuotedRight}

-- the sheet of a reading has the bytes of the layout's sheet
length_marks : (ks letters : List ℕ) → sheet_bytes (length ks) ≡ length (sheet_of (marks_of (verdicts_of (outcomes ks letters))))
length_marks ks letters =
    let os = outcomes ks letters in
    ap sheet_bytes (sym (length-map (verdicts_of os) mark_of ∙ length-map os (λ (x : Outcome). x.verdict) ∙ length-outcomes ks letters))
    ∙ sym (length_sheet (marks_of (verdicts_of os)))

-- the numbers of an order that is taken
of_Taken : (o : Order) (n : ℕ) → Taken o → Right o n (quote_of o n)
of_Taken o n taken =
    let h = order_fine o false taken in
    record {
      written = λ bs e. ap (◌*◌ n) (sym (length_strand o.lengths bs (h.whole ∙ ap (◌*◌ 4) (sym e))));
      read = λ letters. ap (◌*◌ n) (length_marks o.lengths letters);
      most = λ letters. at_most most_length o.lengths letters h.lengths;
      reached = empty_tries o.lengths;
    }

pub quoted_right : QuotedRight
quoted_right o n q e = go (order_test o false (Ok tt)) refl e
  where
    go : (c : Result (Unit {0}) Refusal) → order_test o false (Ok tt) ≡ c → unless_refused c (Ok (quote_of o n)) Err ≡ Ok q → Right o n q
    go (Ok _) t d = let i : quote_of o n ≡ q = cc in rw (← i) (of_Taken o n t)
    go (Err r) t d = let z : ◌≡◌ {A = ℕ} 0 1 = cc in absurd (omega arith)
