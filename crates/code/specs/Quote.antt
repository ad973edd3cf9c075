-- A quote: what strands of one order take, without making them (SPECIFICATION.md, section 5). How starts are counted is in Starts.antt.
--   quote_of      the numbers of a quote
--   quote_call    what a quote answers
--   Right         what holds of these numbers
--   QuotedRight   it holds of every answer; proved as `quoted_right` in proofs/laws/Quote.antt
use Rattle.std.specs.Prelude.{Result, Ok, Err, ◌≡◌, false, List, [], ℕ, ◌*◌, ◌≤◌, length}
use Rattle.code.specs.declared.Refusal.{Refusal}
use Rattle.code.specs.declared.Quote.{Quote}
use Rattle.code.specs.Refusals.{unless_refused}
use Rattle.code.specs.Layout.{extent}
use Rattle.code.specs.Order.{Order, order_test}
use Rattle.code.specs.Writing.{strand_of}
use Rattle.code.specs.Strands.{outcomes, verdicts_of}
use Rattle.code.specs.Sheet.{marks_of, sheet_bytes, sheet_of}
use Rattle.code.specs.Starts.{starts_tried, most_starts}

-- the letters and the bytes of sheets of n strands, and the most starts that the reading of one tries
abbrev pub quote_of : Order → ℕ → Quote
quote_of o n = record { letters = n * extent false o.lengths; bytes = n * sheet_bytes (length o.lengths); starts = most_starts o.lengths }

-- what a quote for n strands answers: it makes the tests 1, 2 and 3 of the order
abbrev pub quote_call : Order → ℕ → Result Quote Refusal
quote_call o n = unless_refused (order_test o false (Ok tt)) (Ok (quote_of o n)) Err

-- what holds of the numbers of a quote for n strands: n strands have these letters, for every message of B bytes; n sheets of a reading have these
-- bytes, whatever letters were received; no letters make a reading try more starts, and the empty strand makes it try as many
pub record Right (o : Order) (n : ℕ) (q : Quote) : Type 0 where
  pub written : (bs : List ℕ) → length bs ≡ o.b → q.letters ≡ n * length (strand_of o.lengths bs)
  pub read : (letters : List ℕ) → q.bytes ≡ n * length (sheet_of (marks_of (verdicts_of (outcomes o.lengths letters))))
  pub most : (letters : List ℕ) → starts_tried o.lengths letters ≤ q.starts
  pub reached : starts_tried o.lengths [] ≡ q.starts

-- for every order and every number of strands: what a quote answers is right
abbrev pub QuotedRight : Type 0
QuotedRight = (o : Order) (n : ℕ) (q : Quote) → quote_call o n ≡ Ok q → Right o n q
