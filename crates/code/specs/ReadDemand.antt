-- What demand 3 says of the reading call.
--   Sent              letters that carry bytes and keep the one-edit conditions
--   Given, Returned   what a call has to answer and leave in its buffers
--   Demand3Call       demand 3 of a call
use Rattle.std.specs.Prelude.{◌≡◌, true, false, List, ℕ, ◌+◌, length, Result, Ok, Err}
use Rattle.code.specs.declared.Refusal.{Refusal}
use Rattle.code.specs.declared.Refusal.TheVariants.{ShortBuffer}
use Rattle.code.specs.declared.Counts.{Counts}
use Rattle.code.specs.Symbols.{Below, letters, symbols}
use Rattle.code.specs.Layout.{cut}
use Rattle.code.specs.Order.{Order, Taken}
use Rattle.code.specs.Buffers.{over_front}
use Rattle.code.specs.Conditions.{OneEdit}
use Rattle.code.specs.Sheet.{sheet_of, count_of}
use Rattle.code.specs.ReadCall.{short_buffers, marks_for}

-- the order is taken, and the letters cs are those of numbers s, N among them, that keep the one-edit conditions for the B bytes bs
pub record Sent (o : Order) (cs bs s : List ℕ) : Type 0 where
  pub order : Taken o
  pub size : length bs ≡ o.b
  pub are_bytes : Below 256 bs
  pub received : letters s ≡ cs
  pub one_edit : OneEdit (cut o.lengths (symbols bs)) s

-- a call that is not turned down gives the bytes bs and the marks, none of them lost
pub record Given (o : Order) (cs bs message sheet : List ℕ) (result : Result Counts Refusal × (List ℕ × List ℕ)) : Type 0 where
  pub clean : ℕ
  pub corrected : ℕ
  pub all_found : clean + corrected ≡ length o.lengths
  pub none_lost : count_of 2 (marks_for o cs) ≡ 0
  pub gives : result ≡ (Ok (record { clean = clean; corrected = corrected; lost = 0 }), (over_front bs message, over_front (sheet_of (marks_for o cs)) sheet))

-- short buffers alone turn a call down
pub record Returned (o : Order) (cs bs message sheet : List ℕ) (result : Result Counts Refusal × (List ℕ × List ℕ)) : Type 0 where
  pub turned_down : short_buffers o (length message) (length sheet) ≡ true → result ≡ (Err ShortBuffer, (message, sheet))
  pub given : short_buffers o (length message) (length sheet) ≡ false → Given o cs bs message sheet result

-- demand 3 of a call for an order with the letters cs and two buffers: its answer with both buffers afterwards
abbrev pub Demand3Call : (o : Order) (cs message sheet : List ℕ) (result : Result Counts Refusal × (List ℕ × List ℕ)) → Type 0
Demand3Call o cs message sheet result = (bs s : List ℕ) → Sent o cs bs s → Returned o cs bs message sheet result
