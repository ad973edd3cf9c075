-- What the C calls answer: the answers of the calls, number by number.
--   answered        an answer told in numbers, with the buffers as the call leaves them
--   from_letter     what a byte is
--   from_wrote      the answer of a writing
--   from_counted    the answer of a reading
--   from_located    the answer of a piece call
--   from_verdict    a verdict
--   from_reported   the answer of a verdict call
--   from_labelled   the answer of a label that is read
--   from_quoted     the answer of a quote
--   as_tally        a tally as the tally call takes it
--   as_counts       the counts of a reading as the tally call takes them
--   from_tallied    the answer of adding to a tally
use Rattle.std.specs.Prelude.{Result, Ok, Err, ℕ, ◌-◌, replicate}
use Rattle.code.specs.declared.Refusal.{Refusal}
use Rattle.code.specs.declared.Quote.{Quote}
use Rattle.code.specs.declared.Letter.{Letter}
use Rattle.code.specs.declared.Letter.TheVariants.{Symbol, Unknown, Foreign}
use Rattle.code.specs.declared.Counts as code_counts
use Rattle.code.specs.declared.Span.{Span}
use Rattle.code.specs.declared.Verdict.{Verdict}
use Rattle.code.specs.declared.Labelled.{Labelled}
use Rattle.code.specs.declared.Tally as code_tally
use Rattle.code.specs.Limits.{most_segments}
use Rattle.code.specs.Refusals.{number_of, place_of}
use Rattle.lines.specs.Numbers.{kind_of, at_of, letter_byte, step_of}
use Rattle.dnalm.specs.declared.structs.Written.{Written}
use Rattle.dnalm.specs.declared.structs.Counts.{Counts}
use Rattle.dnalm.specs.declared.structs.Piece.{Piece}
use Rattle.dnalm.specs.declared.structs.Said.{Said}
use Rattle.dnalm.specs.declared.structs.Order.{Order}
use Rattle.dnalm.specs.declared.structs.Quoted.{Quoted}
use Rattle.dnalm.specs.declared.structs.Tally.{Tally}
use Rattle.dnalm.specs.declared.structs.Tallied.{Tallied}

-- a call's answer told in numbers, with its buffers as they are
abbrev pub answered : {A B C : Type 0} → (A → B) → A × C → B × C
answered tell result = (tell result.0, result.1)

-- what a byte is: the symbol of a letter, 4 for an unknown one, 5 for a foreign byte
abbrev pub from_letter : Letter → ℕ
from_letter (Symbol s) = s
from_letter Unknown = 4
from_letter Foreign = 5

-- the answer of a writing
abbrev pub from_wrote : Result ℕ Refusal → Written
from_wrote (Ok n) = record { refusal = 0; place = 0; length = n }
from_wrote (Err r) = record { refusal = number_of r; place = place_of r; length = 0 }

-- the answer of a reading
abbrev pub from_counted : Result code_counts.Counts Refusal → Counts
from_counted (Ok n) = record { refusal = 0; place = 0; clean = n.clean; corrected = n.corrected; lost = n.lost }
from_counted (Err r) = record { refusal = number_of r; place = place_of r; clean = 0; corrected = 0; lost = 0 }

-- the answer of a piece call
abbrev pub from_located : Result Span Refusal → Piece
from_located (Ok at) = record { refusal = 0; place = 0; start = at.start; length = at.end - at.start }
from_located (Err r) = record { refusal = number_of r; place = place_of r; start = 0; length = 0 }

-- what is said of a segment, by its numbers
abbrev pub in_numbers : ℕ → ℕ → ℕ → ℕ → Said
in_numbers kind at letter step = record { refusal = 0; place = 0; kind = kind; at = at; letter = letter; step = step }

-- a verdict: its kind, the place and the letter of its edit, the step that lost its segment
abbrev pub from_verdict : Verdict → Said
from_verdict v = in_numbers (kind_of v) (at_of v) (letter_byte v) (step_of v)

-- the answer of a verdict call
abbrev pub from_reported : Result Verdict Refusal → Said
from_reported (Ok v) = from_verdict v
from_reported (Err r) = record { refusal = number_of r; place = place_of r; kind = 0; at = 0; letter = 0; step = 0 }

-- the answer of a label that is read
abbrev pub from_labelled : Result Labelled Refusal → Order
from_labelled (Ok l) = record { refusal = 0; b = l.b; count = l.count; lengths = l.lengths }
from_labelled (Err r) = record { refusal = number_of r; b = 0; count = 0; lengths = replicate most_segments 0 }

-- the answer of a quote
abbrev pub from_quoted : Result Quote Refusal → Quoted
from_quoted (Ok q) = record { refusal = 0; letters = q.letters; bytes = q.bytes; starts = q.starts }
from_quoted (Err r) = record { refusal = number_of r; letters = 0; bytes = 0; starts = 0 }

-- a tally as the tally call takes it
abbrev pub as_tally : Tally → code_tally.Tally
as_tally t = record { strands = t.strands; counts = record { clean = t.clean; corrected = t.corrected; lost = t.lost } }

-- the counts of a reading as the tally call takes them
abbrev pub as_counts : ℕ → ℕ → ℕ → code_counts.Counts
as_counts clean corrected lost = record { clean = clean; corrected = corrected; lost = lost }

-- the answer of adding to t: the sum, or the refusal's number and t as it was
abbrev pub from_tallied : Tally → Result code_tally.Tally Refusal → Tallied
from_tallied t (Ok u) = record { refusal = 0; strands = u.strands; clean = u.counts.clean; corrected = u.counts.corrected; lost = u.counts.lost }
from_tallied t (Err r) = record { refusal = number_of r; strands = t.strands; clean = t.clean; corrected = t.corrected; lost = t.lost }
