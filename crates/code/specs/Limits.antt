-- The limits of an order and of a received strand (SPECIFICATION.md, table 2).
--   least_length, most_length    a length k
--   most_bytes                   B; the least is 1
--   most_segments                l
--   most_letters, most_written   a received strand, a written one
--   old_length, old_bytes        k and B of a label of edition 1 or 2
use Rattle.std.specs.Prelude.{ℕ}

-- the smallest length k of a message
abbrev pub least_length : ℕ
least_length = 2

-- the largest length k of a message
abbrev pub most_length : ℕ
most_length = 256

-- the most bytes B of a strand's message
abbrev pub most_bytes : ℕ
most_bytes = 512

-- the most segments of a strand
abbrev pub most_segments : ℕ
most_segments = 64

-- the most letters of a received strand
abbrev pub most_letters : ℕ
most_letters = 4096

-- the most letters of a written strand
abbrev pub most_written : ℕ
most_written = 2874

-- the largest length k that an old edition of the label carries
abbrev pub old_length : ℕ
old_length = 64

-- the most bytes B that an old edition of the label carries
abbrev pub old_bytes : ℕ
old_bytes = 128
