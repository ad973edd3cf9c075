-- A lent buffer, and what is written to it.
--   over_front   a buffer with new bytes at its front
--   put_at       a buffer with a block at a place
use Rattle.std.specs.Prelude.{List, ◌++◌, ℕ, ◌+◌, length, take, drop}

-- new bytes at the front of a buffer, whose rest is unchanged
abbrev pub over_front : List ℕ → List ℕ → List ℕ
over_front new old = new ++ drop (length new) old

-- the block b at place i of the buffer d, whose rest is unchanged
unfoldable pub put_at : List ℕ → ℕ → List ℕ → List ℕ
put_at d i b = take i d ++ b ++ drop (i + length b) d
