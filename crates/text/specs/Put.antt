-- Text that grows in a lent buffer.
--   text_of   the text so far
--   Spare     a buffer holds a text and so many bytes more
--   Room      the same for the bytes of another text
--   Appended  a buffer after text is put behind its first bytes
--   Grown     a text after more is put behind it
use Rattle.std.specs.Prelude.{◌≡◌, List, ◌++◌, ℕ, ◌+◌, ◌≤◌, length, take}
use Rattle.text.specs.declared.put.Text.{Text}

-- the text so far
abbrev pub text_of : Text → List ℕ
text_of t = take t.end t.out.now

-- the buffer holds the text so far and n bytes more
abbrev pub Spare : Text → ℕ → Type 0
Spare t n = length (text_of t) + n ≤ length t.out.now

-- the buffer holds the text so far and another behind it
abbrev pub Room : Text → List ℕ → Type 0
Room t more = Spare t (length more)

-- of buffers: a buffer after `more` is put behind the first `at` bytes of the buffer before, up to `end`
pub record Appended (before : List ℕ) (at : ℕ) (more after : List ℕ) (end : ℕ) : Type 0 where
  pub ends : end ≡ at + length more
  pub text : take end after ≡ take at before ++ more

-- the text after more is put behind it, in the same buffer
pub record Grown (before : Text) (more : List ℕ) (after : Text) : Type 0 where
  pub appended : Appended before.out.now before.end more after.out.now after.end
  pub room : length after.out.now ≡ length before.out.now
  pub same : after.out.ghost_name ≡ before.out.ghost_name
