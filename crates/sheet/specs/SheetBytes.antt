-- What the segment sheet is made of.
--   padded     marks up to whole bytes
--   byte_at     a byte of the sheet
use Rattle.std.specs.Prelude.{List, ◌++◌, ℕ, ◌+◌, ◌*◌, ◌-◌, ◌%◌, length, get_or, replicate}
use Rattle.code.specs.Symbols.{byte_of}

-- marks with zeros behind them, up to whole bytes
abbrev pub padded : List ℕ → List ℕ
padded marks = marks ++ replicate ((4 - length marks % 4) % 4) 0

-- the byte of the i-th four marks, with 0 for a mark past the end
abbrev pub byte_at : List ℕ → ℕ → ℕ
byte_at marks i = byte_of (get_or marks (4 * i) 0) (get_or marks (4 * i + 1) 0) (get_or marks (4 * i + 2) 0) (get_or marks (4 * i + 3) 0)
