-- The small signed numbers by which a place is moved.
--   offset_of   the i-th of the numbers 0, −1, +1, −2, +2, ..
--   tried_at    a place moved by the i-th of them
use Rattle.std.specs.Prelude.{cond, ℕ, ◌+◌, ◌-◌, ◌/◌, ◌%◌, eqb, ℤ, pos, negsuc}

-- the i-th of the numbers 0, −1, +1, −2, +2, ..; negsuc n is −(n + 1)
abbrev pub offset_of : ℕ → ℤ
offset_of i = cond (eqb (i % 2) 0) (pos (i / 2)) (negsuc (i / 2))

-- n moved by the i-th of the numbers 0, −1, +1, −2, +2, ..
abbrev pub tried_at : ℕ → ℕ → ℕ
tried_at n i = cond (eqb (i % 2) 0) (n + i / 2) (n - (i + 1) / 2)
