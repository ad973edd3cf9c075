-- One hexadecimal digit. The digits below ten are the decimal ones.
--   no_digit     what a byte that is no digit counts as
--   value_of     the value of a digit of either case
--   value_in     the same, or none for a byte that is no digit
--   digit_of     the upper-case digit of a value
--   all_digits   all bytes are digits below a value
use Rattle.std.specs.Prelude.{Bool, true, ◌&&◌, cond, List, [], ◌∷◌, ℕ, ◌+◌, ◌-◌, ltb, Option, Some, None}

-- what a byte that is no digit counts as
abbrev pub no_digit : ℕ
no_digit = 16

-- the value of a digit: 0 to 9, A to F and a to f in ASCII
unfoldable pub value_of : ℕ → ℕ
value_of c =
    cond (ltb c 48) no_digit
    (cond (ltb c 58) (c - 48)
    (cond (ltb c 65) no_digit
    (cond (ltb c 71) (c - 55)
    (cond (ltb c 97) no_digit
    (cond (ltb c 103) (c - 87) no_digit)))))

-- the same, or none for a byte that is no digit
abbrev pub value_in : ℕ → Option ℕ
value_in c = cond (ltb (value_of c) no_digit) (Some (value_of c)) None

-- the upper-case digit of a value
unfoldable pub digit_of : ℕ → ℕ
digit_of v = cond (ltb v 10) (48 + v) (55 + v)

-- all bytes are digits whose value is below n
unfoldable pub all_digits : ℕ → List ℕ → Bool
all_digits n [] = true
all_digits n (c ∷ cs) = ltb (value_of c) n && all_digits n cs
