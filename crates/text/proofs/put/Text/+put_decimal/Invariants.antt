use Rattle.text.proofs.put.Text.+put_decimal.Given as goal

-- each call is of a smaller number
abbrev pub decreases-put_decimal : goal.decreases-put_decimal
decreases-put_decimal l = l.n
