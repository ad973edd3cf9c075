-- The sample strands of SPECIFICATION.md, of the definitions: one proof that covers every row.
use Rattle.std.specs.Prelude.{Bool, true, false, ◌&&◌, T}
use mathlib.Core.List.{List, [], ◌∷◌, Memᴰ}
use Rattle.std.proofs.Common.{subst, sym}
use Rattle.code.specs.Symbols.{bytes, symbols, legible, as_symbols, has_unknown}
use Rattle.code.specs.Layers.{bits, number, width, syndrome, pair, ones, sum_of_places, sum_from, first_power}
use Rattle.code.specs.Repair.{flips, lefts, puts, linked, first_with, repair}
use Rattle.code.specs.Segment.{total, check, sep, syndrome_of, separator, marker, block, segment, last_of, size}
use Rattle.code.specs.Layout.{cut, joined, written, extent}
use Rattle.code.specs.Order.{bad_length}
use Rattle.code.specs.Writing.{strand_of}
use Rattle.code.specs.Label.{in_bits, from_bits, all_are}
use Rattle.code.specs.Edits.{same, first_edit, judged}
use Rattle.code.specs.Reading.{is_prefix, two_equal, three_equal, separator_at, check_agrees, syndrome_agrees}
use Rattle.code.specs.Reading.{repaired, message_at, message_without, read_message, clean, end_of, read_segment}
use Rattle.code.specs.Strands.{above, pairs, tries, first_standing, scan, reading}
use Rattle.code.specs.Samples.{Row, holds, rows}

every : List Row → Bool
every [] = true
every (r ∷ rs) = holds r && every rs

both : (a b : Bool) → T (a && b) → T a × T b
both true b t = (tt, t)
both false b t = (t, absurd t)

of_every : (rs : List Row) → T (every rs) → (r : Row) → Memᴰ r rs → T (holds r)
unfolding every
of_every [] t r x'' = elim x'' [ ]
of_every (x ∷ rs) t r (Memᴰ.head e) = subst (λ y. T (holds y)) (sym e) (both (holds x) (every rs) t).0
of_every (x ∷ rs) t r (Memᴰ.tail m) = of_every rs (both (holds x) (every rs) t).1 r m

-- every row is right
pub rows_hold : (r : Row) → Memᴰ r rows → T (holds r)
unfolding every holds in_bits from_bits all_are bytes symbols legible bits number width syndrome pair ones sum_of_places sum_from first_power flips lefts
    puts linked first_with repair total check sep syndrome_of separator marker block segment last_of size cut joined written extent strand_of same
    first_edit judged is_prefix two_equal three_equal separator_at check_agrees syndrome_agrees repaired message_at message_without read_message clean end_of
    read_segment above pairs tries first_standing scan reading as_symbols has_unknown bad_length
rows_hold = of_every rows tt
