-- The runs of the reading steps, of the definitions: one proof that covers every run.
use Rattle.std.specs.Prelude.{T}
use Rattle.code.specs.Symbols.{as_symbols, has_unknown}
use Rattle.code.specs.Layers.{bits, number, width, syndrome, pair, ones, sum_of_places, sum_from, first_power}
use Rattle.code.specs.Repair.{flips, lefts, puts, linked, first_with, repair}
use Rattle.code.specs.Segment.{total, check, sep, syndrome_of, separator, marker, block, segment, last_of, size}
use Rattle.code.specs.Layout.{sum}
use Rattle.code.specs.Edits.{same, first_edit, judged}
use Rattle.code.specs.Reading.{is_prefix, two_equal, three_equal, separator_at, check_agrees, syndrome_agrees}
use Rattle.code.specs.Reading.{repaired, message_at, message_without, read_message, clean, end_of, read_segment}
use Rattle.code.specs.Strands.{above, pairs, tries, first_standing, scan, reading}
use Rattle.code.specs.Starts.{up_to_standing, tried_by}
use Rattle.code.specs.Runs.{right, runs, every}

-- every run gives its verdicts and tries its starts
pub runs_right : T (every runs)
unfolding every right bits number width syndrome pair ones sum_of_places sum_from first_power flips lefts puts linked first_with repair total check sep
    syndrome_of separator marker block segment last_of size same first_edit judged is_prefix two_equal three_equal separator_at check_agrees
    syndrome_agrees repaired message_at message_without read_message clean end_of read_segment above pairs tries first_standing scan reading as_symbols has_unknown
    sum up_to_standing tried_by
runs_right = tt
