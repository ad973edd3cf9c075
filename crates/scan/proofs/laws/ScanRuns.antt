-- The runs of the search, of the definitions: one proof that covers every run.
use Rattle.std.specs.Prelude.{T}
use Rattle.code.specs.Symbols.{as_symbols}
use Rattle.code.specs.Layers.{pair, ones, sum_from, sum_of_places, syndrome, first_power, width, bits}
use Rattle.code.specs.Segment.{total, check, sep, syndrome_of, separator, marker, block, segment}
use Rattle.code.specs.Reading.{is_prefix, clean}
use Rattle.code.specs.Strands.{above, pairs}
use Rattle.scan.specs.Scans.{first_clean, letter_before}
use Rattle.scan.specs.ScanRuns.{right, runs, all}

pub runs_right : T (all runs)
unfolding right first_clean letter_before above pairs clean is_prefix segment block marker separator syndrome_of sep check total pair bits width
    first_power syndrome sum_of_places sum_from ones as_symbols
runs_right = tt
