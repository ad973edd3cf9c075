use mathlib.Core.Path.{◌≡◌}
use mathlib.Core.Bool.{◌&&◌}
use lib.ListN.{drop}
use Rattle.symbols.specs.Letters.{all_letters}
use Rattle.symbols.proofs.all_letters.Given as goal

abbrev pub invariant-loop-c : goal.invariant-loop-c
invariant-loop-c l = (l.all && all_letters l.unknown (drop l.c-index l.letters)) ≡ all_letters l.unknown l.letters
