-- What N leaves alone: letters without an N are read as if there were no such letter. Proved in proofs/laws/WithoutUnknown.antt.
--   WithoutUnknown   the symbols, the clean test, what is said and the whole reading of letters without an N
--   BaseStands       so it is for all such letters
use Rattle.std.specs.Prelude.{◌≡◌, true, false, List, ℕ, take, drop}
use Rattle.code.specs.Symbols.{as_symbols, has_unknown}
use Rattle.code.specs.Segment.{segment}
use Rattle.code.specs.Reading.{is_prefix, clean}
use Rattle.code.specs.Strands.{scan, told, reading, outcomes}
use Rattle.code.specs.declared.Verdict.{Verdict}

-- letters without an N are their own symbols; a clean segment is one that stands in these; what step 9 says stands; and the reading is over them alone
pub record WithoutUnknown (letters : List ℕ) : Type 0 where
  pub symbols : as_symbols letters ≡ letters
  pub clean_test : (k f : ℕ) → clean k f (as_symbols letters) letters ≡ is_prefix (segment true f (take k (drop 2 letters))) letters
  pub verdict : (v : Verdict) → told v letters ≡ v
  pub read : (ks : List ℕ) → outcomes ks letters ≡ reading scan 0 false 0 ks letters letters

-- so it is for all letters without an N
abbrev pub BaseStands : Type 0
BaseStands = (letters : List ℕ) → has_unknown letters ≡ false → WithoutUnknown letters
