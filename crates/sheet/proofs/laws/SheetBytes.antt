-- Laws of the segment sheet.
--   sheet_drop     what is left of a sheet, after i bytes
use Rattle.std.specs.Prelude.{◌≡◌, refl, List, [], ◌∷◌, ◌++◌, ℕ, zero, suc, ◌+◌, ◌*◌, ◌-◌, ◌/◌, ◌%◌, ◌<◌, length, get_or, drop, replicate}
use Rattle.std.proofs.Common.{◌∙◌, arith, length-append}
use Rattle.std.proofs.lemmas.List.{length-replicate}
use Rattle.code.proofs.laws.Lists.{drop_four}
use Rattle.code.specs.Symbols.{bytes}
use Rattle.code.proofs.laws.Symbols.{bytes-drop}
use Rattle.code.specs.Sheet.{sheet_of}
use Rattle.sheet.specs.SheetBytes.{padded, byte_at}

zeros_at : (k i : ℕ) → get_or {A = ℕ} (replicate k 0) i 0 ≡ 0
zeros_at zero i = refl
zeros_at (suc k) zero = refl
zeros_at (suc k) (suc i) = zeros_at k i

-- zeros behind a list change no entry
zeros_behind : (m : List ℕ) (k i : ℕ) → get_or (m ++ replicate k 0) i 0 ≡ get_or m i 0
zeros_behind [] k i = zeros_at k i
zeros_behind (x ∷ m) k zero = refl
zeros_behind (x ∷ m) k (suc i) = zeros_behind m k i

module _ (m : List ℕ) where
  padded_at : (i : ℕ) → get_or (padded m) i 0 ≡ get_or m i 0
  padded_at i = zeros_behind m ((4 - length m % 4) % 4) i

  length-padded : length (padded m) ≡ 4 * ((length m + 3) / 4)
  length-padded = simp (length-append, length-replicate) (omega arith)

  module _ (i : ℕ) (h : i < (length m + 3) / 4) where
    -- what is left of a sheet, after i bytes
    pub sheet_drop : drop i (sheet_of m) ≡ byte_at m i ∷ bytes (drop (4 * i + 4) (padded m))
    unfolding bytes
    sheet_drop =
        bytes-drop i (padded m)
        ∙ rw (
          drop_four (padded m) (4 * i) 0 (omega (arith, length-padded)),
          padded_at (4 * i),
          padded_at (4 * i + 1),
          padded_at (4 * i + 2),
          padded_at (4 * i + 3),
        )
