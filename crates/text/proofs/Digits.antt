-- One step of the loop over digits.
use mathlib.Core.Path.{◌≡◌, ◌∙◌}
use mathlib.Core.List.{List, ◌∷◌, ◌++◌}
use Prim.Native.Nat.{ℕ, suc, ◌+◌, ◌*◌, ◌<◌}
use native.Mathlib.Omega.{arith}
use lib.ListN.{length, get_or, take, drop, set}
use lib.Seq.{drop-cons}
use Rattle.code.proofs.laws.Lists.{write_next}
use Rattle.text.specs.HexDigit.{value_of}
use Rattle.text.specs.Hex.{hex_bytes}
use Rattle.text.proofs.laws.Hex.{hex_bytes-drop}

-- the next two bytes of a text
drop_two : (cs : List ℕ) (j : ℕ) → j + 1 < length cs → drop j cs ≡ get_or cs j 0 ∷ get_or cs (j + 1) 0 ∷ drop (j + 2) cs
drop_two cs j h = step j (j + 1) (omega arith) (omega arith) ∙ rw (step (j + 1) (j + 2) (omega arith) (omega arith))
  where
    step : (i k : ℕ) → k ≡ suc i → i < length cs → drop i cs ≡ get_or cs i 0 ∷ drop k cs
    step i k e q = rw e (drop-cons cs i 0 q)

-- one more byte of digits is written
pub bytes_step : (cs d : List ℕ) (i : ℕ) → 2 * i + 1 < length cs → i < length d → set (take i (hex_bytes cs) ++ drop i d) i (16 * value_of (get_or cs (2 * i) 0) + value_of (get_or cs (2 * i + 1) 0)) ≡ take (i + 1) (hex_bytes cs) ++ drop (i + 1) d
unfolding hex_bytes
bytes_step cs d i h room = write_next (hex_bytes cs) (hex_bytes (drop (2 * i + 2) cs)) d i _ (hex_bytes-drop i cs ∙ rw (drop_two cs (2 * i) h)) room
