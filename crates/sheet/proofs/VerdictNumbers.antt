-- Verdicts as numbers, by shift, or and mask.
--   or_parts      the number of a kind, a symbol and a place
--   mask_kind     the kind of a number
--   mask_symbol   its symbol
--   bit_below     a condition as a number is 0 or 1
--   kind_mark     the mark of a kind, as a sum
--   kind_rest     the kinds from 6 on
use mathlib.Core.Path.{◌≡◌, refl, ◌∙◌}
use mathlib.Core.Bool.{Bool, true, false}
use Prim.Native.Nat.{ℕ, zero, suc, ◌+◌, ◌*◌, ◌%◌, ◌<◌, ◌≤◌}
use native.Mathlib.Omega.{arith}
use borrow.Author.Tests.{lt-ltb}
use lib.Bits.{bit_and, bit_or, and_mask, or_shifted_r}
use lib.Dec.{ltb}
use mir.Val.{bool_byte}
use Rattle.code.specs.declared.Verdict.TheVariants.{NoStart}
use Rattle.code.specs.Bounds.{reach}
use Rattle.code.specs.Verdicts.{numbered, verdict_of_kind}
use Rattle.code.specs.Sheet.{mark_of}

-- the number of a kind, a symbol and a place
pub or_parts : (kind x i : ℕ) → kind < 8 → x < 16 → i < reach → bit_or (bit_or kind ((x * 8) % 4294967296)) ((i * 128) % 4294967296) ≡ numbered kind x i
or_parts kind x i hk hx hi =
    let ex : (x * 8) % 4294967296 ≡ x * 8 = omega arith in
    let ei : (i * 128) % 4294967296 ≡ i * 128 = omega arith in
    let low : bit_or kind (x * 8) ≡ x * 8 + kind = or_shifted_r x 3 kind hk in
    rw (ex, ei, low) (or_shifted_r i 7 (x * 8 + kind) (omega arith) ∙ omega arith)

-- the lowest three bits
pub mask_kind : (n : ℕ) → bit_and n 7 ≡ n % 8
mask_kind n = and_mask n 3

-- the lowest four bits
pub mask_symbol : (n : ℕ) → bit_and n 15 ≡ n % 16
mask_symbol n = and_mask n 4

pub bit_below : (b : Bool) → bool_byte b < 2
bit_below true = omega arith
bit_below false = omega arith

-- the mark of a kind, as a sum
pub kind_mark : (kind x i : ℕ) → bool_byte (ltb 0 kind) + bool_byte (ltb 4 kind) ≡ mark_of (verdict_of_kind kind x i)
kind_mark zero x i = refl
kind_mark (suc zero) x i = refl
kind_mark (suc (suc zero)) x i = refl
kind_mark (suc (suc (suc zero))) x i = refl
kind_mark (suc (suc (suc (suc zero)))) x i = refl
kind_mark (suc (suc (suc (suc (suc zero))))) x i = refl
kind_mark (suc (suc (suc (suc (suc (suc kind)))))) x i =
    rw (lt-ltb 0 (suc (suc (suc (suc (suc (suc kind)))))) (omega arith), lt-ltb 4 (suc (suc (suc (suc (suc (suc kind)))))) (omega arith))

-- the kinds from 6 on
pub kind_rest : (kind x i : ℕ) → 6 ≤ kind → NoStart ≡ verdict_of_kind kind x i
kind_rest zero x i h = absurd (omega arith)
kind_rest (suc zero) x i h = absurd (omega arith)
kind_rest (suc (suc zero)) x i h = absurd (omega arith)
kind_rest (suc (suc (suc zero))) x i h = absurd (omega arith)
kind_rest (suc (suc (suc (suc zero)))) x i h = absurd (omega arith)
kind_rest (suc (suc (suc (suc (suc zero))))) x i h = absurd (omega arith)
kind_rest (suc (suc (suc (suc (suc (suc kind)))))) x i h = refl
