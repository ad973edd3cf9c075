use mathlib.Core.Path.{◌≡◌, sym}
use Prim.Native.Nat.{◌+◌, ◌*◌, ◌/◌, ◌%◌}
use native.Mathlib.Omega.{arith}
use lib.ListN.{get_or}
use Rattle.code.specs.Symbols.{Below}
use Rattle.label.proofs.Fields.{two_field, one_shift}
use Rattle.label.proofs.bit_fields.number_at.Goals.{After-byte_at-2}
use Rattle.label.proofs.bit_fields.number_at.Goals as goal

-- every byte is below 256
small : (c : After-byte_at-2) → Below 256 c.args.bytes.now
small c = λ i. omega (arith, c.shared_slice_known-1.given i)

pub returns : goal.returns
returns c =
    let a = c.args in
    let two : c.byte_at.result * 256 % 4294967296 + c.byte_at-2.result ≡ get_or a.bytes.now (a.at / 8) 0 * 256 + get_or a.bytes.now (a.at / 8 + 1) 0 =
    omega (arith, c.byte_at.ensures, c.byte_at-2.ensures, small c (a.at / 8), small c (a.at / 8 + 1)) in
    rw (two, one_shift a.width (omega arith)) (sym (two_field a.bytes.now a.at a.width (small c) (omega arith) (omega arith)))
