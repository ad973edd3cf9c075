use mathlib.Core.Path.{sym}
use native.Mathlib.Numerals.{add-one}
use native.Mathlib.Omega.{arith}
use mathlib.Core.Bool.{false}
use Prim.Native.Nat.{◌+◌}
use lib.ListN.{get_or}
use Rattle.code.specs.Repair.{leave_out}
use Rattle.code.specs.Layers.{bit, layer}
use Rattle.code.proofs.laws.Layers.{layer_at_lem}
use Rattle.repair.proofs.MendedBits.{digit_is, leave_behind}
use Rattle.layers.specs.LayerSums.{shift_of}
use Rattle.repair.proofs.more_digit.Goals as goal

pub returns : goal.returns
returns c =
    let a = c.args in
    let w = layer (shift_of a.layer) a.symbols.now in
    digit_is (bit (shift_of a.layer) (get_or a.symbols.now (a.i + 1) 0)) (get_or (leave_out a.fix.at w) a.i false) c.digit-2.result (rw (leave_behind a.fix.at a.i w (omega arith), ← add-one a.i) (sym (layer_at_lem (shift_of a.layer) a.symbols.now (a.i + 1) (omega arith)))) c.digit-2.ensures.0
