use mathlib.Core.Path.{sym, ◌∙◌}
use native.Mathlib.Omega.{arith}
use mathlib.Core.Bool.{false}
use Prim.Native.Nat.{◌-◌}
use lib.ListN.{get_or}
use Rattle.code.specs.Repair.{put_in}
use Rattle.code.specs.Layers.{bit, layer}
use Rattle.code.proofs.laws.Layers.{length-layer, layer_at_lem}
use Rattle.repair.proofs.MendedBits.{digit_is, put_behind}
use Rattle.layers.specs.LayerSums.{shift_of}
use Rattle.repair.proofs.less_digit.Goals as goal

pub returns : goal.returns
returns c =
    let a = c.args in
    let w = layer (shift_of a.layer) a.symbols.now in
    let n = length-layer (shift_of a.layer) a.symbols.now in
    digit_is (bit (shift_of a.layer) (get_or a.symbols.now (a.i - 1) 0)) (get_or (put_in a.fix.at a.fix.bit w) a.i false) c.digit-2.result (sym (layer_at_lem (shift_of a.layer) a.symbols.now (a.i - 1) (omega arith)) ∙ sym (put_behind a.fix.bit a.fix.at a.i w (omega arith) (omega arith))) c.digit-2.ensures.0
