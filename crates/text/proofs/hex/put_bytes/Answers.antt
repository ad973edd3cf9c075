use mathlib.Core.Path.{◌∙◌}
use Prim.Native.Nat.{◌+◌, ◌*◌}
use native.Mathlib.Omega.{arith}
use borrow.Author.Rules.{rules}
use Rattle.code.proofs.laws.Lists.{write_all}
use Rattle.text.specs.Hex.{hex_bytes}
use Rattle.text.proofs.laws.Hex.{digit_at, length-hex_bytes}
use Rattle.text.proofs.laws.HexDigit.{value_in-digit}
use Rattle.text.proofs.Digits.{bytes_step}
use Rattle.text.proofs.hex.put_bytes.Goals as goal

pub unwrap-high-requires : goal.unwrap-high-requires
unwrap-high-requires c =
    let e = value_in-digit _ (digit_at c.args.digits.now c.requires.digits (2 * c.loop-i.i) (omega arith)) in
    search rules

pub unwrap-low-requires : goal.unwrap-low-requires
unwrap-low-requires c =
    let e = value_in-digit _ (digit_at c.args.digits.now c.requires.digits (2 * c.loop-i.i + 1) (omega arith)) in
    search rules

pub overflow_mul-out : goal.overflow_mul-out
overflow_mul-out c =
    let e = value_in-digit _ (digit_at c.args.digits.now c.requires.digits (2 * c.loop-i.i) (omega arith)) in
    search rules

pub overflow_add-out : goal.overflow_add-out
overflow_add-out c =
    let e = value_in-digit _ (digit_at c.args.digits.now c.requires.digits (2 * c.loop-i.i) (omega arith)) in
    let f = value_in-digit _ (digit_at c.args.digits.now c.requires.digits (2 * c.loop-i.i + 1) (omega arith)) in
    search rules

pub loop-i-preserved : goal.loop-i-preserved
loop-i-preserved c =
    let a = c.args in
    let e = value_in-digit _ (digit_at a.digits.now c.requires.digits (2 * c.loop-i.i) (omega arith)) in
    let f = value_in-digit _ (digit_at a.digits.now c.requires.digits (2 * c.loop-i.i + 1) (omega arith)) in
    let s = bytes_step a.digits.now a.out.now c.loop-i.i (omega arith) (omega arith) in
    search rules

pub returns : goal.returns
returns c =
    let l = c.loop-i in
    let a = c.args in
    let n = length-hex_bytes a.digits.now in
    l.invariant ∙ write_all (hex_bytes a.digits.now) a.out.now l.i (omega arith)
