use mathlib.Core.Path.{◌≡◌, sym, ◌∙◌}
use Prim.Native.Nat.{◌+◌, ◌*◌}
use lib.ListN.{get_or}
use native.Mathlib.Omega.{arith}
use Rattle.text.specs.HexDigit.{value_of}
use Rattle.text.proofs.laws.HexDigit.{value_decimal, value_no_decimal}
use Rattle.text.proofs.Numbers.{read_large, read_step, read_bad, read_end}
use Rattle.text.proofs.decimal.number_of.Goals as goal

pub returns-then-not-is_ascii_digit : goal.returns-then-not-is_ascii_digit
returns-then-not-is_ascii_digit c =
    let l = c.loop-c in
    let s = c.args.text.now in
    sym (l.invariant.1 ∙ read_bad l.n s l.c-index (omega arith) (value_no_decimal (get_or s l.c-index 0) c.if-not-is_ascii_digit.ensures.cases))

pub returns-in_err-checked_mul : goal.returns-in_err-checked_mul
returns-in_err-checked_mul c =
    let l = c.loop-c in
    let s = c.args.text.now in
    let v = value_decimal (get_or s l.c-index 0) c.if-not-is_ascii_digit.ensures.cases in
    let e = l.invariant.1 ∙ read_step l.n s l.c-index (omega arith) (omega arith) in
    c.from_residual.ensures ∙ sym (e ∙ read_large _ _ (omega arith))

pub returns-in_err-n : goal.returns-in_err-n
returns-in_err-n c =
    let l = c.loop-c in
    let s = c.args.text.now in
    let v = value_decimal (get_or s l.c-index 0) c.if-not-is_ascii_digit.ensures.cases in
    let e = l.invariant.1 ∙ read_step l.n s l.c-index (omega arith) (omega arith) in
    c.from_residual-in_err-n.ensures ∙ sym (e ∙ read_large _ _ (omega arith))

pub loop-c-preserved : goal.loop-c-preserved
loop-c-preserved c =
    let l = c.loop-c in
    let s = c.args.text.now in
    let v = value_decimal (get_or s l.c-index 0) c.if-not-is_ascii_digit.ensures.cases in
    let n : c.in_ok-n.n ≡ 10 * l.n + value_of (get_or s l.c-index 0) = omega arith in
    (omega arith, l.invariant.1 ∙ read_step l.n s l.c-index (omega arith) (omega arith) ∙ rw n)

pub returns : goal.returns
returns c =
    let l = c.loop-c in
    sym (l.invariant.1 ∙ read_end l.n c.args.text.now l.c-index (omega arith) (omega arith))
