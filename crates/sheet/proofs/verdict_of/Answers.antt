use mathlib.Core.Path.{◌≡◌}
use Prim.Native.Nat.{◌/◌, ◌%◌}
use native.Mathlib.Omega.{arith}
use Rattle.sheet.proofs.VerdictNumbers.{mask_kind, mask_symbol, kind_rest}
use Rattle.sheet.proofs.verdict_of.Goals as goal

pub returns-in-0 : goal.returns-in-0
returns-in-0 c =
    let n = c.args.n in
    let kind : n % 8 ≡ 0 = omega (arith, mask_kind n) in
    rw (kind)

pub returns-in-1 : goal.returns-in-1
returns-in-1 c =
    let n = c.args.n in
    let kind : n % 8 ≡ 1 = omega (arith, mask_kind n) in
    rw (kind)

pub returns-in-2 : goal.returns-in-2
returns-in-2 c =
    let n = c.args.n in
    let kind : n % 8 ≡ 2 = omega (arith, mask_kind n) in
    rw (kind, mask_symbol (n / 8))

pub returns-in-3 : goal.returns-in-3
returns-in-3 c =
    let n = c.args.n in
    let kind : n % 8 ≡ 3 = omega (arith, mask_kind n) in
    rw (kind, mask_symbol (n / 8))

pub returns-in-4 : goal.returns-in-4
returns-in-4 c =
    let n = c.args.n in
    let kind : n % 8 ≡ 4 = omega (arith, mask_kind n) in
    rw (kind, mask_symbol (n / 8))

pub returns-in-5 : goal.returns-in-5
returns-in-5 c =
    let n = c.args.n in
    let kind : n % 8 ≡ 5 = omega (arith, mask_kind n) in
    rw (kind, mask_symbol (n / 8))

pub returns-in_default : goal.returns-in_default
returns-in_default c = let n = c.args.n in kind_rest (n % 8) (n / 8 % 16) (n / 128) (omega (arith, mask_kind n))
