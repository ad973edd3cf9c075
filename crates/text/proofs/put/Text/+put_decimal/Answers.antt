use mathlib.Core.Path.{◌≡◌, ap, ◌∙◌}
use Prim.Native.Nat.{◌/◌, ◌%◌}
use native.Mathlib.Omega.{arith}
use lib.ListN.{length}
use Rattle.text.specs.HexDigit.{digit_of}
use Rattle.text.specs.Decimal.{decimal}
use Rattle.text.specs.Put.{Grown}
use Rattle.text.proofs.laws.Decimal.{decimal_short, decimal_long, length_long}
use Rattle.text.proofs.laws.Put.{Grown-both, Grown-length}
use Rattle.text.proofs.put.Text.+put_decimal.Goals.{then-n-ge10, else-n-ge10}
use Rattle.text.proofs.put.Text.+put_decimal.Goals as goal

pub put_decimal-requires : goal.put_decimal-requires
put_decimal-requires t c = (omega arith, omega (arith, length_long c.args.n (omega arith)))

pub put-requires : goal.put-requires
put-requires t c =
    elim c.if-n-ge10.branch [
      | then-n-ge10 w ↦ rw w.self-is (omega (arith, length_long c.args.n (omega arith), Grown-length w.put_decimal.ensures))
      | else-n-ge10 w ↦ rw w.self-is (omega (arith, ap length (decimal_short c.args.n (omega arith))))
    ]

pub returns : goal.returns
returns t c =
    elim c.if-n-ge10.branch [
      | then-n-ge10 w ↦
          (let p : Grown c.args.self.now (decimal (c.args.n / 10)) c.if-n-ge10.self = rw w.self-is w.put_decimal.ensures in
          rw (decimal_long c.args.n (omega arith), ← c.digit_of.ensures) (Grown-both p c.put.ensures))
      | else-n-ge10 w ↦
          (let m : c.args.n % 10 ≡ c.args.n = omega arith in
          let d : c.digit_of.result ≡ digit_of c.args.n = c.digit_of.ensures ∙ ap digit_of m in
          rw (decimal_short c.args.n (omega arith), ← d, ← w.self-is) c.put.ensures)
    ]
