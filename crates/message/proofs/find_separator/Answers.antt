use mathlib.Core.Path.{sym, ap}
use Prim.Native.Nat.{◌+◌, ◌-◌}
use native.Mathlib.Omega.{arith}
use lib.ListN.{drop}
use Rattle.code.proofs.laws.Reading.{at_level, at_early, at_late, at_none}
use Rattle.message.specs.MessageAnswers.{separator_as}
use Rattle.message.proofs.Separators.{test_at}
use Rattle.message.proofs.find_separator.Goals as goal

pub returns-then-three_equal : goal.returns-then-three_equal
returns-then-three_equal c =
    let a = c.args in
    let t = test_at a.s.now a.d (a.k + 1) _ _ _ (omega arith) c.three_equal.ensures c.if-three_equal.true in
    sym (ap separator_as (at_level a.k (drop a.d a.s.now) t))

pub returns-then-three_equal-2 : goal.returns-then-three_equal-2
returns-then-three_equal-2 c =
    let a = c.args in
    let t = test_at a.s.now a.d (a.k + 1) _ _ _ (omega arith) c.three_equal.ensures c.if-three_equal.false in
    let u = test_at a.s.now a.d (a.k + 1 - 1) _ _ _ (omega arith) c.three_equal-2.ensures c.if-three_equal-2.true in
    sym (ap separator_as (at_early a.k (drop a.d a.s.now) t u))

pub returns-then-three_equal-3 : goal.returns-then-three_equal-3
returns-then-three_equal-3 c =
    let a = c.args in
    let t = test_at a.s.now a.d (a.k + 1) _ _ _ (omega arith) c.three_equal.ensures c.if-three_equal.false in
    let u = test_at a.s.now a.d (a.k + 1 - 1) _ _ _ (omega arith) c.three_equal-2.ensures c.if-three_equal-2.false in
    let v = test_at a.s.now a.d (a.k + 1 + 1) _ _ _ (omega arith) c.three_equal-3.ensures c.if-three_equal-3.true in
    sym (ap separator_as (at_late a.k (drop a.d a.s.now) t u v))

pub returns : goal.returns
returns c =
    let a = c.args in
    let t = test_at a.s.now a.d (a.k + 1) _ _ _ (omega arith) c.three_equal.ensures c.if-three_equal.false in
    let u = test_at a.s.now a.d (a.k + 1 - 1) _ _ _ (omega arith) c.three_equal-2.ensures c.if-three_equal-2.false in
    let v = test_at a.s.now a.d (a.k + 1 + 1) _ _ _ (omega arith) c.three_equal-3.ensures c.if-three_equal-3.false in
    sym (ap separator_as (at_none a.k (drop a.d a.s.now) t u v))
