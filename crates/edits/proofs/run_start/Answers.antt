use mathlib.Core.Path.{sym, ◌∙◌}
use native.Mathlib.Omega.{arith}
use lib.ListN.{get_or}
use Rattle.edits.proofs.SharedFront.{run_turn, run_stop, run_end}
use Rattle.edits.proofs.run_start.Goals as goal

pub returns-then-w-p : goal.returns-then-w-p
returns-then-w-p c =
    let l = c.loop-p in
    (omega (arith, l.invariant, run_stop c.args.w.now _ l.p (omega arith) c.if-w-p.true), omega arith)

pub loop-p-preserved : goal.loop-p-preserved
loop-p-preserved c =
    let l = c.loop-p in
    sym (run_turn c.args.w.now _ l.p (omega arith) c.if-w-p.false) ∙ l.invariant

pub returns : goal.returns
returns c =
    let l = c.loop-p in
    (omega (arith, l.invariant, run_end c.args.w.now (get_or c.args.w.now c.args.i 0) l.p (omega arith)), omega arith)
