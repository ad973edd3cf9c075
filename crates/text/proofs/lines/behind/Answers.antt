use mathlib.Core.Path.{◌≡◌, sym, ◌∙◌}
use Prim.Native.Nat.{suc, ◌+◌, ◌-◌}
use native.Mathlib.Omega.{arith}
use lib.ListN.{length, drop, length-drop, drop_of_length-le}
use lib.Seq.{take_all}
use Rattle.text.specs.Lines.{line_length}
use Rattle.text.proofs.laws.Lines.{drop_line}
use Rattle.text.proofs.lines.behind.Goals as goal

pub returns-then-end-text : goal.returns-then-end-text
returns-then-end-text c =
    let s = c.args.text.now in
    let e : c.line_length-end.result + 1 ≡ suc (line_length s) = omega arith in
    rw e (take_all (length s - suc (line_length s)) (drop (suc (line_length s)) s) (simp length-drop (omega arith)) ∙ drop_line s)

pub returns-else-end-text : goal.returns-else-end-text
returns-else-end-text c = let s = c.args.text.now in sym (drop_of_length-le s {i = suc (line_length s)} (omega arith)) ∙ drop_line s
