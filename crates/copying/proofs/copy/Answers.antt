use mathlib.Core.Path.{◌≡◌, ap, ◌∙◌}
use Prim.Native.Nat.{ℕ, ◌+◌, ◌-◌}
use native.Mathlib.Omega.{arith}
use lib.ListN.{length, take, drop, length-drop}
use lib.Seq.{length-take-le}
use Rattle.copying.proofs.Blocks.{put_whole}
use Rattle.copying.proofs.copy.Goals as goal

pub returns : goal.returns
returns c =
    let a = c.args in
    let n = length a.out.now in
    let part = drop a.from a.s.now in
    let e : a.from + n - a.from ≡ n = omega arith in
    c.put.ensures ∙ (put_whole a.out.now (take (a.from + n - a.from) part) (rw e (length-take-le n part (simp length-drop (omega arith)))) ∙ ap (λ (i : ℕ). take i part) e)
