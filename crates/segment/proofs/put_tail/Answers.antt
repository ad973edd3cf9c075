use mathlib.Core.Path.{refl, ap, ◌∙◌}
use mathlib.Core.List.{List, [], ◌∷◌}
use Prim.Native.Nat.{ℕ, ◌+◌}
use native.Mathlib.Omega.{arith}
use Rattle.code.specs.Buffers.{put_at}
use Rattle.tail.specs.Tails.{syndrome_in}
use Rattle.tail.proofs.Tails.{tail_parts}
use Rattle.copying.proofs.Blocks.{put_both}
use Rattle.segment.proofs.put_tail.Goals as goal

pub returns : goal.returns
returns c =
    let a = c.args in
    let t = a.tail in
    c.put_pairs.ensures
    ∙ (ap (λ (l : List ℕ). put_at l (a.at + 4) (syndrome_in t)) c.put.ensures ∙ (put_both a.out.now (t.check ∷ t.separator ∷ t.separator ∷ t.separator ∷ []) (syndrome_in t) a.at (a.at + 4) refl (omega arith) ∙ ap (put_at a.out.now a.at) (tail_parts t)))
