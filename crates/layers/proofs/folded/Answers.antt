use native.Mathlib.Omega.{arith}
use Rattle.layers.proofs.Folds.{folded_ones, folded_places}
use Rattle.layers.proofs.folded.Goals as goal

pub returns : goal.returns
returns c =
    let o = folded_ones c.args.ones c.args.behind (omega arith) (omega arith) in
    let p = folded_places c.args.ones c.args.behind (omega arith) (omega arith) in
    λ i. record { ones = o i; places = p i }
