use native.Mathlib.Omega.{arith}
use Rattle.reading.proofs.Fronts.{front_symbols, front_Received}
use Rattle.reading.proofs.read_beside.Goals as goal

pub invariant_of-strand : goal.invariant_of-strand
invariant_of-strand g c =
    let l = c.args.letters.now in
    record { received = front_Received l _ _ c.as_symbols.ensures (omega (arith, c.requires.room)); read = front_symbols l _ _ c.as_symbols.ensures }
