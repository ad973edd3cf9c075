use mathlib.Core.Path.{sym, ◌∙◌}
use Rattle.code.proofs.laws.Letters.{as_known}
use Rattle.reading.proofs.Fronts.{known_Received}
use Rattle.reading.proofs.read_layout.Goals as goal

pub invariant_of-strand : goal.invariant_of-strand
invariant_of-strand c =
    let l = c.args.letters.now in
    let none = sym c.requires.received.2 ∙ c.if-not-unknown.true in
    record { received = known_Received l none c.requires.received.0; read = sym (as_known l none) }
