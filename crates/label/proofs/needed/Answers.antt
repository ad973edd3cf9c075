use native.Mathlib.Omega.{arith}
use Rattle.code.specs.Label.{edition_of}
use Rattle.code.proofs.laws.Label.{end_most}
use Rattle.label.proofs.Numbers.{unlisted}
use Rattle.label.proofs.needed.Goals as goal

pub overflow_add-result : goal.overflow_add-result
overflow_add-result c = omega (arith, c.end_of_lengths.ensures, end_most c.args.bytes.now)

pub returns-in_default-2 : goal.returns-in_default-2
returns-in_default-2 c = rw (unlisted (edition_of c.args.bytes.now) c.in_default.ensures.1)
