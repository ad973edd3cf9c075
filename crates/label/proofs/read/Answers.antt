use Rattle.std.proofs.Common.{rules, ◌∙◌, sym}
use Rattle.code.specs.Label.{edition_of}
use Rattle.label.proofs.Calls.{read_unknown}
use Rattle.label.proofs.Numbers.{unlisted, no_first}
use Rattle.label.proofs.read.Goals as goal

pub returns-in_err-edition : goal.returns-in_err-edition
returns-in_err-edition c =
    let label = c.args.bytes.now in
    let none = c.in_err-edition.ensures in
    let e = read_unknown label (sym c.is_short.ensures ∙ c.if-is_short.false) (unlisted (edition_of label) none.1) (no_first (edition_of label) none.1) in
    rw (e, ← none.0) (search rules)
