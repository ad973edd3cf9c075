use mathlib.Core.Path.{◌≡◌}
use Rattle.code.specs.declared.Edit.TheVariants.{Sub, Del, Ins}
use Rattle.code.specs.declared.Verdict.TheVariants.{Read, Lost}
use Rattle.sheet.proofs.number_of.Goals as goal

pub returns-in-Sub : goal.returns-in-Sub
returns-in-Sub c =
    let e : c.args.v ≡ Read (Sub c.in-Sub.i c.in-Sub.x) = cc in
    rw e c.joined.ensures

pub returns-in-Del : goal.returns-in-Del
returns-in-Del c =
    let e : c.args.v ≡ Read (Del c.in-Del.i c.in-Del.x) = cc in
    rw e c.joined-in-Del.ensures

pub returns-in-Ins : goal.returns-in-Ins
returns-in-Ins c =
    let e : c.args.v ≡ Read (Ins c.in-Ins.i c.in-Ins.x) = cc in
    rw e c.joined-in-Ins.ensures

pub returns-in-Lost : goal.returns-in-Lost
returns-in-Lost c =
    let e : c.args.v ≡ Lost c.in-Lost.step = cc in
    rw e c.joined-in-Lost.ensures
