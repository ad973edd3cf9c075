use mathlib.Core.Path.{◌∙◌}
use borrow.Author.Tests.{ne_eqb}
use Rattle.clean.proofs.Syndromes.{part_few, high_differs, low_decides}
use Rattle.clean.proofs.syndrome_stands.Goals as goal

pub numbers-written-requires : goal.numbers-written-requires
numbers-written-requires c = let a = c.args in part_few a.s.now a.d a.to a.end c.requires.placed.0 c.requires.placed.1 c.requires.placed.2 c.requires.placed.3 c.requires.received.symbols

pub returns-else-written-own : goal.returns-else-written-own
returns-else-written-own c =
    let a = c.args in
    let n = c.numbers-written in
    let y = c.syndromes-own in
    ne_eqb _ _ c.if-written-own.false ∙ high_differs a.s.now a.d a.to a.end c.requires.placed.0 c.requires.placed.1 c.requires.placed.2 c.requires.placed.3 c.requires.received.symbols n.result y.result n.ensures y.ensures c.if-written-own.false

pub returns-then-written-own : goal.returns-then-written-own
returns-then-written-own c =
    let a = c.args in
    let n = c.numbers-written in
    let y = c.syndromes-own in
    low_decides a.s.now a.d a.to a.end c.requires.placed.0 c.requires.placed.1 c.requires.placed.2 c.requires.placed.3 c.requires.received.symbols n.result y.result n.ensures y.ensures c.if-written-own.true
