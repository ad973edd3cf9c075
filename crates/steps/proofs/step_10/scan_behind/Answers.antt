use native.Mathlib.Omega.{arith}
use Rattle.code.proofs.laws.Letters.{as_length}
use Rattle.steps.proofs.Step10.{size_marked, Sought-begin, sought_end, sought_past, sought_small, sought_found, Sought-on}
use Rattle.steps.proofs.step_10.scan_behind.Goals as goal

pub loop-passed-init : goal.loop-passed-init
loop-passed-init c =
    let a = c.args in
    Sought-begin a.strand.now a.start a.k a.rest.now c.requires _ c.size_of-centre.ensures

-- all that is left to try has no room
pub returns-then-strand-wide : goal.returns-then-strand-wide
returns-then-strand-wide c = let both = sought_past c.loop-passed.invariant c.requires c.if-strand-wide.true in record { start = both.0; known = both.1 }

pub find_clean-next-requires : goal.find_clean-next-requires
find_clean-next-requires c =
    let i = c.loop-passed.invariant in
    let n = as_length _ _ c.args.strand.now.read in
    record { received = omega (arith, n, c.args.strand.now.received.short); window = (omega (arith, n, c.requires.inside), omega (arith, i.far), omega (arith, i.near, i.far, c.if-strand-wide.false, n, c.args.strand.now.received.short)); length = (sought_small i c.requires c.loop-passed-test.true, omega arith) }

pub size_of-centre-requires-in-loop-passed : goal.size_of-centre-requires-in-loop-passed
size_of-centre-requires-in-loop-passed c = let e = sought_small c.loop-passed.invariant c.requires c.loop-passed-test.true in (omega (arith, e.0, c.requires.message.0), omega (arith, e.1, c.requires.message.1))

pub overflow_add-centre : goal.overflow_add-centre
overflow_add-centre c =
    let e = sought_small c.loop-passed.invariant c.requires c.loop-passed-test.true in
    omega (arith, c.loop-passed.invariant.near, c.size_of-centre-in-loop-passed.ensures, (size_marked _ e).1, (size_marked c.args.k c.requires.message).1)

-- it stands
pub returns-in-Clean : goal.returns-in-Clean
returns-in-Clean c =
    let r = c.find_clean-next in
    let both = sought_found c.loop-passed.invariant c.requires c.loop-passed-test.true r.result r.ensures _ _ _ c.in-Clean.is in
    record { start = both.0; known = both.1 }

-- it does not
pub loop-passed-preserved : goal.loop-passed-preserved
loop-passed-preserved c =
    let r = c.find_clean-next in
    Sought-on c.loop-passed.invariant c.requires c.loop-passed-test.true r.result r.ensures c.in_default.not-Clean (omega (arith, c.if-strand-wide.false, c.args.strand.now.received.short, as_length _ _ c.args.strand.now.read)) _ c.size_of-centre-in-loop-passed.ensures

pub returns : goal.returns
returns c = let both = sought_end c.loop-passed.invariant c.requires (omega (arith, c.loop-passed-test.false)) in record { start = both.0; known = both.1 }
