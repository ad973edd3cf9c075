use mathlib.Core.Path.{◌≡◌, sym, ap, ◌∙◌}
use Prim.Native.Nat.{ℕ, ◌+◌}
use native.Mathlib.Omega.{arith}
use lib.ListN.{length}
use Rattle.code.proofs.laws.Layers.{width-Least}
use Rattle.code.specs.Segment.{size}
use Rattle.clean.specs.Clean.{may_end}
use Rattle.clean.proofs.Segment.{size_data, stands_not, ends_not, stands_there, too_short, marker_fails, tail_decides, from_to}
use Rattle.clean.proofs.is_clean.Goals as goal

pub overflow_add-end : goal.overflow_add-end
overflow_add-end c = omega (arith, c.width_of.ensures, (width-Least c.args.k).least 16 (omega arith))

pub overflow_add-end-2 : goal.overflow_add-end-2
overflow_add-end-2 c = omega (arith, c.width_of.ensures, (width-Least c.args.k).least 16 (omega arith))

pub returns-then-s-end : goal.returns-then-s-end
returns-then-s-end c =
    let a = c.args in
    stands_not a.marked a.f a.k a.rest.now a.p a.s.now (too_short a.marked a.f a.k a.rest.now a.p a.s.now (omega (arith, c.if-s-end.true, c.width_of.ensures, size_data a.marked a.k, c.requires.placed.2)) (omega (arith, c.requires.placed.2, c.requires.placed.3)))

pub returns-then-not-may_end : goal.returns-then-not-may_end
returns-then-not-may_end c =
    let a = c.args in
    let e : a.d + a.k + (4 + c.width_of.result) ≡ a.p + size a.marked a.k = omega (arith, c.width_of.ensures, size_data a.marked a.k, c.requires.placed.2) in
    ends_not a.marked a.f a.k a.rest.now a.p a.s.now (ap (λ (i : ℕ). may_end a.rest.now i (length a.s.now)) (sym e) ∙ (sym c.may_end.ensures ∙ c.if-not-may_end.true))

pub returns-then-not-marker_stands : goal.returns-then-not-marker_stands
returns-then-not-marker_stands c =
    let a = c.args in
    stands_not a.marked a.f a.k a.rest.now a.p a.s.now (marker_fails a.marked a.f a.k a.rest.now a.p a.s.now a.d c.requires.placed.2 c.requires.placed.1.0 (sym c.marker_stands.ensures ∙ c.if-not-marker_stands.true))

pub returns : goal.returns
returns c =
    let a = c.args in
    let w = c.width_of in
    let e : a.d + a.k + (4 + w.result) ≡ a.p + size a.marked a.k = omega (arith, w.ensures, size_data a.marked a.k, c.requires.placed.2) in
    let m = sym c.marker_stands.ensures ∙ c.if-not-marker_stands.false in
    let t = c.tail_stands in
    let may = ap (λ (i : ℕ). may_end a.rest.now i (length a.s.now)) (sym e) ∙ (sym c.may_end.ensures ∙ c.if-not-may_end.false) in
    stands_there a.marked a.f a.k a.rest.now a.p a.s.now may t.result (tail_decides a.marked a.f a.k a.rest.now a.p a.s.now a.d c.requires.placed.2 c.requires.placed.1.0 m t.result (from_to a.d a.k a.s.now t.result t.ensures))
