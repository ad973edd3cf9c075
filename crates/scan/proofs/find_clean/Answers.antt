use mathlib.Core.Path.{◌≡◌, sym, ap, ◌∙◌}
use mathlib.Core.Bool.{true, false}
use Prim.Native.Nat.{◌+◌, ◌-◌, ◌≤◌}
use native.Mathlib.Omega.{arith}
use lib.ListN.{length, take, drop}
use lib.Seq.{drop-drop}
use Rattle.code.specs.Symbols.{as_symbols, has_unknown}
use Rattle.code.proofs.laws.Letters.{as_Below}
use Rattle.scan.specs.declared.Next.TheVariants.{Clean}
use Rattle.scan.proofs.laws.Scans.{clean_known, clean_unknown, unclean, unequal_unclean, repeated_unclean, unseparated_unclean, letter_below}
use Rattle.scan.proofs.Search.{none_whole, Turn-begin, turn_end, Turn-past, Turn-zero, Turn-unclean, Turn-pass, turn_found, unmarked, marked, Compared-begin, Compared-turn, compared_stop, compared_end, size_is, width_small, part_tail, part_width}
use Rattle.scan.proofs.find_clean.Goals as goal

pub overflow_add-from : goal.overflow_add-from
overflow_add-from c = omega (arith, c.size_of-size.ensures, size_is c.args.k, width_small c.args.k (omega arith))

pub returns-then-letters-from : goal.returns-then-letters-from
returns-then-letters-from c = let a = c.args in sym (none_whole a.letters.now a.from a.centre a.k a.wide a.given a.passed (omega (arith, c.size_of-size.ensures, c.if-letters-from.true)))

pub starts-init : goal.starts-init
starts-init c = let a = c.args in rw c.first_at_most-tried.ensures (Turn-begin a.letters.now a.from a.centre a.k a.wide a.given a.passed _ (omega (arith, c.size_of-size.ensures, c.if-letters-from.false)))

pub starts-preserved-then-last-offset : goal.starts-preserved-then-last-offset
starts-preserved-then-last-offset c =
    let a = c.args in
    let o = c.starts in
    Turn-past o.invariant (omega (arith, c.if-wide-tried.false)) c.requires.window.1 (omega (arith, c.moved_by-offset.ensures, c.if-last-offset.true))

pub bounds-letters-at : goal.bounds-letters-at
bounds-letters-at c = omega (arith, c.if-last-offset.false, c.starts.invariant.room, size_is c.args.k)

pub bounds-letters-at-in-starts : goal.bounds-letters-at-in-starts
bounds-letters-at-in-starts c = omega (arith, c.if-last-offset.false, c.starts.invariant.room, size_is c.args.k)

pub starts-preserved-then-mark-letters : goal.starts-preserved-then-mark-letters
starts-preserved-then-mark-letters c =
    let a = c.args in
    let o = c.starts in
    let m = c.moved_by-offset in
    Turn-unclean o.invariant (omega (arith, c.if-wide-tried.false)) c.requires.window.1 m.result m.ensures (λ g. unequal_unclean a.k g _ a.letters.now (a.from + m.result) c.if-mark-letters.true)

pub bounds-letters-at-in-starts-2 : goal.bounds-letters-at-in-starts-2
bounds-letters-at-in-starts-2 c = omega (arith, c.if-last-offset.false, c.starts.invariant.room, size_is c.args.k)

pub starts-preserved-then-mark-letters-2 : goal.starts-preserved-then-mark-letters-2
starts-preserved-then-mark-letters-2 c =
    let a = c.args in
    let o = c.starts in
    let m = c.moved_by-offset in
    Turn-unclean o.invariant (omega (arith, c.if-wide-tried.false)) c.requires.window.1 m.result m.ensures (λ g. repeated_unclean a.k g a.letters.now (a.from + m.result) (omega (arith, c.requires.length.0.0)) (omega (arith, c.if-last-offset.false, o.invariant.room)) c.if-mark-letters-2.true)

pub starts-preserved-then-not-three_equal : goal.starts-preserved-then-not-three_equal
starts-preserved-then-not-three_equal c =
    let a = c.args in
    let o = c.starts in
    let m = c.moved_by-offset in
    Turn-unclean o.invariant (omega (arith, c.if-wide-tried.false)) c.requires.window.1 m.result m.ensures (λ g. unseparated_unclean a.k g a.letters.now (a.from + m.result) (omega (arith, c.if-last-offset.false, o.invariant.room)) (sym c.three_equal.ensures ∙ c.if-not-three_equal.true))

pub starts-preserved-then-offset-eq0 : goal.starts-preserved-then-offset-eq0
starts-preserved-then-offset-eq0 c =
    let a = c.args in
    let o = c.starts in
    let m = c.moved_by-offset in
    Turn-zero o.invariant (omega (arith, c.if-wide-tried.false)) c.requires.window.1 m.result m.ensures c.if-offset-eq0.true

pub marker_stands-requires : goal.marker_stands-requires
marker_stands-requires c =
    let a = c.args in
    let x = c.letter_before-before in
    (rw x.ensures (letter_below a.given (as_symbols a.letters.now) (as_Below a.letters.now) c.requires.length.1 (a.from + c.moved_by-offset.result)), omega (arith, c.if-last-offset.false, c.starts.invariant.room, size_is a.k, c.requires.length.0.0), omega (arith, c.if-last-offset.false, c.starts.invariant.room))

pub starts-preserved-then-not-marker_stands : goal.starts-preserved-then-not-marker_stands
starts-preserved-then-not-marker_stands c =
    let a = c.args in
    let o = c.starts in
    let m = c.moved_by-offset in
    let x = c.letter_before-before in
    let y = c.marker_stands in
    Turn-pass o.invariant (omega (arith, c.if-wide-tried.false)) c.requires.window.1 m.result m.ensures (omega (arith, c.if-offset-eq0.false)) (rw (← x.ensures) (unclean a.k x.result a.letters.now (a.from + m.result) (omega (arith, c.if-last-offset.false, o.invariant.room)) (unmarked a.k x.result a.letters.now (a.from + m.result) y.result y.ensures c.requires.length.0.0 (c.if-not-marker_stands.true))))

pub slice_bounds-has_unknown-end : goal.slice_bounds-has_unknown-end
slice_bounds-has_unknown-end c = omega (arith, c.if-last-offset.false, c.starts.invariant.room, size_is c.args.k)

pub starts-preserved-then-has_unknown : goal.starts-preserved-then-has_unknown
starts-preserved-then-has_unknown c =
    let a = c.args in
    let o = c.starts in
    let m = c.moved_by-offset in
    let l = a.letters.now in
    let at = a.from + m.result in
    let n : at + (2 + a.k) - (at + 2) ≡ a.k = omega arith in
    let e = sym c.has_unknown.ensures ∙ c.if-has_unknown.true in
    let u : has_unknown (take a.k (drop 2 (drop at l))) ≡ true = rw (drop-drop 2 at l) (rw n at e) in
    Turn-pass o.invariant (omega (arith, c.if-wide-tried.false)) c.requires.window.1 m.result m.ensures (omega (arith, c.if-offset-eq0.false)) (clean_unknown a.k _ l at (omega (arith, c.if-last-offset.false, o.invariant.room)) u)

pub loop-j-init : goal.loop-j-init
loop-j-init c =
    let a = c.args in
    let e = c.tail_of-tail in
    let s = a.letters.now in
    let at = a.from + c.moved_by-offset.result in
    let r = c.starts.invariant.room in
    let g = c.if-last-offset.false in
    let room : at + (2 + a.k) ≤ length s = omega (arith, r, g, size_is a.k) in
    let w = part_width s at a.k room e.result e.ensures in
    let l = width_small a.k c.requires.length.0.1 in
    let x = c.letter_before-before in
    let y = c.marker_stands in
    let d = marked a.k x.result s at y.result y.ensures c.requires.length.0.0 (c.if-not-marker_stands.false) e.result (part_tail s at a.k room e.result e.ensures) in
    Compared-begin s e.result (at + (2 + a.k)) _ (omega (arith, w, l)) (omega (arith, r, g, w, size_is a.k)) (rw (← x.ensures) d)

pub overflow_add-j-end : goal.overflow_add-j-end
overflow_add-j-end c =
    let a = c.args in
    let e = c.tail_of-tail in
    let at = a.from + c.moved_by-offset.result in
    let room : at + (2 + a.k) ≤ length a.letters.now = omega (arith, c.starts.invariant.room, c.if-last-offset.false, size_is a.k) in
    omega (arith, part_width a.letters.now at a.k room e.result e.ensures, width_small a.k c.requires.length.0.1)

pub starts-preserved : goal.starts-preserved
starts-preserved c =
    let a = c.args in
    let o = c.starts in
    let m = c.moved_by-offset in
    let s = a.letters.now in
    let at = a.from + m.result in
    let l = c.loop-j in
    let x = c.symbol_in in
    Turn-pass o.invariant (omega (arith, c.if-wide-tried.false)) c.requires.window.1 m.result m.ensures (omega (arith, c.if-offset-eq0.false)) (unclean a.k _ s at (omega (arith, c.if-last-offset.false, o.invariant.room)) (compared_stop s c.tail_of-tail.result (at + (2 + a.k)) _ l.j l.invariant c.loop-j-test.true x.result x.ensures c.if-symbol_in-letters.true))

pub loop-j-preserved : goal.loop-j-preserved
loop-j-preserved c =
    let a = c.args in
    let l = c.loop-j in
    let x = c.symbol_in in
    Compared-turn a.letters.now c.tail_of-tail.result (a.from + c.moved_by-offset.result + (2 + a.k)) _ l.j l.invariant c.loop-j-test.true x.result x.ensures c.if-symbol_in-letters.false

pub returns-then-wide-tried : goal.returns-then-wide-tried
returns-then-wide-tried c = sym (turn_end c.starts.invariant c.if-wide-tried.true)

pub returns-after-loop-j : goal.returns-after-loop-j
returns-after-loop-j c =
    let a = c.args in
    let o = c.starts in
    let m = c.moved_by-offset in
    let l = c.loop-j in
    let s = a.letters.now in
    let at = a.from + m.result in
    let n : at + (2 + a.k) - (at + 2) ≡ a.k = omega arith in
    let e = sym c.has_unknown.ensures ∙ c.if-has_unknown.false in
    let known : has_unknown (take a.k (drop 2 (drop at s))) ≡ false = rw (drop-drop 2 at s) (rw n at e) in
    let stands = clean_known a.k _ s at known ∙ compared_end s c.tail_of-tail.result (at + (2 + a.k)) _ l.j l.invariant (omega arith) in
    ap (λ (x : _). Clean at x a.passed) c.letter_before-before.ensures ∙ sym (turn_found o.invariant (omega (arith, c.if-wide-tried.false)) c.requires.window.1 m.result m.ensures (omega (arith, c.if-offset-eq0.false)) stands)
