-- How many letters the strand of an order within the limits has, written and received.
--   width_line    t grows slowly with k
--   extent_line   so does the strand with its symbols and segments
--   extent_most   the written strand has at most 2,874 letters
--   readable      one that keeps the one-edit conditions has at most 2,938, and no foreign letter
use Rattle.std.specs.Prelude.{◌≡◌, refl, Bool, true, false, List, [], ◌∷◌, map, ℕ, zero, suc, ◌+◌, ◌*◌, ◌^◌, ◌≤◌, ◌<◌, length}
use Rattle.std.proofs.Common.{ap, ◌∙◌, lt_of_not-le, arith, length-append, length-take, length-drop, length-set, pow_mono}
use Rattle.std.proofs.Math.Nat.{pow-succ'}
use Rattle.code.specs.declared.Edit.{Edit}
use Rattle.code.specs.declared.Edit.TheVariants.{None, Sub, Del, Ins}
use Rattle.code.specs.declared.Decoded.TheVariants as D
use Rattle.code.specs.Symbols.{Below, letter_kinds, symbols, letters, decoded, has_unknown}
use Rattle.code.proofs.laws.Symbols.{symbols-Below, length-symbols, decoded-letters}
use Rattle.code.proofs.laws.Below.{Below-append}
use Rattle.code.specs.Layers.{width}
use Rattle.code.proofs.laws.Layers.{width-Least}
use Rattle.code.specs.Segment.{segment, last_of, size}
use Rattle.code.proofs.laws.Segment.{length-segment, segment-Below}
use Rattle.code.specs.Layout.{sum, cut, extent, Lengths, done, more}
use Rattle.code.proofs.laws.Layout.{Each, none, both, cut_lengths, length-cut, cut-Below}
use Rattle.code.specs.Limits.{most_length, most_segments, most_written}
use Rattle.code.specs.Order.{Order}
use Rattle.code.proofs.laws.Order.{Ordered}
use Rattle.code.specs.Edits.{applied, Fits}
use Rattle.code.proofs.laws.EditedBlock.{Below-set, Below-leave, Below-put}
use Rattle.code.specs.Conditions.{received, Allowed, OneEdit}

-- an edit adds one letter at most
applied-length : (e : Edit) (w : List ℕ) → length (applied e w) ≤ suc (length w)
applied-length None w = omega arith
applied-length (Sub i x) w = simp length-set (omega arith)
applied-length (Del i x) w = simp (length-append, length-take, length-drop) (omega arith)
applied-length (Ins i x) w = simp (length-append, length-take, length-drop) (omega arith)

pub applied-Below : (q : ℕ) (e : Edit) (w : List ℕ) → Fits q e (length w) → Below q w → Below q (applied e w)
applied-Below q None w f h = h
applied-Below q (Sub i x) w f h = Below-set i x w f.1 h
applied-Below q (Del i x) w f h = Below-leave i w h
applied-Below q (Ins i x) w f h = Below-put i x w f.1 h

received-length : (marked : Bool) (f : ℕ) (ms : List (List ℕ)) (es : List Edit) → length (received marked f ms es) ≤ extent marked (map length ms) + length ms
unfolding received extent
received-length marked f [] es = omega arith
received-length marked f (m ∷ ms) [] = omega arith
received-length marked f (m ∷ ms) (e ∷ es) = simp length-append (omega (arith, applied-length e (segment marked f m), length-segment marked f m, received-length true (last_of m) ms es))

received-Below : (marked : Bool) (f : ℕ) (ms : List (List ℕ)) (es : List Edit) → Each (Below 4) ms → Allowed marked f ms es → Below letter_kinds (received marked f ms es)
unfolding received
received-Below marked f [] es none h = λ i. omega arith
received-Below marked f (m ∷ ms) [] (both b bs) h = absurd h
received-Below marked f (m ∷ ms) (e ∷ es) (both b bs) h =
    Below-append (applied e (segment marked f m)) (received true (last_of m) ms es) (applied-Below letter_kinds e (segment marked f m) h.0 (λ i. omega (arith, segment-Below marked f m b i)))
    (received-Below true (last_of m) ms es bs h.2)

-- a power of two is above a line
power_line : (j : ℕ) → 16 * j ≤ 2 ^ j + 48
power_line zero = omega arith
power_line (suc zero) = omega arith
power_line (suc (suc zero)) = omega arith
power_line (suc (suc (suc zero))) = omega arith
power_line (suc (suc (suc (suc zero)))) = omega arith
power_line (suc (suc (suc (suc (suc j))))) =
    let n = suc (suc (suc (suc j))) in
    let sixteen : 2 ^ 4 ≤ 2 ^ n = pow_mono {i = 4} {j = n} (omega arith) in
    omega (arith, power_line (suc (suc (suc (suc j)))), pow-succ' 2 n, sixteen)

-- t grows slowly: 16t is at most k + 79
width_line : (k : ℕ) → 2 ≤ k → 16 * width k ≤ k + 79
width_line k h = go (width k) refl
  where
    go : (t : ℕ) → width k ≡ t → 16 * width k ≤ k + 79
    go zero e = omega arith
    go (suc zero) e = omega arith
    go (suc (suc j)) e =
        let p : 2 ^ suc j < 2 * k = lt_of_not-le (λ q. omega (arith, (width-Least k).least (suc j) q)) in
        omega (arith, power_line j, p, pow-succ' 2 j)

-- the segments of a layout, each with a marker
pub extent_line : {most : ℕ} (ks : List ℕ) → Lengths most ks → 16 * extent true ks ≤ 17 * sum ks + 175 * length ks
unfolding extent sum size
extent_line [] done = omega arith
extent_line (k ∷ ks) (more h m hs) = omega (arith, extent_line ks hs, width_line k h)

-- the strand of an order that is taken has at most `most_written` letters
pub extent_most : (o : Order) (other : Bool) → Ordered o other → extent false o.lengths ≤ most_written
unfolding extent sum size
extent_most o other h = go o.lengths h.lengths h.some_segments h.segments_fit h.whole
  where
    go : (ks : List ℕ) → Lengths most_length ks → 1 ≤ length ks → length ks ≤ most_segments → sum ks ≡ 4 * o.b → extent false ks ≤ most_written
    go [] hs some most whole = absurd (omega arith)
    go (k ∷ ks) hs some most whole = omega (arith, extent_line (k ∷ ks) hs, h.bytes_fit)

-- what a strand that keeps the conditions is, for an order within the limits
pub record Readable (s : List ℕ) : Type 0 where
  pub short : length s ≤ most_written + most_segments
  pub small : Below letter_kinds s
  pub no_foreign : decoded (letters s) ≡ D.Whole (has_unknown s)

pub readable : (o : Order) (other : Bool) (bs s : List ℕ) → Ordered o other → length bs ≡ o.b → OneEdit (cut o.lengths (symbols bs)) s → Readable s
readable o other bs s h n e =
    let ks = o.lengths in
    let x = symbols bs in
    let l : length x ≡ sum ks = length-symbols bs ∙ omega (arith, n, h.whole) in
    let w = received-length false 0 (cut ks x) e.edits in
    let c = cut_lengths ks x l in
    let r : length (received false 0 (cut ks x) e.edits) ≤ extent false ks + length ks = omega (arith, w, ap (extent false) c, length-cut ks x) in
    let d : Below letter_kinds s = rw e.stretches at (received-Below false 0 (cut ks x) e.edits (cut-Below ks x (symbols-Below bs)) e.allowed) in
    record { short = omega (arith, r, extent_most o other h, h.segments_fit, ap length e.stretches); small = d; no_foreign = decoded-letters s d }
