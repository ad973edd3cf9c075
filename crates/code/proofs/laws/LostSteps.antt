-- The steps that lose a message have numbers from 1 to 15.
--   KnownStep             a message, or a step with such a number
--   read_message_stepped  what steps 3 to 7 give
use Rattle.std.specs.Prelude.{Bool, true, false, cond, List, ℕ, ◌<◌, ltb, length, take, drop}
use Rattle.std.proofs.Math.Option.{Option, some, none}
use Rattle.std.proofs.Common.{arith}
use Rattle.code.specs.declared.Link.{Link}
use Rattle.code.specs.Layers.{Word, layer, width, number}
use Rattle.code.specs.Repair.{repair}
use Rattle.code.specs.Segment.{data_at}
use Rattle.code.specs.Reading.{Shift, moved, whole, separator_at, after_separator, check_agrees, MessageResult, message, lost, both_layers, repaired, link_of, taken, message_at, message_without, read_whole, read_hit, read_message}

-- the step is neither 0 nor above 15
abbrev pub KnownStep : MessageResult → Type 0
KnownStep (message m) = Unit {0}
KnownStep (lost step) = (0 < step) × (step < 16)

either : (b : Bool) (x y : MessageResult) → KnownStep x → KnownStep y → KnownStep (cond b x y)
either true x y h l = h
either false x y h l = l

both_stepped : (h l : Option Word) → KnownStep (both_layers h l)
both_stepped (some h) (some l) = tt
both_stepped (some h) none = (omega arith, omega arith)
both_stepped none (some l) = (omega arith, omega arith)
both_stepped none none = (omega arith, omega arith)

repaired_stepped : (l : Link) (t : ℕ) (r w : List ℕ) → KnownStep (repaired l t r w)
unfolding repaired
repaired_stepped l t r w =
    let h = repair l (number (layer 1 (take t w))) (layer 1 r) in
    let o = repair l (number (layer 0 (take t w))) (layer 0 r) in
    either (ltb (length w) t) (lost 7) (both_layers h o) (omega arith, omega arith) (both_stepped h o)

whole_stepped : (k : ℕ) (d : List ℕ) (o : Option Shift) → KnownStep (read_whole k d o)
unfolding message_at message_without
whole_stepped k d (some j) =
    let x = repaired (link_of j) (width k) (take (moved j k) d) (after_separator j k d) in
    either (taken j k d (take k d)) (message (take k d)) x tt (repaired_stepped (link_of j) (width k) (take (moved j k) d) (after_separator j k d))
whole_stepped k d none = either (check_agrees k d (take k d)) (message (take k d)) (lost 6) tt (omega arith, omega arith)

hit_stepped : (k : ℕ) (s : List ℕ) (o : Option Shift) → KnownStep (read_hit k s o)
hit_stepped k s (some j) = tt
hit_stepped k s none = (omega arith, omega arith)

-- the message of steps 3 to 7, or the step that loses it
pub read_message_stepped : (marked : Bool) (k : ℕ) (s : List ℕ) → KnownStep (read_message marked k s)
unfolding read_message
read_message_stepped marked k s =
    let d = drop (data_at marked) s in
    either (whole marked s) (read_whole k d (separator_at k d)) (read_hit k s (separator_at k d)) (whole_stepped k d (separator_at k d)) (hit_stepped k s (separator_at k d))
