use mathlib.Core.Path.{◌≡◌}
use Prim.Native.Nat.{◌+◌, ◌-◌, ◌*◌}
use lib.ListN.{length, take, drop}
use Rattle.code.specs.Buffers.{put_at}
use Rattle.copying.proofs.put.Given as goal

-- the first i eights of the block are put
abbrev pub invariant-loop-i : goal.invariant-loop-i
invariant-loop-i l = (length l.out ≡ length l.initial.out) × (l.out ≡ put_at l.initial.out l.at (take (8 * l.i) l.block))

-- the symbols up to i are put behind the eights
abbrev pub invariant-loop-i-2 : goal.invariant-loop-i-2
invariant-loop-i-2 l = (length l.out ≡ length l.initial.out) × (l.out ≡ put_at l.initial.out (l.at + 8 * l.eights) (take (l.i - 8 * l.eights) (drop (8 * l.eights) l.block)))
