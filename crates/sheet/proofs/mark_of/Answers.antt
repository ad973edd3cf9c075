use Prim.Native.Nat.{◌/◌, ◌%◌}
use Rattle.sheet.proofs.VerdictNumbers.{mask_kind, kind_mark}
use Rattle.sheet.proofs.mark_of.Goals as goal

pub returns : goal.returns
returns c = let n = c.args.n in rw (c.from.ensures, c.from-2.ensures, mask_kind n) (kind_mark (n % 8) (n / 8 % 16) (n / 128))
