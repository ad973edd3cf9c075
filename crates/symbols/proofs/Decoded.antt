-- Decoded letters, at the front of an array.
--   decoded_inside, decoded_front   where they stand
--   decoded_unknown                 whether an N is among them
--   decoded_length                  how many there are
use mathlib.Core.Path.{◌≡◌, ap, ◌∙◌}
use mathlib.Core.Bool.{Bool}
use mathlib.Core.List.{List, ◌++◌}
use Prim.Native.Nat.{ℕ, ◌≤◌}
use native.Mathlib.Omega.{arith}
use lib.ListN.{length, take, length-append}
use lib.Seq.{take_at}
use Rattle.code.specs.declared.Decoded.TheVariants as D
use Rattle.code.specs.Symbols.{legible, decoded, has_unknown}
use Rattle.code.proofs.laws.Symbols.{whole_length, whole_unknown}

module _ (a cs r : List ℕ) (b : Bool) (e : a ≡ legible cs ++ r) (w : decoded cs ≡ D.Whole b) where
  pub decoded_inside : length cs ≤ length a
  decoded_inside = rw e (simp length-append (omega (arith, whole_length cs b w)))

  pub decoded_front : take (length cs) a ≡ legible cs
  decoded_front = rw e (take_at (legible cs) r (length cs) (whole_length cs b w))

  pub decoded_unknown : has_unknown (take (length cs) a) ≡ b
  decoded_unknown = rw decoded_front (whole_unknown cs b w)

  pub decoded_length : length (take (length cs) a) ≡ length cs
  decoded_length = ap length decoded_front ∙ whole_length cs b w
