-- A word written as bytes.
--   put_call   what that answers, and the lent buffer afterwards
use Rattle.std.specs.Prelude.{Result, Ok, Err, List, ℕ, ltb, length}
use Rattle.code.specs.declared.Refusal.{Refusal}
use Rattle.code.specs.declared.Refusal.TheVariants.{ShortBuffer}
use Rattle.code.specs.Layers.{Word}
use Rattle.code.specs.Refusals.{refuse, unless_refused}
use Rattle.code.specs.Buffers.{over_front}
use Rattle.code.specs.Label.{in_bytes}

-- what writing a word as bytes to a buffer answers, and the buffer afterwards: unchanged where it is too short
abbrev pub put_call : Word → List ℕ → Result ℕ Refusal × List ℕ
put_call w out =
    unless_refused (refuse (ltb (length out) (length (in_bytes w))) ShortBuffer (Ok tt))
    (Ok (length (in_bytes w)), over_front (in_bytes w) out)
    (λ r. (Err r, out))
