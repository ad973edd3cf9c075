-- What the writer tests, answers and writes (SPECIFICATION.md, tables 5 and 6).
--   strand_of    the letters of the strand that carries some bytes
--   write_test   the tests 1, 2, 3 and 5
--   write_call   the writer's answer, and the lent buffer afterwards
use Rattle.std.specs.Prelude.{Result, Ok, Err, false, not, List, ℕ, eqb, ltb, length}
use Rattle.code.specs.declared.Refusal.{Refusal}
use Rattle.code.specs.declared.Refusal.TheVariants.{ShortBuffer}
use Rattle.code.specs.Symbols.{letters, symbols}
use Rattle.code.specs.Layout.{cut, strand, extent}
use Rattle.code.specs.Refusals.{refuse, unless_refused}
use Rattle.code.specs.Order.{Order, order_test}
use Rattle.code.specs.Buffers.{over_front}

-- the letters of the strand that carries bytes on a layout
unfoldable pub strand_of : List ℕ → List ℕ → List ℕ
strand_of ks bs = letters (strand (cut ks (symbols bs)))

-- the tests of a writing: bytes bs for an order, and a buffer of n bytes
abbrev pub write_test : Order → List ℕ → ℕ → Result (Unit {0}) Refusal
write_test o bs n = order_test o (not (eqb (length bs) o.b)) (refuse (ltb n (extent false o.lengths)) ShortBuffer (Ok tt))

-- what writing bytes bs for an order to a buffer answers, and the buffer afterwards: unchanged where it is refused
abbrev pub write_call : Order → List ℕ → List ℕ → Result ℕ Refusal × List ℕ
write_call o bs out =
    unless_refused (write_test o bs (length out))
    (Ok (extent false o.lengths), over_front (strand_of o.lengths bs) out)
    (λ r. (Err r, out))
