use mathlib.Core.Path.{◌≡◌, ◌∙◌}
use mathlib.Core.List.{List}
use Prim.Native.Nat.{ℕ, ◌+◌, ◌≤◌}
use native.Mathlib.Omega.{arith}
use lib.ListN.{length, take, drop, length-drop}
use lib.Seq.{length-take-le}
use Rattle.code.specs.Symbols.{Below}
use Rattle.code.proofs.laws.Below.{Below-take, Below-drop}
use Rattle.places.specs.Words.{word_of}
use Rattle.places.proofs.Bytes.{bytes_Below}
use Rattle.layers.specs.SideBySide.{bytes_of}
use Rattle.layers.proofs.Columns.{bytes_word}
use Rattle.layers.proofs.row_at.Goals as goal

-- the four bytes of the word of four
four_bytes : (s : List ℕ) (i : ℕ) → i + 4 ≤ length s → Below 256 s → bytes_of 4 (word_of (take 4 (drop i s))) ≡ take 4 (drop i s)
four_bytes s i h b =
    let e : length (take 4 (drop i s)) ≡ 4 = length-take-le 4 (drop i s) (simp length-drop (omega arith)) in
    rw e at (bytes_word (take 4 (drop i s)) (Below-take 4 (drop i s) (Below-drop i s b)))

pub returns : goal.returns
returns c =
    let a = c.args in
    let e = four_bytes a.symbols.now a.i c.requires (bytes_Below a.symbols.now c.shared_slice_known-1.given) in
    c.layer_bits.ensures ∙ rw (c.from.ensures, c.four_at.ensures, e)
