use mathlib.Core.Path.{◌≡◌, ap, ◌∙◌}
use Prim.Native.Nat.{ℕ, ◌+◌, ◌*◌}
use Rattle.code.specs.Label.{bytes_bits, length_bits, field, edition_of}
use Rattle.label.proofs.end_of_lengths.Goals.{After-bytes_bits-width, After-length_bits}
use Rattle.label.proofs.end_of_lengths.Goals as goal

pub returns : goal.returns
returns c =
    let label = c.args.bytes.now in
    let w : c.bytes_bits-width.result ≡ bytes_bits (edition_of label) = c.bytes_bits-width.ensures ∙ ap bytes_bits c.requires.1 in
    let v : c.length_bits.result ≡ length_bits (edition_of label) = c.length_bits.ensures ∙ ap length_bits c.requires.1 in
    let n : c.number_at-count.result ≡ field (4 + bytes_bits (edition_of label)) 7 label = c.number_at-count.ensures ∙ ap (λ (w : ℕ). field (4 + w) 7 label) w in
    λ i. 11 + w i + v i * n i
