use mathlib.Core.Path.{◌≡◌, sym, ap, ◌∙◌}
use Prim.Native.Nat.{ℕ, ◌+◌, ◌*◌, ◌≤◌}
use native.Mathlib.Omega.{arith}
use lib.ListN.{length, drop, take}
use Rattle.std.proofs.lemmas.List.{length-take-le}
use Rattle.code.specs.Label.{in_bits, from_bits, bytes_for, spare, bytes_bits, length_bits, field, edition_of, lists, bytes_in, count_in, end_of_lengths, lengths_in}
use Rattle.code.proofs.laws.Bits.{number_least}
use Rattle.code.proofs.laws.Label.{widths, end_most}
use Rattle.label.specs.Editions.{edition_number}
use Rattle.label.proofs.Calls.{listing_room, read_equal, read_listed}
use Rattle.label.proofs.read_listing.Goals.{After-bytes_bits-wide, After-end_of_lengths-end, After-length_bits, After-listed-all, After-number_at, After-number_at-n}
use Rattle.label.proofs.read_listing.Goals as goal

-- how many bits B has
wide : (c : After-bytes_bits-wide) → c.bytes_bits-wide.result ≡ bytes_bits (edition_of c.args.bytes.now)
wide c = c.bytes_bits-wide.ensures ∙ ap bytes_bits c.requires.edition.0

-- how many lengths there are
count : (c : After-number_at-n) → c.number_at-n.result ≡ count_in c.args.bytes.now
count c = c.number_at-n.ensures ∙ ap (λ (w : ℕ). field (4 + w) 7 c.args.bytes.now) (c.bytes_bits-wide.ensures ∙ ap bytes_bits c.requires.edition.0)

few : (c : After-number_at-n) → c.number_at-n.result ≤ 127
few c = omega (arith, c.number_at-n.ensures, number_least 7 (drop (4 + c.bytes_bits-wide.result) (in_bits 8 c.args.bytes.now)))

-- where they end
room : (c : After-end_of_lengths-end) → (8 * bytes_for c.end_of_lengths-end.result ≤ 8 * length c.args.bytes.now) × (c.end_of_lengths-end.result ≤ 1164)
room c =
    (omega (arith, listing_room c.args.bytes.now c.requires.needed (ap lists (sym c.requires.edition.0) ∙ c.requires.edition.1), c.end_of_lengths-end.ensures), omega (arith, c.end_of_lengths-end.ensures, end_most c.args.bytes.now))

-- the bits behind the last length
behind : (c : After-number_at) → let label = c.args.bytes.now in c.number_at.result ≡ field (end_of_lengths label) (spare (end_of_lengths label)) label
behind c = c.number_at.ensures ∙ ap (λ (n : ℕ). field n (spare n) c.args.bytes.now) c.end_of_lengths-end.ensures

-- how many bits a length has
narrow : (c : After-length_bits) → c.length_bits.result ≡ length_bits (edition_of c.args.bytes.now)
narrow c = c.length_bits.ensures ∙ ap length_bits c.requires.edition.0

-- the part that holds the lengths
part : (c : After-listed-all) → take (c.number_at-n.result) c.listed-all.result ≡ lengths_in c.args.bytes.now
part c =
    let label = c.args.bytes.now in
    c.listed-all.ensures.0
    ∙ (λ i. from_bits ((c.length_bits.ensures ∙ ap length_bits c.requires.edition.0) i) ((c.number_at-n.ensures ∙ ap (λ (w : ℕ). field (4 + w) 7 c.args.bytes.now) (c.bytes_bits-wide.ensures ∙ ap bytes_bits c.requires.edition.0)) i) (drop (11 + (c.bytes_bits-wide.ensures ∙ ap bytes_bits c.requires.edition.0) i) (in_bits 8 label)))

pub listed-all-requires : goal.listed-all-requires
listed-all-requires c =
    let label = c.args.bytes.now in
    let w = widths (edition_number c.args.edition) in
    let e : 11 + c.bytes_bits-wide.result + c.length_bits.result * c.number_at-n.result ≡ end_of_lengths label =
    (λ i. 11 + wide (goal.at.listed-all-requires c).After-bytes_bits-wide i + narrow c i * count (goal.at.listed-all-requires c).After-number_at-n i) in
    let r = room (goal.at.listed-all-requires c).After-end_of_lengths-end in
    (few (goal.at.listed-all-requires c).After-number_at-n, omega (arith, c.bytes_bits-wide.ensures, w.bytes_most), omega (arith, c.length_bits.ensures, w.length_most), omega (arith, e, r.0, c.end_of_lengths-end.ensures))

pub slice_bounds-all-end : goal.slice_bounds-all-end
slice_bounds-all-end c = omega (arith, few (goal.at.slice_bounds-all-end c).After-number_at-n, c.listed-all.ensures.1)

pub slice_bounds-lengths-end : goal.slice_bounds-lengths-end
slice_bounds-lengths-end c = sym (length-take-le c.number_at-n.result c.listed-all.result (omega (arith, few (goal.at.slice_bounds-lengths-end c).After-number_at-n, c.listed-all.ensures.1)))

pub returns-then-is_misplaced : goal.returns-then-is_misplaced
returns-then-is_misplaced c =
    let clear = sym (behind (goal.at.returns-then-is_misplaced c).After-number_at) ∙ c.if-number_at-ne0.false in
    sym (read_equal c.args.bytes.now c.requires.needed (ap lists (sym c.requires.edition.0) ∙ c.requires.edition.1) clear (edition_number c.args.edition) c.requires.edition.0 _ (part (goal.at.returns-then-is_misplaced c).After-listed-all) (sym c.is_misplaced.ensures ∙ c.if-is_misplaced.true))

pub returns : goal.returns
returns c =
    let label = c.args.bytes.now in
    let clear = sym (behind (goal.at.returns c).After-number_at) ∙ c.if-number_at-ne0.false in
    let b = c.number_at-b in
    let bytes_of : b.result ≡ bytes_in label = b.ensures ∙ ap (λ (w : ℕ). field 4 w label) (wide (goal.at.returns c).After-bytes_bits-wide) in
    c.answer.ensures
    ∙ read_listed label c.requires.needed (ap lists (sym c.requires.edition.0) ∙ c.requires.edition.1) clear (edition_number c.args.edition) c.requires.edition.0 _ (part (goal.at.returns c).After-listed-all) b.result bytes_of (sym c.is_misplaced.ensures ∙ c.if-is_misplaced.false)
