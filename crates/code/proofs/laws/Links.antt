-- Laws of the links: how lengths, ones and sums of places of linked words differ.
use Rattle.std.specs.Prelude.{◌≡◌, refl, Bool, true, false, not, ℕ, suc, ◌+◌, ◌≤◌, ◌<◌, length}
use Rattle.std.proofs.Common.{ap, arith}
use Rattle.code.specs.declared.Link.{Link}
use Rattle.code.specs.Layers.{Word, digit, ones, sum_of_places}
use Rattle.code.proofs.laws.Layers.{digit_below, ones-le, sum_cons}
use Rattle.code.specs.Links.{Without, here, there, Change, raised, lowered, later, Linked, same, changed, more, less, sent}

-- One bit left out

pub without_length : {b : Bool} {w r : Word} → Without b w r → length w ≡ suc (length r)
without_length here = refl
without_length (there i) = ap suc (without_length i)

pub Without-ones : {b : Bool} {w r : Word} → Without b w r → ones w ≡ digit b + ones r
unfolding ones
Without-ones here = refl
Without-ones (there {x = x} i) = omega (arith, Without-ones i)

-- how the sum of places grows with the bit
pub record Growth (low high : ℕ) (w r : Word) : Type 0 where
  pub at_least : sum_of_places r + low ≤ sum_of_places w
  pub at_most : sum_of_places w ≤ sum_of_places r + high

pub zero_Growth : {w r : Word} → Without false w r → Growth 0 (ones r) w r
unfolding ones
zero_Growth {r = r} here = let e = sum_cons false r in record { at_least = omega arith; at_most = omega arith }
zero_Growth (there {x = x} {w = w} {r = r} i) =
    let h = zero_Growth i in
    let o = Without-ones i in
    let e = sum_cons x w in
    let f = sum_cons x r in
    let d = digit_below x in
    record { at_least = omega arith; at_most = omega arith }

pub one_Growth : {w r : Word} → Without true w r → Growth (suc (ones r)) (length w) w r
unfolding ones
one_Growth {r = r} here =
    let e = sum_cons true r in
    let l = ones-le r in
    record { at_least = omega arith; at_most = omega arith }
one_Growth (there {x = x} {w = w} {r = r} i) =
    let h = one_Growth i in
    let o = Without-ones i in
    let e = sum_cons x w in
    let f = sum_cons x r in
    let d = digit_below x in
    record { at_least = omega arith; at_most = omega arith }

-- whatever the bit
pub growth : {b : Bool} {w r : Word} → Without b w r → Growth 0 (length w) w r
growth {b = false} {r = r} i =
    let g = zero_Growth i in
    let l = without_length i in
    let o = ones-le r in
    record { at_least = omega arith; at_most = omega arith }
growth {b = true} i = let g = one_Growth i in record { at_least = omega arith; at_most = omega arith }

-- One bit changed

pub change_length : {b : Bool} {p : ℕ} {w r : Word} → Change b p w r → length w ≡ length r
change_length raised = refl
change_length lowered = refl
change_length (later i) = ap suc (change_length i)

-- the place of a changed bit is one of the word's
pub record Place (p : ℕ) (w : Word) : Type 0 where
  pub some : 0 < p
  pub inside : p ≤ length w

pub change_Place : {b : Bool} {p : ℕ} {w r : Word} → Change b p w r → Place p w
change_Place raised = record { some = omega arith; inside = omega arith }
change_Place lowered = record { some = omega arith; inside = omega arith }
change_Place (later i) = let h = change_Place i in record { some = omega arith; inside = omega arith }

pub change_ones : {b : Bool} {p : ℕ} {w r : Word} → Change b p w r → ones w + digit (not b) ≡ ones r + digit b
unfolding ones
change_ones raised = omega arith
change_ones lowered = omega arith
change_ones (later i) = omega (arith, change_ones i)

pub raised_sum : {p : ℕ} {w r : Word} → Change true p w r → sum_of_places w ≡ sum_of_places r + p
unfolding ones
raised_sum (raised {r = r}) = omega (arith, sum_cons true r, sum_cons false r)
raised_sum (later {x = x} {w = w} {r = r} i) = omega (arith, raised_sum i, change_ones i, sum_cons x w, sum_cons x r)

pub lowered_sum : {p : ℕ} {w r : Word} → Change false p w r → sum_of_places w + p ≡ sum_of_places r
unfolding ones
lowered_sum (lowered {r = r}) = omega (arith, sum_cons true r, sum_cons false r)
lowered_sum (later {x = x} {w = w} {r = r} i) = omega (arith, lowered_sum i, change_ones i, sum_cons x w, sum_cons x r)

-- Any link

-- the received length tells the sent one
pub linked_length : {l : Link} {w r : Word} → Linked l w r → length w ≡ sent l (length r)
linked_length same = refl
linked_length (changed i) = change_length i
linked_length (more i) = omega (arith, without_length i)
linked_length (less i) = without_length i
