-- Levenshtein's result for modulus 2k: at most one word with a given syndrome is linked to a received one.
use Rattle.std.specs.Prelude.{◌≡◌, refl, Bool, true, false, [], ◌∷◌, ◌++◌, ◌⊎◌, ℕ, zero, suc, ◌+◌, ◌*◌, ◌/◌, ◌%◌, ◌≤◌, ◌<◌, length, take}
use Rattle.std.proofs.Common.{sym, ap, ◌∙◌, inl, inr, ⊎_elim, mul-le-mul_left, mul-suc, arith}
use Rattle.std.proofs.Math.Nat.{div-add-mod}
use Rattle.std.proofs.Math.Decide.{dec_le}
use Rattle.code.specs.declared.Link.{Link}
use Rattle.code.specs.Layers.{Word, ones, sum_of_places, syndrome}
use Rattle.code.proofs.laws.Layers.{sum_cons}
use Rattle.code.specs.Links.{Without, here, there, Change, raised, lowered, later, Linked, same, changed, more, less}
use Rattle.code.proofs.laws.Links.{without_length, Without-ones, zero_Growth, one_Growth, growth, change_length, Place, change_Place, raised_sum, lowered_sum}

-- a word whose sum is that of the bit put first is the bit put first
front : {b : Bool} {w r : Word} → Without b w r → sum_of_places w ≡ sum_of_places (b ∷ r) → w ≡ b ∷ r
unfolding ones
front here e = refl
front {b = false} (there {x = false} {w = w} {r = r} i) e =
    let o = Without-ones i in
    let s = sum_cons false w in
    let t = sum_cons false r in
    let u = sum_cons false (false ∷ r) in
    ap (λ (l : Word). false ∷ l) (front i (omega arith))
front {b = false} (there {x = true} {w = w} {r = r} i) e =
    let g = zero_Growth i in
    let o = Without-ones i in
    absurd (omega (arith, sum_cons true w, sum_cons true r, sum_cons false (true ∷ r)))
front {b = true} (there {x = false} {w = w} {r = r} i) e =
    let g = one_Growth i in
    let o = Without-ones i in
    absurd (omega (arith, sum_cons false w, sum_cons false r, sum_cons true (false ∷ r)))
front {b = true} (there {x = true} {w = w} {r = r} i) e =
    let o = Without-ones i in
    let s = sum_cons true w in
    let t = sum_cons true r in
    let u = sum_cons true (true ∷ r) in
    ap (λ (l : Word). true ∷ l) (front i (omega arith))

-- the same bit left out with the same sum leaves the same word
same_bit : {b : Bool} {w u r : Word} → Without b w r → Without b u r → sum_of_places w ≡ sum_of_places u → w ≡ u
unfolding ones
same_bit here j e = sym (front j (sym e))
same_bit (there i) here e = front (there i) e
same_bit (there {x = x} {w = w} i) (there {w = u} j) e =
    let o = Without-ones i in
    let p = Without-ones j in
    let s = sum_cons x w in
    let t = sum_cons x u in
    ap (λ (l : Word). x ∷ l) (same_bit i j (omega arith))

-- two words that leave the same rest and have the same sum are equal
same_sum : {b c : Bool} {w u r : Word} → Without b w r → Without c u r → sum_of_places w ≡ sum_of_places u → w ≡ u
same_sum {b = false} {c = false} i j e = same_bit i j e
same_sum {b = true} {c = true} i j e = same_bit i j e
same_sum {b = false} {c = true} i j e =
    let g = zero_Growth i in
    let h = one_Growth j in
    absurd (omega arith)
same_sum {b = true} {c = false} i j e =
    let g = one_Growth i in
    let h = zero_Growth j in
    absurd (omega arith)

-- Remainders

-- numbers less than m apart with equal remainders are equal
pub near : (m a b : ℕ) → a % m ≡ b % m → a < b + m → b < a + m → a ≡ b
near m a b e up down = go (dec_le (suc (a / m)) (b / m)) (dec_le (suc (b / m)) (a / m))
  where
    go : Dec (a / m < b / m) → Dec (b / m < a / m) → a ≡ b
    go (yes l) d = omega (arith, div-add-mod a m, div-add-mod b m, mul-le-mul_left m l, mul-suc m (a / m))
    go (no n) (yes l) = omega (arith, div-add-mod a m, div-add-mod b m, mul-le-mul_left m l, mul-suc m (b / m))
    go (no n) (no n') =
        let q : a / m ≡ b / m = omega arith in
        omega (arith, div-add-mod a m, div-add-mod b m, ap (λ (x : ℕ). m * x) q)

-- words of one length with equal syndromes whose sums are less than 2k apart have equal sums
same_syndrome : (w u : Word) → length w ≡ length u → syndrome w ≡ syndrome u → sum_of_places w < sum_of_places u + 2 * length w → sum_of_places u < sum_of_places w + 2 * length w → sum_of_places w ≡ sum_of_places u
unfolding syndrome
same_syndrome w u l e = near (2 * length w) (sum_of_places w) (sum_of_places u) (e ∙ rw (← l))

-- One bit less, and one bit more

less_unique : {b c : Bool} {w u r : Word} → Without b w r → Without c u r → syndrome w ≡ syndrome u → w ≡ u
less_unique {w = w} {u = u} i j e =
    let g = growth i in
    let h = growth j in
    let l = without_length i in
    let k = without_length j in
    same_sum i j (same_syndrome w u (omega arith) e (omega arith) (omega arith))

-- two words with a common rest
record Common (w u : Word) : Type 0 where
  rest : Word
  first : Bool
  second : Bool
  left : Without first w rest
  right : Without second u rest

-- two words that one word leaves are equal or leave a common rest
common : {b c : Bool} {w u r : Word} → Without b r w → Without c r u → (w ≡ u) ⊎ Common w u
common here here = inl refl
common (here {r = w}) (there {x = x} {r = v} j) = inr (record { rest = v; first = _; second = x; left = j; right = here })
common (there {x = x} {r = v} i) here = inr (record { rest = v; first = x; second = _; left = here; right = i })
common (there {x = x} i) (there j) =
    ⊎_elim (λ e. inl (ap (λ (l : Word). x ∷ l) e))
    (λ c. inr (record { rest = x ∷ c.rest; first = c.first; second = c.second; left = there c.left; right = there c.right }))
    (common i j)

more_unique : {b c : Bool} {w u r : Word} → Without b r w → Without c r u → syndrome w ≡ syndrome u → w ≡ u
more_unique i j e = ⊎_elim (λ p. p) (λ c. less_unique c.left c.right e) (common i j)

-- the same place changed to the same bit gives the same word
same_place : {b : Bool} {p q : ℕ} {w u r : Word} → Change b p w r → Change b q u r → p ≡ q → w ≡ u
same_place raised raised e = refl
same_place raised (later j) e = let h = change_Place j in absurd (omega arith)
same_place lowered lowered e = refl
same_place lowered (later j) e = let h = change_Place j in absurd (omega arith)
same_place (later i) raised e = let h = change_Place i in absurd (omega arith)
same_place (later i) lowered e = let h = change_Place i in absurd (omega arith)
same_place (later {x = x} i) (later j) e = ap (λ (l : Word). x ∷ l) (same_place i j (omega arith))

-- a received bit is not both raised and lowered
not_both : {p q : ℕ} {w u r : Word} → Change true p w r → Change false q u r → p ≡ q → ⊥
not_both raised (later j) e = let h = change_Place j in omega arith
not_both (later i) lowered e = let h = change_Place i in omega arith
not_both (later i) (later j) e = not_both i j (omega arith)

-- a changed word has not the received word's syndrome
changed_differs : {b : Bool} {p : ℕ} {w r : Word} → Change b p w r → syndrome w ≡ syndrome r → ⊥
changed_differs {b = true} {w = w} {r = r} i e =
    let h = change_Place i in
    let l = change_length i in
    let s = raised_sum i in
    omega (arith, same_syndrome w r l e (omega arith) (omega arith))
changed_differs {b = false} {w = w} {r = r} i e =
    let h = change_Place i in
    let l = change_length i in
    let s = lowered_sum i in
    omega (arith, same_syndrome w r l e (omega arith) (omega arith))

-- a raised and a lowered word have different syndromes: their sums are 2k apart at most, and 2k only at one place
opposite_differs : {p q : ℕ} {w u r : Word} → Change true p w r → Change false q u r → syndrome w ≡ syndrome u → ⊥
opposite_differs {p} {q} {w} {u} {r} i j e = go (dec_le (2 * length w) (p + q)) (change_Place i) (change_Place j)
  where
    go : Dec (2 * length w ≤ p + q) → Place p w → Place q u → ⊥
    go (yes f) h k = not_both i j (omega (arith, change_length i, change_length j))
    go (no n) h k =
        let s = raised_sum i in
        let t = lowered_sum j in
        let l : length w ≡ length u = omega (arith, change_length i, change_length j) in
        omega (arith, same_syndrome w u l e (omega arith) (omega arith))

changed_unique : {b c : Bool} {p q : ℕ} {w u r : Word} → Change b p w r → Change c q u r → syndrome w ≡ syndrome u → w ≡ u
changed_unique {b = true} {c = true} {w = w} {u = u} i j e =
    let h = change_Place i in
    let k = change_Place j in
    let s = raised_sum i in
    let t = raised_sum j in
    let l : length w ≡ length u = omega (arith, change_length i, change_length j) in
    same_place i j (omega (arith, same_syndrome w u l e (omega arith) (omega arith)))
changed_unique {b = false} {c = false} {w = w} {u = u} i j e =
    let h = change_Place i in
    let k = change_Place j in
    let s = lowered_sum i in
    let t = lowered_sum j in
    let l : length w ≡ length u = omega (arith, change_length i, change_length j) in
    same_place i j (omega (arith, same_syndrome w u l e (omega arith) (omega arith)))
changed_unique {b = true} {c = false} i j e = absurd (opposite_differs i j e)
changed_unique {b = false} {c = true} i j e = absurd (opposite_differs j i (sym e))

-- The result

-- at most one word with a given syndrome is linked to a received word, whatever the link
pub unique : {l : Link} {w u r : Word} → Linked l w r → Linked l u r → syndrome w ≡ syndrome u → w ≡ u
unique same same e = refl
unique same (changed j) e = absurd (changed_differs j (sym e))
unique (changed i) same e = absurd (changed_differs i e)
unique (changed i) (changed j) e = changed_unique i j e
unique (more i) (more j) e = more_unique i j e
unique (less i) (less j) e = less_unique i j e

-- a word less its last bit
last_out : (k : ℕ) (r : Word) → length r ≡ suc k → (c : Bool) × Without c r (take k r)
last_out k [] e = absurd (omega arith)
last_out zero (b ∷ []) e = (b, here)
last_out zero (b ∷ x ∷ r) e = absurd (omega arith)
last_out (suc k) (b ∷ r) e = let h = last_out k r (omega arith) in (h.0, there h.1)

last_in : (c : Bool) (r : Word) → Without c (r ++ (c ∷ [])) r
last_in c [] = here
last_in c (x ∷ r) = there (last_in c r)
