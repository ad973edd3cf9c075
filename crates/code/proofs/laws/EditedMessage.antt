-- A message under one edit, and the repair of both its layers.
use Rattle.std.specs.Prelude.{◌≡◌, refl, Bool, true, false, List, [], ◌∷◌, ◌++◌, ℕ, zero, suc, ◌+◌, ◌*◌, ◌^◌, ◌≤◌, ◌<◌, ltb, length, get_or, set}
use Rattle.std.proofs.Math.Path.{sym}
use Rattle.std.proofs.Common.{ap, subst, ◌∙◌, mod-eq_of_lt, not-suc-le-zero, le_of_suc-le-suc, arith, le-ltb, length-append, take_at}
use Rattle.std.proofs.Math.Option.{some}
use Rattle.std.proofs.lemmas.List.{set-get_or}
use Rattle.code.specs.Symbols.{Below}
use Rattle.code.specs.Layers.{Word, bit, layer, syndrome, width, bits, number}
use Rattle.code.proofs.laws.Layers.{length-layer, pair_layers, layer-pair_high, layer-pair_low, syndrome_below, width-Least, length-bits, number-bits}
use Rattle.code.specs.Links.{raised, lowered, later, Linked, same, changed, more, less}
use Rattle.code.proofs.laws.Levenshtein.{near, unique}
use Rattle.code.specs.Repair.{repair, put_in, leave_out}
use Rattle.code.proofs.laws.Repair.{repair_is}
use Rattle.code.proofs.laws.LinkedPlaces.{put_Without, left_Without}
use Rattle.code.specs.Segment.{total, check, syndrome_of}
use Rattle.code.proofs.laws.Segment.{length_syndrome}
use Rattle.code.specs.Reading.{repaired, message}
use Rattle.code.specs.declared.Link.{Link}
use Rattle.code.specs.declared.Link.TheVariants.{Changed, More, Less}

-- A message's layers under an edit

layer-set : (s i x : ℕ) (m : List ℕ) → layer s (set m i x) ≡ set (layer s m) i (bit s x)
layer-set s i x [] = refl
layer-set s zero x (y ∷ m) = refl
layer-set s (suc i) x (y ∷ m) = ap (λ (w : Word). bit s y ∷ w) (layer-set s i x m)

layer_leave : (s i : ℕ) (m : List ℕ) → layer s (leave_out i m) ≡ leave_out i (layer s m)
layer_leave s zero [] = refl
layer_leave s zero (y ∷ m) = refl
layer_leave s (suc i) [] = refl
layer_leave s (suc i) (y ∷ m) = ap (λ (w : Word). bit s y ∷ w) (layer_leave s i m)

layer_put : (s i x : ℕ) (m : List ℕ) → layer s (put_in i x m) ≡ put_in i (bit s x) (layer s m)
layer_put s zero x m = refl
layer_put s (suc i) x [] = refl
layer_put s (suc i) x (y ∷ m) = ap (λ (w : Word). bit s y ∷ w) (layer_put s i x m)

changed_later : (x : Bool) {w r : Word} → Linked Changed w r → Linked Changed (x ∷ w) (x ∷ r)
changed_later x same = same
changed_later x (changed c) = changed (later c)

linked_set : (i : ℕ) (b : Bool) (w : Word) → Linked Changed w (set w i b)
linked_set i b [] = same
linked_set zero true (true ∷ w) = same
linked_set zero true (false ∷ w) = changed lowered
linked_set zero false (true ∷ w) = changed raised
linked_set zero false (false ∷ w) = same
linked_set (suc i) b (x ∷ w) = changed_later x (linked_set i b w)

-- both layers of the sent m and the received r are linked
pub record Both (l : Link) (m r : List ℕ) : Type 0 where
  pub high : Linked l (layer 1 m) (layer 1 r)
  pub low : Linked l (layer 0 m) (layer 0 r)

pub Both-same : (m : List ℕ) → Both Changed m m
Both-same m = record { high = same; low = same }

pub Both-set : (i x : ℕ) (m : List ℕ) → Both Changed m (set m i x)
Both-set i x m = record { high = go 1; low = go 0 }
  where
    go : (s : ℕ) → Linked Changed (layer s m) (layer s (set m i x))
    go s = subst (λ (r : Word). Linked Changed (layer s m) r) (sym (layer-set s i x m)) (linked_set i (bit s x) (layer s m))

pub Both-leave : (i : ℕ) (m : List ℕ) → i < length m → Both Less m (leave_out i m)
Both-leave i m h = record { high = go 1; low = go 0 }
  where
    go : (s : ℕ) → Linked Less (layer s m) (layer s (leave_out i m))
    go s = subst (λ (r : Word). Linked Less (layer s m) r) (sym (layer_leave s i m)) (less (left_Without i (layer s m) (omega (arith, length-layer s m))))

pub Both-put : (i x : ℕ) (m : List ℕ) → i ≤ length m → Both More m (put_in i x m)
Both-put i x m h = record { high = go 1; low = go 0 }
  where
    go : (s : ℕ) → Linked More (layer s m) (layer s (put_in i x m))
    go s = subst (λ (r : Word). Linked More (layer s m) r) (sym (layer_put s i x m)) (more (put_Without i (bit s x) (layer s m) (omega (arith, length-layer s m))))

-- The written syndrome

-- the first t bits write the syndrome
bits-number : (w : Word) (t : ℕ) → 0 < length w → 2 * length w ≤ 2 ^ t → number (bits t (syndrome w)) ≡ syndrome w
bits-number w t h k = number-bits t (syndrome w) ∙ mod-eq_of_lt (omega (arith, syndrome_below w h))

module _ (m : List ℕ) (filled : 0 < length m) where
  enough : (s : ℕ) → 2 * length (layer s m) ≤ 2 ^ width (length m)
  enough s = rw (length-layer s m) (width-Least (length m)).enough

  pub number_high : number (layer 1 (syndrome_of m)) ≡ syndrome (layer 1 m)
  unfolding syndrome_of
  number_high =
      let t = width (length m) in
      rw (layer-pair_high (bits t (syndrome (layer 1 m))) (bits t (syndrome (layer 0 m))) (length-bits t (syndrome (layer 1 m)) ∙ sym (length-bits t (syndrome (layer 0 m)))))
      (bits-number (layer 1 m) t (omega (arith, length-layer 1 m)) (enough 1))

  pub number_low : number (layer 0 (syndrome_of m)) ≡ syndrome (layer 0 m)
  unfolding syndrome_of
  number_low =
      let t = width (length m) in
      rw (layer-pair_low (bits t (syndrome (layer 1 m))) (bits t (syndrome (layer 0 m))) (length-bits t (syndrome (layer 1 m)) ∙ sym (length-bits t (syndrome (layer 0 m)))))
      (bits-number (layer 0 m) t (omega (arith, length-layer 0 m)) (enough 0))

-- linked layers repaired with the written syndrome give the message
pub repaired_is : (l : Link) (m r w : List ℕ) → 0 < length m → Below 4 m → Both l m r → repaired l (width (length m)) r (syndrome_of m ++ w) ≡ message m
unfolding repaired
repaired_is l m r w filled small b =
    let t = width (length m) in
    let n = length_syndrome m in
    let e : ltb (length (syndrome_of m ++ w)) t ≡ false = le-ltb (length (syndrome_of m ++ w)) t (simp length-append (omega arith)) in
    let h : repair l (syndrome (layer 1 m)) (layer 1 r) ≡ some (layer 1 m) = repair_is (record { joined = b.high; written = refl }) in
    let k : repair l (syndrome (layer 0 m)) (layer 0 r) ≡ some (layer 0 m) = repair_is (record { joined = b.low; written = refl }) in
    rw (e, take_at (syndrome_of m) w t n, number_high m filled, number_low m filled, h, k) (ap message (pair_layers m small))

-- two messages of one length that are linked to one received word and have one syndrome are equal
pub syndrome_tells : (l : Link) (m x r : List ℕ) → 0 < length m → length x ≡ length m → Below 4 m → Below 4 x → Both l m r → Both l x r → syndrome_of x ≡ syndrome_of m → x ≡ m
syndrome_tells l m x r filled e hm hx b c s =
    let fx : 0 < length x = omega arith in
    let h = unique c.high b.high (sym (number_high x fx) ∙ ap (λ (y : List ℕ). number (layer 1 y)) s ∙ number_high m filled) in
    let k = unique c.low b.low (sym (number_low x fx) ∙ ap (λ (y : List ℕ). number (layer 0 y)) s ∙ number_low m filled) in
    sym (pair_layers x hx) ∙ rw (h, k) (pair_layers m hm)

-- The check

total-set : (i x : ℕ) (m : List ℕ) → i < length m → total (set m i x) + get_or m i 0 ≡ total m + x
unfolding total
total-set i x [] h = absurd (not-suc-le-zero h)
total-set zero x (y ∷ m) h = omega arith
total-set (suc i) x (y ∷ m) h = omega (arith, total-set i x m (le_of_suc-le-suc h))

-- one changed symbol changes the check
pub check_tells : (i x : ℕ) (m : List ℕ) → i < length m → Below 4 m → x < 4 → check (set m i x) ≡ check m → set m i x ≡ m
unfolding check
check_tells i x m h small hx e =
    let s = total-set i x m h in
    let y = get_or m i 0 in
    let q : x ≡ y = omega (arith, near 4 (total (set m i x)) (total m) e (omega (arith, small i)) (omega (arith, small i))) in
    rw q (set-get_or m i 0)
