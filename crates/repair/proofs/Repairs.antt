-- A bit mended at a place is the repair, and where no place will do there is none.
use Rattle.std.specs.Prelude as P
use mathlib.Core.Path.{◌≡◌, refl, sym, ap, ◌∙◌}
use mathlib.Core.Bool.{Bool, true, false, cond}
use Prim.Native.Nat.{ℕ, suc, ◌+◌, ◌-◌, ◌*◌, ◌%◌, ◌≤◌, ◌<◌}
use native.Mathlib.Nat.{mod-eq_of_lt, mod-add-mod, add-mod_right}
use native.Mathlib.Omega.{arith}
use lib.ListN.{length, get_or, drop, set, length-drop}
use lib.Seq.{set_out}
use Rattle.code.specs.declared.Link.TheVariants.{Changed, More, Less}
use Rattle.code.specs.Layers.{Word, ones, sum_of_places, syndrome}
use Rattle.code.proofs.laws.Layers.{ones-le}
use Rattle.code.specs.Links.{Linked, same, changed, more, less, Without, Change}
use Rattle.code.proofs.laws.Links.{without_length, change_length, raised_sum, lowered_sum, change_Place}
use Rattle.code.specs.Repair.{repair, mended, put_in, leave_out}
use Rattle.code.proofs.laws.Repair.{repair_is, repair_nothing}
use Rattle.code.proofs.laws.LinkedPlaces.{put_Without, put_sum, put_place, left_Without, left_sum, left_place, set_change, change_set}
use Rattle.repair.proofs.Remainders.{Ahead, ahead_is, Ahead-only, mod_cancel}
use Rattle.repair.specs.LayerRepair.{ahead}

-- the syndrome of a word of k bits whose sum of places is x
module _ (k v x : ℕ) (w : Word) (size : length w ≡ k) (small : v < 2 * k) (sum : sum_of_places w ≡ x) where
  is_written : x % (2 * k) ≡ v % (2 * k) → syndrome w ≡ v
  unfolding syndrome
  is_written e = rw (size, sum) (e ∙ mod-eq_of_lt small)

  was_written : syndrome w ≡ v → x % (2 * k) ≡ v % (2 * k)
  unfolding syndrome
  was_written e = rw (mod-eq_of_lt small, ← sum, ← size) e

-- One bit less

-- what a bit put in adds to the sum of places
gain : ℕ → Bool → Word → ℕ
gain i b r = ones (drop i r) + cond b (suc i) 0

gain_le : (i : ℕ) (b : Bool) (r : Word) → i ≤ length r → gain i b r ≤ suc (length r)
unfolding gain
gain_le i true r h = omega (arith, ones-le (drop i r), length-drop i r)
gain_le i false r h = omega (arith, ones-le (drop i r), length-drop i r)

module _ (r : Word) (k x v d : ℕ) (size : suc (length r) ≡ k) (sum : x ≡ sum_of_places r) (small : v < 2 * k) (ahead_d : d ≡ ahead x v (2 * k)) where
  less_step : Ahead (sum_of_places r) v (2 * k) d
  less_step = rw (ahead_d, ← sum) (ahead_is x v (2 * k) (omega arith))

  pub less_found : (i : ℕ) (b : Bool) → i ≤ length r → ones (drop i r) + cond b (suc i) 0 ≡ d → mended Less r (P.Some (record { at = i; bit = b })) ≡ repair Less v r
  unfolding mended
  less_found i b h e =
      let o = put_Without i b r h in
      let s : sum_of_places (put_in i b r) ≡ sum_of_places r + d = omega (arith, put_sum i b r h) in
      sym (repair_is (record { joined = less o; written = is_written k v (sum_of_places r + d) (put_in i b r) (without_length o ∙ size) small s less_step.meets }))

  less_fits : {b : Bool} {w : Word} → Without b w r → syndrome w ≡ v → (i : ℕ) × (i ≤ length r) × (ones (drop i r) + cond b (suc i) 0 ≡ d)
  unfolding gain
  less_fits {b} {w} o f =
      let p = put_place o in
      let g = gain p.0 b r in
      let s : sum_of_places w ≡ sum_of_places r + g = ap sum_of_places p.2 ∙ omega (arith, put_sum p.0 b r p.1) in
      let m = was_written k v (sum_of_places r + g) w (without_length o ∙ size) small s f in
      (p.0, p.1, Ahead-only (sum_of_places r) v (2 * k) less_step (omega (arith, gain_le p.0 b r p.1)) m)

  pub less_none : ((i : ℕ) (b : Bool) → i ≤ length r → ones (drop i r) + cond b (suc i) 0 ≡ d → ⊥) → mended Less r P.None ≡ repair Less v r
  unfolding mended
  less_none tried = sym (repair_nothing Less v r (λ w f. unlink f.joined f.written))
    where
      unlink : {w : Word} → Linked Less w r → syndrome w ≡ v → ⊥
      unlink (less {b = b} o) f = let p = less_fits o f in tried p.0 b p.1 p.2

-- One bit more

-- what a bit left out takes from the sum of places
loss : ℕ → Word → ℕ
loss i r = ones (drop (suc i) r) + cond (get_or r i false) (suc i) 0

loss_le : (i : ℕ) (r : Word) → i < length r → loss i r ≤ length r
unfolding loss
loss_le i r h = go (get_or r i false)
  where
    go : (b : Bool) → ones (drop (suc i) r) + cond b (suc i) 0 ≤ length r
    go true = omega (arith, ones-le (drop (suc i) r), length-drop (suc i) r)
    go false = omega (arith, ones-le (drop (suc i) r), length-drop (suc i) r)

module _ (r : Word) (k x v d : ℕ) (size : length r ≡ suc k) (two : 2 ≤ k) (sum : x ≡ sum_of_places r) (small : v < 2 * k) (ahead_d : d ≡ ahead v x (2 * k)) where
  more_step : Ahead v (sum_of_places r) (2 * k) d
  more_step = rw (ahead_d, ← sum) (ahead_is v x (2 * k) (omega arith))

  pub more_found : (i : ℕ) (b : Bool) → i < length r → ones (drop (suc i) r) + cond (get_or r i false) (suc i) 0 ≡ d → mended More r (P.Some (record { at = i; bit = b })) ≡ repair More v r
  unfolding mended
  more_found i b h e =
      let o = left_Without i r h in
      let w = leave_out i r in
      let s : sum_of_places r ≡ sum_of_places w + d = omega (arith, left_sum i r h) in
      let m : (sum_of_places w + d) % (2 * k) ≡ (v + d) % (2 * k) = sym (ap (λ (n : ℕ). n % (2 * k)) s) ∙ sym more_step.meets in
      let f = is_written k v (sum_of_places w) w (omega (arith, without_length o)) small refl (mod_cancel (sum_of_places w) v d (2 * k) (omega arith) m) in
      sym (repair_is (record { joined = more o; written = f }))

  more_fits : {b : Bool} {w : Word} → Without b r w → syndrome w ≡ v → (i : ℕ) × (i < length r) × (ones (drop (suc i) r) + cond (get_or r i false) (suc i) 0 ≡ d)
  unfolding loss
  more_fits {b} {w} o f =
      let p = left_place o in
      let l = loss p.0 r in
      let s : sum_of_places r ≡ sum_of_places w + l = omega (arith, left_sum p.0 r p.1, ap sum_of_places p.2) in
      let e = was_written k v (sum_of_places w) w (omega (arith, without_length o)) small refl f in
      let m : (v + l) % (2 * k) ≡ sum_of_places r % (2 * k) = rw s (sym (mod-add-mod v (2 * k) l) ∙ ap (λ (n : ℕ). (n + l) % (2 * k)) (sym e) ∙ mod-add-mod (sum_of_places w) (2 * k) l) in
      (p.0, p.1, Ahead-only v (sum_of_places r) (2 * k) more_step (omega (arith, loss_le p.0 r p.1)) m)

  pub more_none : ((i : ℕ) → i < length r → ones (drop (suc i) r) + cond (get_or r i false) (suc i) 0 ≡ d → ⊥) → mended More r P.None ≡ repair More v r
  unfolding mended
  more_none tried = sym (repair_nothing More v r (λ w f. unlink f.joined f.written))
    where
      unlink : {w : Word} → Linked More w r → syndrome w ≡ v → ⊥
      unlink (more o) f = let p = more_fits o f in tried p.0 p.1 p.2

-- One bit changed

module _ (r : Word) (k x v d : ℕ) (size : length r ≡ k) (sum : x ≡ sum_of_places r) (small : v < 2 * k) (ahead_d : d ≡ ahead x v (2 * k)) where
  changed_step : Ahead (sum_of_places r) v (2 * k) d
  changed_step = rw (ahead_d, ← sum) (ahead_is x v (2 * k) (omega arith))

  pub changed_same : (i : ℕ) (b : Bool) → k ≤ i → d ≡ 0 → mended Changed r (P.Some (record { at = i; bit = b })) ≡ repair Changed v r
  unfolding mended
  changed_same i b h e =
      let s : sum_of_places r ≡ sum_of_places r + d = omega arith in
      rw (set_out r i b (omega arith)) (sym (repair_is (record { joined = same; written = is_written k v (sum_of_places r + d) r size small s changed_step.meets })))

  pub changed_raised : (i : ℕ) → i < k → get_or r i false ≡ false → suc i ≡ d → mended Changed r (P.Some (record { at = i; bit = true })) ≡ repair Changed v r
  unfolding mended
  changed_raised i h z e =
      let c = set_change i true r (omega arith) z in
      let s : sum_of_places (set r i true) ≡ sum_of_places r + d = omega (arith, raised_sum c) in
      sym (repair_is (record { joined = changed c; written = is_written k v (sum_of_places r + d) (set r i true) (change_length c ∙ size) small s changed_step.meets }))

  pub changed_lowered : (i : ℕ) → i < k → get_or r i false ≡ true → suc i + d ≡ 2 * k → mended Changed r (P.Some (record { at = i; bit = false })) ≡ repair Changed v r
  unfolding mended
  changed_lowered i h z e =
      let c = set_change i false r (omega arith) z in
      let w = set r i false in
      let s : sum_of_places w + 2 * k ≡ sum_of_places r + d = omega (arith, lowered_sum c) in
      let m : sum_of_places w % (2 * k) ≡ v % (2 * k) = sym (add-mod_right (sum_of_places w) (2 * k)) ∙ ap (λ (n : ℕ). n % (2 * k)) s ∙ changed_step.meets in
      sym (repair_is (record { joined = changed c; written = is_written k v (sum_of_places w) w (change_length c ∙ size) small refl m }))

  raised_step : {p : ℕ} {w : Word} → Change true p w r → syndrome w ≡ v → p ≡ d
  raised_step {p} {w} c f =
      let h = change_Place c in
      let m = was_written k v (sum_of_places r + p) w (change_length c ∙ size) small (raised_sum c) f in
      Ahead-only (sum_of_places r) v (2 * k) changed_step (omega (arith, change_length c)) m

  lowered_step : {p : ℕ} {w : Word} → Change false p w r → syndrome w ≡ v → p + d ≡ 2 * k
  lowered_step {p} {w} c f =
      let h = change_Place c in
      let l = change_length c in
      let s : sum_of_places r + (2 * k - p) ≡ sum_of_places w + 2 * k = omega (arith, lowered_sum c) in
      let e = was_written k v (sum_of_places w) w (l ∙ size) small refl f in
      let m : (sum_of_places r + (2 * k - p)) % (2 * k) ≡ v % (2 * k) = rw s (add-mod_right (sum_of_places w) (2 * k) ∙ e) in
      let q = Ahead-only (sum_of_places r) v (2 * k) changed_step (omega arith) m in
      omega arith

  pub changed_none : (d ≡ 0 → ⊥) → ((i : ℕ) → i < k → get_or r i false ≡ false → suc i ≡ d → ⊥) → ((i : ℕ) → i < k → get_or r i false ≡ true → suc i + d ≡ 2 * k → ⊥) → mended Changed r P.None ≡ repair Changed v r
  unfolding mended
  changed_none apart up down = sym (repair_nothing Changed v r (λ w f. unlink f.joined f.written))
    where
      unlink : {w : Word} → Linked Changed w r → syndrome w ≡ v → ⊥
      unlink same f =
          let s : sum_of_places r ≡ sum_of_places r + 0 = omega arith in
          let m = was_written k v (sum_of_places r + 0) r size small s f in
          apart (sym (Ahead-only (sum_of_places r) v (2 * k) changed_step (omega arith) m))
      unlink (changed {b = true} c) f =
          let h = change_set c in
          up h.place (omega (arith, h.inside)) h.other (omega (arith, raised_step c f, h.counted))
      unlink (changed {b = false} c) f =
          let h = change_set c in
          down h.place (omega (arith, h.inside)) h.other (omega (arith, lowered_step c f, h.counted))
