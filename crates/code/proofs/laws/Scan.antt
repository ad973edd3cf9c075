-- Laws of a scan: what is found, and what is tried in which order.
--   first, standing_append   the first try that stands in two lists
--   stands_found             what is found stands
--   window_passed            a try of a window names its segment
--   tries_passed             fewer segments are passed than there are
--   tries-append             the tries for the segments behind others
--   Among                    a place in a list
--   sought_Among             a start within reach of its centre is tried
use Rattle.std.specs.Prelude.{◌≡◌, Bool, ℕ, zero, suc, ◌+◌, ◌-◌, ◌*◌, ◌≤◌, ◌<◌, ltb, length}
use Rattle.std.proofs.Math.Path.{refl, ap}
use Rattle.std.proofs.Common.{sym, ◌∙◌, lt_of_not-le, arith, lt-ltb}
use Rattle.std.proofs.Math.Bool.{true, false, cond}
use mathlib.Core.List.{List, [], ◌∷◌, ◌++◌, map, append_assoc}
use Rattle.std.proofs.Math.Option.{Option, some, none}
use Rattle.std.proofs.Math.Decide.{dec_le}
use Rattle.code.specs.Segment.{size}
use Rattle.code.specs.Layout.{extent}
use Rattle.code.specs.Strands.{above, pairs, window, Try, try_at, tries, stands, first_standing, scan}

-- What is found

-- the first of two answers
abbrev pub first : Option Try → Option Try → Option Try
first (some t) x = some t
first none x = x

nothing_found : {t : Try} {A : Type 0} → none ≡ some t → A
nothing_found e = let z : ◌≡◌ {A = ℕ} 0 1 = cc in absurd (omega arith)

module _ (s letters : List ℕ) where
  abbrev found : List Try → Option Try
  found ts = first_standing s letters ts

  pub standing_append : (ts us : List Try) → first_standing s letters (ts ++ us) ≡ first (first_standing s letters ts) (first_standing s letters us)
  unfolding first_standing
  standing_append [] us = refl
  standing_append (t ∷ ts) us = go (stands s letters t) (standing_append ts us)
    where
      go : (b : Bool) → found (ts ++ us) ≡ first (found ts) (found us) → cond b (some t) (found (ts ++ us)) ≡ first (cond b (some t) (found ts)) (found us)
      go true h = refl
      go false h = h

  pub stands_found : (ts : List Try) (t : Try) → first_standing s letters ts ≡ some t → stands s letters t ≡ true
  unfolding first_standing
  stands_found [] t e = nothing_found e
  stands_found (x ∷ ts) t e = go (stands s letters x) refl e (stands_found ts t)
    where
      go : (b : Bool) → stands s letters x ≡ b → cond b (some x) (found ts) ≡ some t → (found ts ≡ some t → stands s letters t ≡ true) → stands s letters t ≡ true
      go true h q later = let i : x ≡ t = cc in rw (← i) h
      go false h q later = later q

  -- a try of a window names its segment
  pub window_passed : (p k : ℕ) (os : List ℕ) (t : Try) → found (map (try_at p k) os) ≡ some t → t.passed ≡ p
  unfolding first_standing
  window_passed p k [] t e = nothing_found e
  window_passed p k (o ∷ os) t e = go (stands s letters (try_at p k o)) e (window_passed p k os t)
    where
      go : (b : Bool) → cond b (some (try_at p k o)) (found (map (try_at p k) os)) ≡ some t → (found (map (try_at p k) os) ≡ some t → t.passed ≡ p) → t.passed ≡ p
      go true q later = let i : try_at p k o ≡ t = cc in ap (λ (x : Try). x.passed) (sym i)
      go false q later = later q

  -- found in the first window, or behind it
  pub tries_passed : (p n : ℕ) (ks : List ℕ) (t : Try) → first_standing s letters (tries p n ks) ≡ some t → t.passed < p + length ks
  unfolding tries first_standing
  tries_passed p n [] t e = nothing_found e
  tries_passed p n (k ∷ ks) t e = go (found w) refl (sym (standing_append w (tries (p + 1) (n + size true k) ks)) ∙ e) (tries_passed (p + 1) (n + size true k) ks t)
    where
      w : List Try
      w = map (try_at p k) (window n (8 * (p + 1)))

      go : (x : Option Try) → found w ≡ x → first x (found (tries (p + 1) (n + size true k) ks)) ≡ some t → (found (tries (p + 1) (n + size true k) ks) ≡ some t → t.passed < p + 1 + length ks) → t.passed < p + suc (length ks)
      go (some y) q h later = omega (arith, window_passed p k (window n (8 * (p + 1))) t (q ∙ h))
      go none q h later = omega (arith, later h)

-- fewer segments are passed than there are
pub scan_passes : (n : ℕ) (ks s letters : List ℕ) (t : Try) → scan n ks s letters ≡ some t → t.passed < length ks
unfolding scan
scan_passes n ks s letters t e = omega (arith, tries_passed s letters 0 n ks t e)

-- What is tried

-- the tries for the segments behind others
pub tries-append : (p n : ℕ) (ks js : List ℕ) → tries p n (ks ++ js) ≡ tries p n ks ++ tries (p + length ks) (n + extent true ks) js
unfolding tries extent
tries-append p n [] js =
    let a : p + 0 ≡ p = omega arith in
    let b : n + 0 ≡ n = omega arith in
    rw (a, b)
tries-append p n (k ∷ ks) js =
    let a : p + suc (length ks) ≡ p + 1 + length ks = omega arith in
    let b : n + (size true k + extent true ks) ≡ n + size true k + extent true ks = omega arith in
    let w = map (try_at p k) (window n (8 * (p + 1))) in
    rw (a, b, tries-append (p + 1) (n + size true k) ks js) (sym (append_assoc w (tries (p + 1) (n + size true k) ks) (tries (p + 1 + length ks) (n + size true k + extent true ks) js)))

-- x stands in a list, with what stands before and behind it
pub record Among {A : Type 0} (x : A) (l : List A) : Type 0 where
  pub front : List A
  pub behind : List A
  pub is : l ≡ front ++ x ∷ behind

module _ {A : Type 0} {x : A} where
  Among-cons : (y : A) {l : List A} → Among x l → Among x (y ∷ l)
  Among-cons y h = record { front = y ∷ h.front; behind = h.behind; is = ap (◌∷◌ y) h.is }

  Among-left : {l : List A} (m : List A) → Among x l → Among x (l ++ m)
  Among-left m h = record { front = h.front; behind = h.behind ++ m; is = ap (λ (q : List A). q ++ m) h.is ∙ append_assoc h.front (x ∷ h.behind) m }

  Among-right : (m : List A) {l : List A} → Among x l → Among x (m ++ l)
  Among-right m h = record { front = m ++ h.front; behind = h.behind; is = ap (λ (q : List A). m ++ q) h.is ∙ sym (append_assoc m h.front (x ∷ h.behind)) }

Among-map : {A B : Type 0} (f : A → B) (x : A) (front behind : List A) → Among (f x) (map f (front ++ x ∷ behind))
Among-map f x [] behind = record { front = []; behind = map f behind; is = refl }
Among-map f x (y ∷ front) behind = Among-cons (f y) (Among-map f x front behind)

-- both starts of a pair are tried
Among-pairs : (n d c e : ℕ) → d ≤ e → e < d + c → Among (n - e) (pairs n d c) × Among (n + e) (pairs n d c)
unfolding pairs
Among-pairs n d zero e a b = absurd (omega arith)
Among-pairs n d (suc c) e a b = go (dec_le e d) (λ l. Among-pairs n (suc d) c e (omega arith) (omega arith))
  where
    go : Dec (e ≤ d) → (d < e → Among (n - e) (pairs n (suc d) c) × Among (n + e) (pairs n (suc d) c)) → Among (n - e) ((n - d) ∷ (n + d) ∷ pairs n (suc d) c) × Among (n + e) ((n - d) ∷ (n + d) ∷ pairs n (suc d) c)
    go (yes l) later =
        let q : d ≡ e = omega arith in
        (record { front = []; behind = (n + d) ∷ pairs n (suc d) c; is = rw q }, record { front = (n - d) ∷ []; behind = pairs n (suc d) c; is = rw q })
    go (no l) later =
        let h = later (lt_of_not-le l) in
        (Among-cons (n - d) (Among-cons (n + d) h.0), Among-cons (n - d) (Among-cons (n + d) h.1))

-- starts above P are kept
Among-above : (o : ℕ) (front behind : List ℕ) → 0 < o → Among o (above (front ++ o ∷ behind))
unfolding above
Among-above o [] behind h = rw (lt-ltb 0 o h) (record { front = []; behind = above behind; is = refl })
Among-above o (x ∷ front) behind h = go (ltb 0 x) (Among-above o front behind h)
  where
    go : (b : Bool) → Among o (above (front ++ o ∷ behind)) → Among o (cond b (x ∷ above (front ++ o ∷ behind)) (above (front ++ o ∷ behind)))
    go true r = Among-cons x r
    go false r = r

-- a start above P within reach of the centre is in the window
Among-window : (n c o : ℕ) → 0 < o → n ≤ o + c → o ≤ n + c → Among o (window n c)
Among-window n c o h a b = kept (near (dec_le o n))
  where
    kept : Among o (n ∷ pairs n 1 c) → Among o (window n c)
    kept r = rw r.is (Among-above o r.front r.behind h)

    later : Dec (n ≤ o) → o ≤ n → Among o (n ∷ pairs n 1 c)
    later (yes m) l = let q : o ≡ n = omega arith in record { front = []; behind = pairs n 1 c; is = rw q }
    later (no m) l = let q = lt_of_not-le m in let e : n - (n - o) ≡ o = omega arith in rw e at (Among-cons n (Among-pairs n 1 c (n - o) (omega arith) (omega arith)).0)

    near : Dec (o ≤ n) → Among o (n ∷ pairs n 1 c)
    near (yes l) = later (dec_le n o) l
    near (no l) = let q = lt_of_not-le l in let e : n + (o - n) ≡ o = omega arith in rw e at (Among-cons n (Among-pairs n 1 c (o - n) (omega arith) (omega arith)).1)

-- such a start of the segment behind those of the lengths ks is tried
pub sought_Among : (n : ℕ) (ks : List ℕ) (j : ℕ) (js : List ℕ) (o : ℕ) → 0 < o → n + extent true ks ≤ o + 8 * (length ks + 1) → o ≤ n + extent true ks + 8 * (length ks + 1) → Among (try_at (length ks) j o) (tries 0 n (ks ++ j ∷ js))
unfolding tries
sought_Among n ks j js o h a b =
    let z : 0 + length ks ≡ length ks = omega arith in
    rw (tries-append 0 n ks (j ∷ js), z) (Among-right (tries 0 n ks) (Among-left (tries (length ks + 1) (n + extent true ks + size true j) js) (mapped (Among-window (n + extent true ks) (8 * (length ks + 1)) o h a b))))
  where
    mapped : Among o (window (n + extent true ks) (8 * (length ks + 1))) → Among (try_at (length ks) j o) (map (try_at (length ks) j) (window (n + extent true ks) (8 * (length ks + 1))))
    mapped r = rw r.is (Among-map (try_at (length ks) j) o r.front r.behind)
