-- A segment whose edit lies in its message or check: the separator is found, the message is read, and the syndrome is seen.
use Rattle.std.specs.Prelude.{◌≡◌, Bool, ◌&&◌, ◌||◌, List, [], ◌∷◌, ◌++◌, ℕ, zero, suc, ◌+◌, ◌-◌, ◌≤◌, ◌<◌, eqb, get_or}
use Rattle.std.proofs.Math.Path.{refl}
use Rattle.std.proofs.Common.{sym, ap, ◌∙◌, append-nil, arith, eqb-true, length-append, length-take, length-drop, length-take-le}
use Rattle.std.proofs.Math.Bool.{true, false, true≢false}
use Rattle.std.proofs.Math.Option.{some}
use Rattle.std.proofs.Math.ListN.{length, take, drop, set, length-set}
use Rattle.std.proofs.Math.Seq.{take_at, drop_at, append_snoc, drop-length}
use Rattle.std.proofs.lemmas.List.{take-append-le, set-get_or}
use Rattle.code.specs.Symbols.{Below}
use Rattle.code.proofs.laws.Below.{Below-cons, Below-take, Below-drop, Below-append}
use Rattle.code.specs.Repair.{put_in, leave_out}
use Rattle.code.specs.Segment.{check, syndrome_of, separator}
use Rattle.code.proofs.laws.Segment.{check_below, length_syndrome, width_two, separator-Apart}
use Rattle.code.specs.Reading.{is_prefix, Shift, level, early, late, moved, separator_at, after_separator, check_agrees, syndrome_agrees, link_of, taken, message_at, message}
use Rattle.code.proofs.laws.Reading.{drop_off, prefix_is, find_level, find_early, find_late}
use Rattle.code.specs.declared.Link.TheVariants.{More, Less}
use Rattle.code.proofs.laws.EditedMessage.{Both, Both-same, Both-set, Both-leave, Both-put, repaired_is, syndrome_tells, check_tells}

-- Lists under an edit

pub length_leave : (i : ℕ) (l : List ℕ) → i < length l → suc (length (leave_out i l)) ≡ length l
length_leave i l h = simp (length-append, length-take, length-drop) (omega arith)

pub length_put : (i x : ℕ) (l : List ℕ) → i ≤ length l → length (put_in i x l) ≡ suc (length l)
length_put i x l h = simp (length-append, length-take, length-drop) (omega arith)

module _ {n : ℕ} where
  pub Below-set : (i x : ℕ) (l : List ℕ) → x < n → Below n l → Below n (set l i x)
  Below-set i x [] hx h = h
  Below-set zero x (y ∷ l) hx h = Below-cons x l hx (λ j. h (suc j))
  Below-set (suc i) x (y ∷ l) hx h = Below-cons y (set l i x) (h 0) (Below-set i x l hx (λ j. h (suc j)))

  pub Below-leave : (i : ℕ) (l : List ℕ) → Below n l → Below n (leave_out i l)
  Below-leave i l h = Below-append (take i l) (drop (suc i) l) (Below-take i l h) (Below-drop (suc i) l h)

  pub Below-put : (i x : ℕ) (l : List ℕ) → x < n → Below n l → Below n (put_in i x l)
  Below-put i x l hx h = Below-append (take i l) (x ∷ drop i l) (Below-take i l h) (Below-cons x (drop i l) hx (Below-drop i l h))

pub leave_last : (y : List ℕ) (c : ℕ) → leave_out (length y) (y ++ c ∷ []) ≡ y
leave_last [] c = refl
leave_last (x ∷ y) c = ap (λ (l : List ℕ). x ∷ l) (leave_last y c)

-- all but the last
leave_end : (k : ℕ) (l : List ℕ) → suc k ≡ length l → leave_out k l ≡ take k l
leave_end k l e = rw (e, drop-length l) (append-nil (take k l))

put_end : (k : ℕ) (l : List ℕ) → length l ≡ suc k → put_in k (get_or l k 0) (take k l) ≡ l
put_end k [] e = absurd (omega arith)
put_end zero (x ∷ []) e = refl
put_end zero (x ∷ y ∷ l) e = absurd (omega arith)
put_end (suc k) (x ∷ l) e = ap (λ (z : List ℕ). x ∷ z) (put_end k l (omega arith))

-- a list of two or more is its first two entries and the rest
pub heads : (l : List ℕ) → 2 ≤ length l → l ≡ get_or l 0 0 ∷ get_or l 1 0 ∷ drop 2 l
heads [] h = absurd (omega arith)
heads (x ∷ []) h = absurd (omega arith)
heads (x ∷ y ∷ l) h = refl

-- separator and syndrome of m, and what follows
abbrev pub tail : List ℕ → List ℕ → List ℕ
tail m r = separator m ∷ separator m ∷ separator m ∷ syndrome_of m ++ r

-- the separator of m is found in d moved by j, m's syndrome and then r follow it, and m is read
pub record Settles (j : Shift) (m r d : List ℕ) : Type 0 where
  pub found : separator_at (length m) d ≡ some j
  pub after : after_separator j (length m) d ≡ syndrome_of m ++ r
  pub gives : message_at j (length m) d ≡ message m

module _ (m : List ℕ) (two : 2 ≤ length m) (small : Below 4 m) (r : List ℕ) where
  -- the syndrome's first symbol is not the separator's
  pub syndrome_heads : (a₁ : ℕ) × (a' : List ℕ) × (syndrome_of m ++ r ≡ a₁ ∷ a') × (separator m ≡ a₁ → ⊥)
  syndrome_heads =
      let a = syndrome_of m in
      let e = heads a (omega (arith, length_syndrome m, width_two (length m) two)) in
      (get_or a 0 0, get_or a 1 0 ∷ drop 2 a ++ r, ap (λ (l : List ℕ). l ++ r) e, (separator-Apart m).second)

  -- what is read if the syndrome stands behind the separator
  message_is : (j : Shift) (d x y : List ℕ) → take (length m) d ≡ x → take (moved j (length m)) d ≡ y → after_separator j (length m) d ≡ syndrome_of m ++ r → length x ≡ length m → Below 4 x → Both (link_of j) m y → Both (link_of j) x y → (taken j (length m) d x ≡ true → is_prefix (syndrome_of x) (syndrome_of m ++ r) ≡ false → x ≡ m) → message_at j (length m) d ≡ message m
  unfolding message_at
  message_is j d x y ex ey ea n sx bm bx other = go (taken j (length m) d x) refl (is_prefix (syndrome_of x) (syndrome_of m ++ r)) refl
    where
      go : (b : Bool) → taken j (length m) d x ≡ b → (c : Bool) → is_prefix (syndrome_of x) (syndrome_of m ++ r) ≡ c → message_at j (length m) d ≡ message m
      go true t true s =
          let q : syndrome_of x ≡ syndrome_of m = prefix_is (syndrome_of x) (syndrome_of m) r (length_syndrome x ∙ rw n (sym (length_syndrome m))) s in
          rw (ex, t) (ap message (syndrome_tells (link_of j) m x y (omega arith) n small sx bm bx q))
      go true t false s = rw (ex, t) (ap message (other t s))
      go false t c s = rw (ex, ey, ea, t) (repaired_is (link_of j) m y r (omega arith) small bm)

  -- the check tells one replaced symbol, and where the syndrome is not asked the test is the check's
  or_check : (d x : List ℕ) → after_separator level (length m) d ≡ syndrome_of m ++ r → taken level (length m) d x ≡ true → is_prefix (syndrome_of x) (syndrome_of m ++ r) ≡ false → check_agrees (length m) d x ≡ true
  unfolding syndrome_agrees
  or_check d x ea t s = go (check_agrees (length m) d x) (is_prefix (syndrome_of x) (after_separator level (length m) d)) (rw ea s) t
    where
      go : (a b : Bool) → b ≡ false → (a || b) ≡ true → a ≡ true
      go true b e h = refl
      go false b e h = absurd (true≢false (sym h ∙ e))

  unseen : (j : Shift) (d x : List ℕ) → after_separator j (length m) d ≡ syndrome_of m ++ r → syndrome_agrees j (length m) d x ≡ true → is_prefix (syndrome_of x) (syndrome_of m ++ r) ≡ false → ⊥
  unfolding syndrome_agrees
  unseen j d x ea t s = true≢false (sym t ∙ rw ea s)

  after_four : (c n : ℕ) (y : List ℕ) → n ≡ length y + 4 → drop n (y ++ c ∷ tail m r) ≡ syndrome_of m ++ r
  after_four c n y e = drop_off n y (c ∷ tail m r) 4 e

  -- a message symbol replaced, by another or by itself
  pub Settles-sub : (i x : ℕ) → i < length m → x < 4 → Settles level m r (set m i x ++ check m ∷ tail m r)
  unfolding check_agrees is_prefix
  Settles-sub i x h hx =
      let y = set m i x in
      let d = y ++ check m ∷ tail m r in
      let n : length y ≡ length m = simp length-set in
      let a : after_separator level (length m) d ≡ syndrome_of m ++ r = after_four (check m) (length m + 1 + 3) y (omega arith) in
      let t : take (length m) d ≡ y = take_at y (check m ∷ tail m r) (length m) n in
      let c : drop (length m) d ≡ check m ∷ tail m r = drop_at y (check m ∷ tail m r) (length m) n in
      record {
        found = find_level (length m) (separator m) (syndrome_of m ++ r) y (check m) n;
        after = a;
        gives = message_is level d y y t t a n (Below-set i x m hx small) (Both-set i x m) (Both-same y)
            (λ p q. check_tells i x m h small hx (eqb-true (check y) (check m) (and-true (eqb (check y) (check m)) (rw c at (or_check d y a p q)))));
      }
    where
      and-true : (b : Bool) → (b && true) ≡ true → b ≡ true
      and-true true e = refl
      and-true false e = e

  pub Settles-none : Settles level m r (m ++ check m ∷ tail m r)
  Settles-none = rw (set-get_or m 0 0) at (Settles-sub 0 (get_or m 0 0) (omega arith) (small 0))

  -- the check replaced
  pub Settles-check : (c : ℕ) → Settles level m r (m ++ c ∷ tail m r)
  Settles-check c =
      let d = m ++ c ∷ tail m r in
      let a : after_separator level (length m) d ≡ syndrome_of m ++ r = after_four c (length m + 1 + 3) m (omega arith) in
      let t : take (length m) d ≡ m = take_at m (c ∷ tail m r) (length m) refl in
      record {
        found = find_level (length m) (separator m) (syndrome_of m ++ r) m c refl;
        after = a;
        gives = message_is level d m m t t a refl small (Both-same m) (Both-same m) (λ p q. refl);
      }

  -- a message symbol left out
  pub Settles-del : (i : ℕ) → i < length m → Settles early m r (leave_out i m ++ check m ∷ tail m r)
  Settles-del i h =
      let y = leave_out i m in
      let c = check m in
      let x = y ++ c ∷ [] in
      let d = y ++ c ∷ tail m r in
      let n = length_leave i m h in
      let nx : length x ≡ length m = omega (arith, length-append y (c ∷ [])) in
      let a : after_separator early (length m) d ≡ syndrome_of m ++ r = after_four c (length m + 1 - 1 + 3) y (omega arith) in
      let s : x ++ tail m r ≡ d = append_snoc y c (tail m r) in
      let tx : take (length m) d ≡ x = rw (← s) (take_at x (tail m r) (length m) nx) in
      let ty : take (length m - 1) d ≡ y = take_at y (c ∷ tail m r) (length m - 1) (omega arith) in
      let q = syndrome_heads in
      let bx : Both Less x y = rw (leave_last y c) at (Both-leave (length y) x (omega arith)) in
      record {
        found = rw (← s) (find_early (length m) (separator m) (syndrome_of m ++ r) x q.0 q.1 q.2 q.3 nx);
        after = a;
        gives = message_is early d x y tx ty a nx (Below-append y (c ∷ []) (Below-leave i m small) (Below-cons c [] (check_below m) (λ j. omega arith))) (Both-leave i m h) bx
            (λ p f. absurd (unseen early d x a p f));
      }

  -- the check left out
  pub Settles-no_check : Settles early m r (m ++ tail m r)
  Settles-no_check =
      let d = m ++ tail m r in
      let y = leave_out (length m - 1) m in
      let a : after_separator early (length m) d ≡ syndrome_of m ++ r = drop_off (length m + 1 - 1 + 3) m (tail m r) 3 (omega arith) in
      let tx : take (length m) d ≡ m = take_at m (tail m r) (length m) refl in
      let ty : take (length m - 1) d ≡ y = take-append-le (length m - 1) m (tail m r) (omega arith) ∙ sym (leave_end (length m - 1) m (omega arith)) in
      let q = syndrome_heads in
      let b = Both-leave (length m - 1) m (omega arith) in
      record {
        found = find_early (length m) (separator m) (syndrome_of m ++ r) m q.0 q.1 q.2 q.3 refl;
        after = a;
        gives = message_is early d m y tx ty a refl small b b (λ p f. refl);
      }

  -- a symbol put in before a message symbol or the check
  pub Settles-ins : (i x : ℕ) → i ≤ length m → x < 4 → Settles late m r (put_in i x m ++ check m ∷ tail m r)
  Settles-ins i x h hx =
      let y = put_in i x m in
      let d = y ++ check m ∷ tail m r in
      let n = length_put i x m h in
      let x' = take (length m) y in
      let nx : length x' ≡ length m = length-take-le (length m) y (omega arith) in
      let a : after_separator late (length m) d ≡ syndrome_of m ++ r = after_four (check m) (length m + 1 + 1 + 3) y (omega arith) in
      let tx : take (length m) d ≡ x' = take-append-le (length m) y (check m ∷ tail m r) (omega arith) in
      let ty : take (length m + 1) d ≡ y = take_at y (check m ∷ tail m r) (length m + 1) (omega arith) in
      let b : Both More x' y = rw (put_end (length m) y n) at (Both-put (length m) (get_or y (length m) 0) x' (omega arith)) in
      record {
        found = find_late (length m) (separator m) (syndrome_of m ++ r) y (check m) (separator-Apart m).first (omega arith);
        after = a;
        gives = message_is late d x' y tx ty a nx (Below-take (length m) y (Below-put i x m hx small)) (Both-put i x m h) b
            (λ p f. absurd (unseen late d x' a p f));
      }
