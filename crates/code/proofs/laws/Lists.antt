-- Laws of lists: buffers whose front is written entry by entry, equal entries, and blocks put into a buffer.
--   put_more        one more entry behind those already written
--   put_four        four more entries behind them
--   drop_inside     an entry is left, so the place is one of the list's
--   drop_next       what is left after one more entry
--   write_next      one more entry of a list that is being written
--   write_all       the whole of the list is written
--   drop_four       the next four entries of a list
--   take-replicate  the front of equal entries
--   replicate_more  one more of them
--   first_rest      the first of a list, and those behind it
--   drop_front      behind a front
use Rattle.std.specs.Prelude.{◌≡◌, refl, ℕ, zero, suc, ◌+◌, ◌-◌, ◌<◌, ◌≤◌, take, get_or, set, replicate}
use Rattle.std.proofs.Common.{sym, ◌∙◌, zero-add, add-zero, add-one, arith, length-take, length-drop, take-append-drop, drop-cons, take_all, length-take-le, drop-drop, take-add}
use Rattle.std.proofs.Math.Path.{ap}
use mathlib.Core.List.{List, [], ◌∷◌, ◌++◌, append_assoc, append-nil}
use Rattle.std.proofs.Math.ListN.{length, drop, length-append}
use Rattle.std.proofs.lemmas.List.{set_at}
use Rattle.std.proofs.Math.Seq.{take_at, drop_at, take-length}
use Rattle.code.specs.Buffers.{put_at}

module _ {A : Type 0} where
  -- one more entry behind those already written
  pub put_more : (vs d : List A) (i : ℕ) (v : A) → length vs ≡ i → i < length d → set (vs ++ drop i d) i v ≡ (vs ++ v ∷ []) ++ drop (i + 1) d
  put_more vs [] i v e h = absurd (omega arith)
  put_more vs (z ∷ d) i v e h =
      rw (add-one, append_assoc vs (v ∷ []) (drop (suc i) (z ∷ d)), drop-cons (z ∷ d) i z h)
      (set_at vs (get_or (z ∷ d) i z) (drop (suc i) (z ∷ d)) v i e)

  -- four more entries behind those already written
  pub put_four : (vs d : List A) (j : ℕ) (a b c e : A) → length vs ≡ j → j + 3 < length d → set (set (set (set (vs ++ drop j d) j a) (j + 1) b) (j + 2) c) (j + 3) e ≡ (vs ++ a ∷ b ∷ c ∷ e ∷ []) ++ drop (j + 4) d
  put_four vs d j a b c e p h =
      rw (
        put vs j (j + 1) a refl p (omega arith),
        put (vs ++ a ∷ []) (j + 1) (j + 2) b (omega arith) (simp length-append (omega arith)) (omega arith),
        put ((vs ++ a ∷ []) ++ b ∷ []) (j + 2) (j + 3) c (omega arith) (simp length-append (omega arith)) (omega arith),
        put (((vs ++ a ∷ []) ++ b ∷ []) ++ c ∷ []) (j + 3) (j + 4) e (omega arith) (simp length-append (omega arith)) h,
      )
      (simp append_assoc)
    where
      put : (us : List A) (i k : ℕ) (v : A) → k ≡ i + 1 → length us ≡ i → i < length d → set (us ++ drop i d) i v ≡ (us ++ v ∷ []) ++ drop k d
      put us i k v n q l = rw n (put_more us d i v q l)

  -- an entry is left, so the place is one of the list's
  pub drop_inside : (w r : List A) (i : ℕ) (v : A) → drop i w ≡ v ∷ r → i < length w
  drop_inside w r i v e = omega (arith, length-drop i w, ap length e)

  -- what is left after one more entry
  pub drop_next : (w r : List A) (i : ℕ) (v : A) → drop i w ≡ v ∷ r → drop (i + 1) w ≡ r
  drop_next w r i v e = sym (drop-drop 1 i w) ∙ rw e

  -- of the list w the first i entries are written, and v is the next
  pub write_next : (w r d : List A) (i : ℕ) (v : A) → drop i w ≡ v ∷ r → i < length d → set (take i w ++ drop i d) i v ≡ take (i + 1) w ++ drop (i + 1) d
  write_next w r d i v e h =
      let l = drop_inside w r i v e in
      let t : length (take i w) ≡ i = length-take-le i w (omega arith) in
      put_more (take i w) d i v t h ∙ rw (take-add i 1 w, e)

  -- the whole of the list is written
  pub write_all : (w d : List A) (i : ℕ) → i ≡ length w → take i w ++ drop i d ≡ w ++ drop (length w) d
  write_all w d i e = rw (e, take-length)

  -- the next four entries of a list
  pub drop_four : (l : List A) (j : ℕ) (z : A) → j + 3 < length l → drop j l ≡ get_or l j z ∷ get_or l (j + 1) z ∷ get_or l (j + 2) z ∷ get_or l (j + 3) z ∷ drop (j + 4) l
  drop_four l j z h =
      step j (j + 1) (omega arith) (omega arith)
      ∙ rw (step (j + 1) (j + 2) (omega arith) (omega arith), step (j + 2) (j + 3) (omega arith) (omega arith), step (j + 3) (j + 4) (omega arith) (omega arith))
    where
      step : (i k : ℕ) → k ≡ suc i → i < length l → drop i l ≡ get_or l i z ∷ drop k l
      step i k e q = rw e (drop-cons l i z q)

-- the front of equal entries
pub take-replicate : {A : Type 0} (l n : ℕ) (x : A) → l ≤ n → take l (replicate n x) ≡ replicate l x
take-replicate zero n x h = refl
take-replicate (suc l) zero x h = absurd (omega arith)
take-replicate (suc l) (suc n) x h = ap (λ r. x ∷ r) (take-replicate l n x (omega arith))

-- one more of equal entries
pub replicate_more : (n x : ℕ) → replicate n x ++ x ∷ [] ≡ replicate (suc n) x
replicate_more zero x = refl
replicate_more (suc n) x = ap (◌∷◌ x) (replicate_more n x)

-- Blocks put into a buffer

pub put_first : (d b : List ℕ) → put_at d 0 b ≡ b ++ drop (length b) d
unfolding put_at
put_first d b = rw (zero-add (length b))

pub put_nothing : (d : List ℕ) (i : ℕ) → put_at d i [] ≡ d
unfolding put_at
put_nothing d i = rw (add-zero i, append-nil) (take-append-drop i d)

module _ (d : List ℕ) (i : ℕ) (b : List ℕ) (room : i + length b ≤ length d) where
  -- how long the part up to the block's end is
  put_front : length (take i d ++ b) ≡ i + length b
  put_front = simp (length-append, length-take) (omega arith)

  pub length_put : length (put_at d i b) ≡ length d
  unfolding put_at
  length_put = simp (length-append (take i d ++ b), length-drop) (omega (arith, put_front))

  pub take_put : take (i + length b) (put_at d i b) ≡ take i d ++ b
  unfolding put_at
  take_put = take_at (take i d ++ b) (drop (i + length b) d) (i + length b) put_front

  pub drop_put : drop (i + length b) (put_at d i b) ≡ drop (i + length b) d
  unfolding put_at
  drop_put = drop_at (take i d ++ b) (drop (i + length b) d) (i + length b) put_front

  -- two neighbouring puts are one put of the joined block
  pub put_put : (c : List ℕ) → put_at (put_at d i b) (i + length b) c ≡ put_at d i (b ++ c)
  unfolding put_at
  put_put c = ap (λ (l : List ℕ). l ++ c ++ drop (i + length b + length c) (put_at d i b)) take_put ∙ rw (rest, append_assoc (take i d) b c)
    where
      rest : drop (i + length b + length c) (put_at d i b) ≡ drop (i + length (b ++ c)) d
      rest =
          let n : i + length (b ++ c) ≡ i + length b + length c = simp length-append (omega arith) in
          rw n (sym (drop-drop (length c) (i + length b) (put_at d i b)) ∙ rw drop_put (drop-drop (length c) (i + length b) d))

  -- one more entry behind a block
  pub put_one : (v : ℕ) → i + length b < length d → set (put_at d i b) (i + length b) v ≡ put_at d i (b ++ v ∷ [])
  unfolding put_at
  put_one v h =
      let n : i + length (b ++ v ∷ []) ≡ i + length b + 1 = simp length-append (omega arith) in
      put_more (take i d ++ b) d (i + length b) v put_front h ∙ rw (n, append_assoc (take i d) b (v ∷ []))

-- Fronts and rests

-- the first of a list, and those behind it as a part
pub first_rest : (ks : List ℕ) → 0 < length ks → ks ≡ get_or ks 0 0 ∷ take (length ks - 1) (drop 1 ks)
first_rest [] h = absurd (omega arith)
first_rest (k ∷ ks) h = let e : suc (length ks) - 1 ≡ length ks = omega arith in rw e (ap (◌∷◌ k) (sym (take_all (length ks) ks (omega arith))))

-- behind as many as a front has
pub drop_front : (o : ℕ) (l : List ℕ) → drop (length (take o l)) l ≡ drop o l
drop_front zero l = refl
drop_front (suc o) [] = refl
drop_front (suc o) (x ∷ l) = drop_front o l
