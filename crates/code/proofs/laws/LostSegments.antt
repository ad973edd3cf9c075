-- How a reading goes on: at a segment that a step loses, and at a clean one.
--   heads, tails     equal lists of outcomes
--   has, has-false   whether the segment behind some lengths has a marker
--   at_loss_lem      a lost segment and those after it are read from its start
--   clean_rest       a clean segment at a start is read, and those behind it
use Rattle.std.specs.Prelude.{◌≡◌, Bool, false, cond, get_or, take, drop}
use Rattle.std.proofs.Math.Path.{refl, ap}
use Rattle.std.proofs.Common.{sym, subst, ◌∙◌, arith, length-take, drop-drop}
use Rattle.std.proofs.Math.Bool.{true}
use mathlib.Core.List.{List, [], ◌∷◌, ◌++◌, map}
use Rattle.std.proofs.Math.Option.{Option, some, none}
use Prim.Native.Nat.{ℕ, zero, suc, ◌+◌, ◌-◌, ◌≤◌}
use Rattle.std.proofs.Math.Decide.{dec_le}
use Rattle.std.proofs.Math.Nat.{lt_of_not-le}
use Rattle.std.proofs.Math.ListN.{length, length-append, length-drop}
use Rattle.code.proofs.laws.Lists.{drop_front}
use Rattle.code.specs.Symbols.{Below, as_symbols, has_unknown}
use Rattle.code.proofs.laws.Letters.{length_as, as_Below, as_append, as_drop, as_same}
use Rattle.code.proofs.laws.Below.{Below-take, Below-drop}
use Rattle.code.specs.Segment.{segment, last_of, size}
use Rattle.code.proofs.laws.Segment.{length-segment, segment-Below}
use Rattle.code.specs.Layout.{joined}
use Rattle.code.proofs.laws.Edits.{both}
use Rattle.code.specs.Reading.{clean, SegmentResult, read, read_segment}
use Rattle.code.proofs.laws.Reading.{prefix_split}
use Rattle.code.proofs.laws.CleanLetters.{clean_letters}
use Rattle.code.specs.Strands.{Try, scan, told, Outcome, lost_outcome, unfound, lost_and_rest, segment_and_rest, reading}
use Rattle.code.proofs.laws.Strands.{clean_read}
use Rattle.code.specs.LaterSegments.{place_behind, marked_behind, clean_and_rest}
use Rattle.code.specs.declared.Edit.{Edit}
use Rattle.code.specs.declared.Edit.TheVariants.{None, Sub, Del, Ins}
use Rattle.code.specs.declared.Verdict.TheVariants.{Read, Unknown, Lost, NoStart}

-- The reading at a lost segment

-- behind a piece at the front
drop_piece : (o : ℕ) (w l : List ℕ) → drop (length (take o l ++ w)) l ≡ drop (length w) (drop o l)
drop_piece o w l =
    let e : length (take o l ++ w) ≡ length (take o l) + length w = length-append (take o l) w in
    rw e (sym (drop-drop (length w) (length (take o l)) l) ∙ ap (drop (length w)) (drop_front o l))

-- no step loses a segment that is read
read_not_lost : (e : Edit) (piece : List ℕ) (step : ℕ) → told (Read e) piece ≡ Lost step → ⊥
read_not_lost None piece step q = go (has_unknown piece) q
  where
    go : (b : Bool) → cond b Unknown (Read None) ≡ Lost step → ⊥
    go true q = let z : ◌≡◌ {A = ℕ} 0 1 = cc in omega arith
    go false q = let z : ◌≡◌ {A = ℕ} 0 1 = cc in omega arith
read_not_lost (Sub i x) piece step q = let z : ◌≡◌ {A = ℕ} 0 1 = cc in omega arith
read_not_lost (Del i x) piece step q = let z : ◌≡◌ {A = ℕ} 0 1 = cc in omega arith
read_not_lost (Ins i x) piece step q = let z : ◌≡◌ {A = ℕ} 0 1 = cc in omega arith

-- nor one that has no start
start_not_lost : (step : ℕ) → NoStart ≡ Lost step → ⊥
start_not_lost step q = let z : ◌≡◌ {A = ℕ} 0 1 = cc in omega arith

module _ {o p : Outcome} {os ps : List Outcome} (e : o ∷ os ≡ p ∷ ps) where
  pub heads : o ≡ p
  heads = cc

  pub tails : os ≡ ps
  tails = cc

unfound_not_lost : (ks : List ℕ) (os : List Outcome) (piece : List ℕ) (k step : ℕ) (ps : List Outcome) → map unfound ks ≡ os ++ lost_outcome piece k (Lost step) ∷ ps → ⊥
unfound_not_lost [] [] piece k step ps e = let z : ◌≡◌ {A = ℕ} 0 1 = cc in omega arith
unfound_not_lost [] (o ∷ os) piece k step ps e = let z : ◌≡◌ {A = ℕ} 0 1 = cc in omega arith
unfound_not_lost (q ∷ ks) [] piece k step ps e = start_not_lost step (ap (λ (o : Outcome). o.verdict) (heads e))
unfound_not_lost (q ∷ ks) (o ∷ os) piece k step ps e = unfound_not_lost ks os piece k step ps (tails e)

-- whether the segment behind those of some lengths has a marker
abbrev pub has : Bool → List ℕ → Bool
has marked [] = marked
has marked (k ∷ ks) = true

pub has-false : (ks : List ℕ) → has false ks ≡ marked_behind ks
has-false [] = refl
has-false (k ∷ ks) = refl

-- a lost segment and those after it, as they are read from its start
abbrev pub at_loss : Bool → ℕ → List ℕ → ℕ → List ℕ → List Outcome
at_loss marked k behind step l =
    lost_and_rest k behind (as_symbols l) l step (λ n g o. reading scan n true g behind (drop o (as_symbols l)) (drop o l)) (scan (size marked k) behind (as_symbols l) l)

module _ (k : ℕ) (behind piece : List ℕ) (step : ℕ) (later : List Outcome) where
  abbrev pub lost : Outcome
  lost = lost_outcome piece k (Lost step)

  -- the first segment of a reading is lost
  here : (passed : ℕ) (marked : Bool) (f : ℕ) (l : List ℕ) → reading scan passed marked f (k ∷ behind) (as_symbols l) l ≡ lost ∷ later → lost ∷ later ≡ at_loss marked k behind step l
  unfolding reading
  here (suc passed) marked f l e = absurd (start_not_lost step (ap (λ (o : Outcome). o.verdict) (heads e)))
  here zero marked f l e = go (read_segment marked f k behind (as_symbols l) l) (scan (size marked k) behind (as_symbols l) l) e
    where
      next : ℕ → ℕ → ℕ → List Outcome
      next n g o = reading scan n true g behind (drop o (as_symbols l)) (drop o l)

      go : (r : SegmentResult) (x : Option Try) → segment_and_rest k behind (as_symbols l) l next x r ≡ lost ∷ later → lost ∷ later ≡ lost_and_rest k behind (as_symbols l) l step next x
      go (read m d o) x q = absurd (read_not_lost d (take o l) step (ap (λ (o : Outcome). o.verdict) (heads q)))
      go (SegmentResult.lost i) (some t) q = let z : i ≡ step = let v = ap (λ (o : Outcome). o.verdict) (heads q) in cc in rw z at (sym q)
      go (SegmentResult.lost i) none q = let z : i ≡ step = let v = ap (λ (o : Outcome). o.verdict) (heads q) in cc in rw z at (sym q)

  has-true : (ks l : List ℕ) → lost ∷ later ≡ at_loss (has true ks) k behind step l → lost ∷ later ≡ at_loss true k behind step l
  has-true [] l h = h
  has-true (q ∷ ks) l h = h

  -- so is one behind others
  pub at_loss_lem : (before : List ℕ) (passed : ℕ) (marked : Bool) (f : ℕ) (l : List ℕ) (earlier : List Outcome) → length earlier ≡ length before → reading scan passed marked f (before ++ k ∷ behind) (as_symbols l) l ≡ earlier ++ lost ∷ later → lost ∷ later ≡ at_loss (has marked before) k behind step (drop (place_behind earlier) l)
  unfolding reading joined
  at_loss_lem [] passed marked f l [] n e = here passed marked f l e
  at_loss_lem [] passed marked f l (x ∷ earlier) n e = absurd (omega arith)
  at_loss_lem (b ∷ before) passed marked f l [] n e = absurd (omega arith)
  at_loss_lem (b ∷ before) (suc passed) marked f l (x ∷ earlier) n e =
      let h = at_loss_lem before passed true f l earlier (omega arith) (tails e) in
      let p : x.piece ≡ [] = ap (λ (o : Outcome). o.piece) (sym (heads e)) in
      rw p (has-true before (drop (place_behind earlier) l) h)
  at_loss_lem (b ∷ before) zero marked f l (x ∷ earlier) n e =
      go (read_segment marked f b (before ++ k ∷ behind) (as_symbols l) l) (scan (size marked b) (before ++ k ∷ behind) (as_symbols l) l) e
      (λ i g o q. at_loss_lem before i true g (drop o l) earlier (omega arith) q)
    where
      qs : List ℕ
      qs = before ++ k ∷ behind

      next : ℕ → ℕ → ℕ → List Outcome
      next i g o = reading scan i true g qs (drop o (as_symbols l)) (drop o l)

      Later : Type 0
      Later = (i g o : ℕ) → reading scan i true g qs (as_symbols (drop o l)) (drop o l) ≡ earlier ++ lost ∷ later → lost ∷ later ≡ at_loss (has true before) k behind step (drop (place_behind earlier) (drop o l))

      -- the piece of the first segment ends at o
      behind_piece : (i g o : ℕ) → Later → x.piece ≡ take o l → next i g o ≡ earlier ++ lost ∷ later → lost ∷ later ≡ at_loss true k behind step (drop (length (x.piece ++ joined (map (λ (y : Outcome). y.piece) earlier))) l)
      behind_piece i g o h p q =
          rw (p, drop_piece o (joined (map (λ (y : Outcome). y.piece) earlier)) l) (has-true before (drop (place_behind earlier) (drop o l)) (h i g o (rw (as_drop o l) q)))

      go : (r : SegmentResult) (y : Option Try) → segment_and_rest b qs (as_symbols l) l next y r ≡ x ∷ (earlier ++ lost ∷ later) → Later → lost ∷ later ≡ at_loss true k behind step (drop (length (x.piece ++ joined (map (λ (y : Outcome). y.piece) earlier))) l)
      go (read m d o) y q h = behind_piece 0 (last_of m) o h (ap (λ (o : Outcome). o.piece) (sym (heads q))) (tails q)
      go (SegmentResult.lost i) (some t) q h = behind_piece t.passed (get_or (as_symbols l) (t.start - 1) 0) t.start h (ap (λ (o : Outcome). o.piece) (sym (heads q))) (tails q)
      go (SegmentResult.lost i) none q h = absurd (unfound_not_lost qs earlier piece k step later (tails q))

-- A clean segment at a start

module _ (f j : ℕ) (js l : List ℕ) (two : 2 ≤ j) (stands : clean j f (as_symbols l) l ≡ true) where
  abbrev s : List ℕ
  s = as_symbols l

  abbrev m : List ℕ
  m = take j (drop 2 s)

  abbrev w : List ℕ
  w = segment true f m

  split : l ≡ w ++ drop (length w) l
  unfolding clean
  split = prefix_split w l stands

  long : length m ≡ j
  unfolding size
  long = go (dec_le (2 + j) (length l))
    where
      go : Dec (2 + j ≤ length l) → length m ≡ j
      go (yes h) = simp (length-take, length-drop) (omega (arith, length_as l))
      go (no h) =
          let q = lt_of_not-le h in
          let e : length m ≡ length l - 2 = simp (length-take, length-drop) (omega (arith, length_as l)) in
          absurd (omega (arith, e, length-segment true f m, ap length split, length-append w (drop (length w) l)))

  small : Below 4 m
  small = Below-take j (drop 2 s) (Below-drop 2 s (as_Below l))

  known : has_unknown (take (size true j) l) ≡ false
  known = go (has_unknown (take (size true j) l)) refl
    where
      go : (b : Bool) → has_unknown (take (size true j) l) ≡ b → b ≡ false
      go false q = refl
      go true q = let z = (both (clean j f s s) _ (sym (clean_letters j f l) ∙ stands)).1 in let y = rw (long, q) at z in cc

  symbols : s ≡ w ++ as_symbols (drop (length w) l)
  symbols = ap as_symbols split ∙ as_append w (drop (length w) l) ∙ ap (λ (u : List ℕ). u ++ as_symbols (drop (length w) l)) (as_same w (segment-Below true f m small))

  -- it is read, and those behind it
  pub clean_rest : (js ≡ [] → length l ≡ size true j) → reading scan 0 true f (j ∷ js) s l ≡ clean_and_rest j js s l
  unfolding reading
  clean_rest last = rw (is, known)
    where
      none_left : js ≡ [] → as_symbols (drop (length w) l) ≡ []
      none_left e = nothing (as_symbols (drop (length w) l)) (omega (arith, last e, length_as (drop (length w) l), length-drop (length w) l, length-segment true f m, ap (size true) long))
        where
          nothing : (u : List ℕ) → length u ≡ 0 → u ≡ []
          nothing [] h = refl
          nothing (x ∷ u) h = absurd (omega arith)

      is : read_segment true f j js s l ≡ read m None (size true j)
      is = rw long at (subst (λ (u : List ℕ). read_segment true f (length m) js u l ≡ read m None (size true (length m))) (sym symbols) (clean_read true f m (as_symbols (drop (length w) l)) js l (rw long two) small none_left (sym (length_as l) ∙ ap length symbols)))
