-- The step that a reading names, and that step's own words.
--   lost_loses   its own words call the segment lost
--   loses_lost   a step whose own words call a segment lost is named
--   First-lost   it is the first step that does
use Rattle.std.proofs.Math.Path.{◌≡◌, refl}
use Rattle.std.proofs.Common.{sym, ap, subst, ◌∙◌, arith, lt-ltb, ltb-true}
use Rattle.std.proofs.Math.Bool.{Bool, true, false, cond}
use mathlib.Core.List.{List, [], ◌∷◌}
use Rattle.std.specs.Prelude.{◌⊎◌, ℕ, ◌+◌, ◌<◌, length, take, drop}
use Rattle.std.proofs.Math.Logic.{inl, inr}
use Rattle.std.proofs.Math.Option.{Option, some, none}
use Rattle.std.proofs.Math.Dec.{ltb}
use Rattle.code.specs.Symbols.{Below, letter_kinds, as_symbols}
use Rattle.code.proofs.laws.Letters.{as_Below, as_take, as_same, as_symbol, as_Fits, as_applied}
use Rattle.code.proofs.laws.Below.{Below-take}
use Rattle.code.specs.Layers.{Word, layer, width, number}
use Rattle.code.specs.Repair.{repair}
use Rattle.code.proofs.laws.Repair.{repair-none, repair_nothing}
use Rattle.code.specs.Segment.{last_of, data_at, size}
use Rattle.code.proofs.laws.Segment.{segment-Below}
use Rattle.code.specs.Edits.{applied, Fits, judged}
use Rattle.code.proofs.laws.Judged.{judged-Named, judged-none, judged-Fits}
use Rattle.code.specs.Reading.{Shift, level, early, late, moved, first_shift, whole, separator_at, after_separator, check_agrees, MessageResult, message, both_layers, repaired, link_of, taken, message_at, message_without, read_whole, read_hit, read_message, clean, settled, behind, around, end_of, SegmentResult, with_edit, with_end, with_message, read_segment}
use Rattle.code.proofs.laws.MessageBelow.{read_message-Below}
use Rattle.code.specs.declared.Edit.{Edit}
use Rattle.code.specs.declared.Edit.TheVariants.{None, Sub, Del, Ins}
use Rattle.lines.specs.Truth.{Site, symbols_at, data_of, Gives, anew, TurnsInto, NoWord, Lost7, Lost8, Lost9, Loses, in_3, in_6, in_7, in_8, in_9, First}

-- the edits of step 9, and those that name letters

-- an edit fits more letters too
Fits-more : (e : Edit) (n : ℕ) → Fits 4 e n → Fits letter_kinds e n
Fits-more None n h = tt
Fits-more (Sub i x) n h = (h.0, omega (arith, h.1))
Fits-more (Del i x) n h = h
Fits-more (Ins i x) n h = (h.0, omega (arith, h.1))

module _ (w : List ℕ) (small : Below 4 w) (v : List ℕ) where
  -- an edit that turns the segment into the piece does so with its letter read as a symbol
  pub turns_symbols : (e : Edit) → TurnsInto w v e → Fits 4 (as_symbol e) (length w) × (applied (as_symbol e) w ≡ as_symbols v)
  turns_symbols e t = (as_Fits letter_kinds e (length w) t.0, ap (applied (as_symbol e)) (sym (as_same w small)) ∙ sym (as_applied e w) ∙ t.1)

  -- an edit of step 9 turns the segment into the piece
  pub symbols_turn : (e : Edit) → Fits 4 e (length w) → applied e w ≡ as_symbols v → TurnsInto w v e
  symbols_turn e h t = (Fits-more e (length w) h, ap as_symbols t ∙ as_same (as_symbols v) (as_Below v))

-- the segment that is written anew has symbols
pub anew-Below : (p : Site) (k : ℕ) (m : List ℕ) → Gives p k m → Below 4 (anew p m)
anew-Below p k m g = segment-Below p.marked p.f m (read_message-Below p.marked k (symbols_at p) m (as_Below p.letters) g)

-- the first of the three shifts
none_shifted : (q : Shift → Bool) → first_shift q ≡ none → (e : Shift) → q e ≡ false
none_shifted q h e = go (q level) (q early) (q late) refl refl refl h e
  where
    go : (a b c : Bool) → q level ≡ a → q early ≡ b → q late ≡ c → cond a (some level) (cond b (some early) (cond c (some late) none)) ≡ none → (e : Shift) → q e ≡ false
    go true b c x y z r e = let w : ◌≡◌ {A = ℕ} 0 1 = cc in absurd (omega arith)
    go false true c x y z r e = let w : ◌≡◌ {A = ℕ} 0 1 = cc in absurd (omega arith)
    go false false true x y z r e = let w : ◌≡◌ {A = ℕ} 0 1 = cc in absurd (omega arith)
    go false false false x y z r level = x
    go false false false x y z r early = y
    go false false false x y z r late = z

module _ (p : Site) (k : ℕ) (ks : List ℕ) where
  abbrev marked : Bool
  marked = p.marked

  abbrev s : List ℕ
  s = symbols_at p

  abbrev d : List ℕ
  d = data_of p

  -- what steps 1 to 9 find of the segment
  abbrev pub found : SegmentResult
  found = read_segment p.marked p.f k ks (symbols_at p) p.letters

  at : {m n : ℕ} → m ≡ n → Loses p k ks m → Loses p k ks n
  at e l = subst (Loses p k ks) e l

  -- Steps 3 to 7

  abbrev layer_at : Shift → ℕ → Option Word
  layer_at j b = repair (link_of j) (number (layer b (take (width k) (after_separator j k d)))) (layer b (take (moved j k) d))

  no_word : (j : Shift) (b : ℕ) → layer_at j b ≡ none → NoWord p k ks j b
  no_word j b e w l y = repair-none (link_of j) _ _ e w (record { joined = l; written = y })

  word_none : (j : Shift) (b : ℕ) → NoWord p k ks j b → layer_at j b ≡ none
  word_none j b h = repair_nothing (link_of j) _ _ (λ w f. h w f.joined f.written)

  repaired_lost : (j : Shift) (step : ℕ) → repaired (link_of j) (width k) (take (moved j k) d) (after_separator j k d) ≡ MessageResult.lost step → (7 ≡ step) × ((length (after_separator j k d) < width k) ⊎ (NoWord p k ks j 1 ⊎ NoWord p k ks j 0))
  unfolding repaired
  repaired_lost j step e = go (ltb (length (after_separator j k d)) (width k)) (layer_at j 1) (layer_at j 0) refl refl refl e
    where
      go : (b : Bool) (h l : Option Word) → ltb (length (after_separator j k d)) (width k) ≡ b → layer_at j 1 ≡ h → layer_at j 0 ≡ l → cond b (MessageResult.lost 7) (both_layers h l) ≡ MessageResult.lost step → (7 ≡ step) × ((length (after_separator j k d) < width k) ⊎ (NoWord p k ks j 1 ⊎ NoWord p k ks j 0))
      go true h l x y z q = (cc, inl (ltb-true (length (after_separator j k d)) (width k) x))
      go false (some h) (some l) x y z q = let w : ◌≡◌ {A = ℕ} 0 1 = cc in absurd (omega arith)
      go false (some h) none x y z q = (cc, inr (inr (no_word j 0 z)))
      go false none l x y z q = go_none l q
        where
          go_none : (l : Option Word) → both_layers none l ≡ MessageResult.lost step → (7 ≡ step) × ((length (after_separator j k d) < width k) ⊎ (NoWord p k ks j 1 ⊎ NoWord p k ks j 0))
          go_none (some l) r = (cc, inr (inl (no_word j 1 y)))
          go_none none r = (cc, inr (inl (no_word j 1 y)))

  at_lost : whole marked s ≡ true → (j : Shift) → separator_at k d ≡ some j → (step : ℕ) → message_at j k d ≡ MessageResult.lost step → Loses p k ks step
  unfolding message_at
  at_lost w j f step e = go (taken j k d (take k d)) refl e
    where
      go : (b : Bool) → taken j k d (take k d) ≡ b → cond b (message (take k d)) (repaired (link_of j) (width k) (take (moved j k) d) (after_separator j k d)) ≡ MessageResult.lost step → Loses p k ks step
      go true x q = let z : ◌≡◌ {A = ℕ} 0 1 = cc in absurd (omega arith)
      go false x q =
          let r = repaired_lost j step q in
          at r.0 (in_7 (record { whole_marker = w; shift = j; separator = f; not_taken = x; no_repair = r.1 }))

  without_lost : whole marked s ≡ true → separator_at k d ≡ none → (step : ℕ) → message_without k d ≡ MessageResult.lost step → Loses p k ks step
  unfolding message_without
  without_lost w f step e = go (check_agrees k d (take k d)) refl e
    where
      go : (b : Bool) → check_agrees k d (take k d) ≡ b → cond b (message (take k d)) (MessageResult.lost 6) ≡ MessageResult.lost step → Loses p k ks step
      go true x q = let z : ◌≡◌ {A = ℕ} 0 1 = cc in absurd (omega arith)
      go false x q = let z : 6 ≡ step = cc in at z (in_6 (record { whole_marker = w; no_separator = f; disagrees = x }))

  message_lost : (step : ℕ) → read_message marked k s ≡ MessageResult.lost step → Loses p k ks step
  unfolding read_message
  message_lost step e = go (whole marked s) refl e
    where
      wholly : whole marked s ≡ true → (o : Option Shift) → separator_at k d ≡ o → read_whole k d o ≡ MessageResult.lost step → Loses p k ks step
      wholly w (some j) f q = at_lost w j f step q
      wholly w none f q = without_lost w f step q

      hit : whole marked s ≡ false → (o : Option Shift) → separator_at k d ≡ o → read_hit k s o ≡ MessageResult.lost step → Loses p k ks step
      hit w (some j) f q = let z : ◌≡◌ {A = ℕ} 0 1 = cc in absurd (omega arith)
      hit w none f q = let z : 3 ≡ step = cc in at z (in_3 (record { hit = w; no_separator = f }))

      go : (b : Bool) → whole marked s ≡ b → cond b (read_whole k d (separator_at k d)) (read_hit k s (separator_at k d)) ≡ MessageResult.lost step → Loses p k ks step
      go true w q = wholly w (separator_at k d) refl q
      go false w q = hit w (separator_at k d) refl q

  -- Steps 8 and 9

  end_lost : (m : List ℕ) → Gives p k m → (qs : List ℕ) → ks ≡ qs → end_of marked k qs s p.letters m ≡ none → Loses p k ks 8
  unfolding end_of
  end_lost m g [] l e = let z : ◌≡◌ {A = ℕ} 0 1 = cc in absurd (omega arith)
  end_lost m g (next ∷ later) l e = go (settled k d m (separator_at k d)) (first_shift clean_at) refl refl e
    where
      clean_at : Shift → Bool
      clean_at j = clean next (last_of m) (drop (moved j (size marked k)) s) (drop (moved j (size marked k)) p.letters)

      go : (b : Bool) (o : Option Shift) → settled k d m (separator_at k d) ≡ b → first_shift clean_at ≡ o → cond b (some (data_at marked + behind k (separator_at k d))) (around (size marked k) o) ≡ none → Loses p k ks 8
      go true o x y q = let z : ◌≡◌ {A = ℕ} 0 1 = cc in absurd (omega arith)
      go false (some j) x y q = let z : ◌≡◌ {A = ℕ} 0 1 = cc in absurd (omega arith)
      go false none x y q = in_8 (record { read = m; gives = g; next = next; later = later; not_last = l; unsettled = x; none_clean = none_shifted clean_at y })

  edit_lost : (m : List ℕ) → Gives p k m → (o : ℕ) → end_of marked k ks s p.letters m ≡ some o → judged (anew p m) (take o s) ≡ none → Loses p k ks 9
  edit_lost m g o h j =
      in_9 (record {
        read = m;
        gives = g;
        end = o;
        ends = h;
        too_far = λ e t.
            let u = turns_symbols (anew p m) (anew-Below p k m g) (take o p.letters) e t in
            judged-none (anew p m) (take o s) j (as_symbol e) u.0 (u.1 ∙ as_take o p.letters);
      })

  -- the step that a reading names calls the segment lost in its own words
  pub lost_loses : (step : ℕ) → found ≡ SegmentResult.lost step → Loses p k ks step
  unfolding read_segment
  lost_loses step t = go (read_message marked k s) refl t
    where
      judging : (m : List ℕ) (o : ℕ) (j : Option Edit) → Gives p k m → end_of marked k ks s p.letters m ≡ some o → judged (anew p m) (take o s) ≡ j → with_edit m o j ≡ SegmentResult.lost step → Loses p k ks step
      judging m o (some e) g h x q = let z : ◌≡◌ {A = ℕ} 0 1 = cc in absurd (omega arith)
      judging m o none g h x q = let z : 9 ≡ step = cc in at z (edit_lost m g o h x)

      ending : (m : List ℕ) (o : Option ℕ) → Gives p k m → end_of marked k ks s p.letters m ≡ o → with_end marked p.f s m o ≡ SegmentResult.lost step → Loses p k ks step
      ending m (some o) g h q = judging m o (judged (anew p m) (take o s)) g h refl q
      ending m none g h q = let z : 8 ≡ step = cc in at z (end_lost m g ks refl h)

      go : (g : MessageResult) → read_message marked k s ≡ g → with_message marked p.f k ks s p.letters g ≡ SegmentResult.lost step → Loses p k ks step
      go (message m) g q = ending m (end_of marked k ks s p.letters m) g refl q
      go (MessageResult.lost n) g q = let z : n ≡ step = cc in at z (message_lost n g)

  -- Back: a step whose own words call the segment lost is the one that a reading names

  either_lost : (j : Shift) → (length (after_separator j k d) < width k) ⊎ (NoWord p k ks j 1 ⊎ NoWord p k ks j 0) → repaired (link_of j) (width k) (take (moved j k) d) (after_separator j k d) ≡ MessageResult.lost 7
  unfolding repaired
  either_lost j (inl h) = rw (lt-ltb (length (after_separator j k d)) (width k) h)
  either_lost j (inr (inl h)) = rw (word_none j 1 h) (go (ltb (length (after_separator j k d)) (width k)) (layer_at j 0))
    where
      go : (b : Bool) (l : Option Word) → cond b (MessageResult.lost 7) (both_layers none l) ≡ MessageResult.lost 7
      go true l = refl
      go false (some l) = refl
      go false none = refl
  either_lost j (inr (inr h)) = rw (word_none j 0 h) (go (ltb (length (after_separator j k d)) (width k)) (layer_at j 1))
    where
      go : (b : Bool) (l : Option Word) → cond b (MessageResult.lost 7) (both_layers l none) ≡ MessageResult.lost 7
      go true l = refl
      go false (some l) = refl
      go false none = refl

  lost_7_is : (l : Lost7 p k ks) → read_message marked k s ≡ MessageResult.lost 7
  unfolding read_message message_at
  lost_7_is l = rw (l.whole_marker, l.separator, l.not_taken) (either_lost l.shift l.no_repair)

  lost_8_end : (l : Lost8 p k ks) (qs : List ℕ) → qs ≡ l.next ∷ l.later → end_of marked k qs s p.letters l.read ≡ none
  unfolding end_of
  lost_8_end l qs e = rw (e, l.unsettled, l.none_clean level, l.none_clean early, l.none_clean late)

  lost_9_edit : (l : Lost9 p k ks) → judged (anew p l.read) (take l.end s) ≡ none
  lost_9_edit l = go (judged (anew p l.read) (take l.end s)) refl
    where
      w : List ℕ
      w = anew p l.read

      go : (j : Option Edit) → judged w (take l.end s) ≡ j → j ≡ none
      go (some e) q =
          let small = anew-Below p k l.read l.gives in
          let h = judged-Fits w (take l.end s) (Below-take l.end s (as_Below p.letters)) e q in
          let t = (judged-Named w (take l.end s) e q).gives in
          absurd (l.too_far e (symbols_turn w small (take l.end p.letters) e h (t ∙ sym (as_take l.end p.letters))))
      go none q = refl

  pub loses_lost : (step : ℕ) → Loses p k ks step → found ≡ SegmentResult.lost step
  unfolding read_segment read_message message_without
  loses_lost _ (in_3 l) = rw (l.hit, l.no_separator)
  loses_lost _ (in_6 l) = rw (l.whole_marker, l.no_separator, l.disagrees)
  loses_lost _ (in_7 l) = rw (lost_7_is l)
  loses_lost _ (in_8 l) = rw (l.gives, lost_8_end l ks l.not_last)
  loses_lost _ (in_9 l) = rw (l.gives, l.ends, lost_9_edit l)

  -- the step that a reading names is the first that calls the segment lost
  pub First-lost : (step : ℕ) → found ≡ SegmentResult.lost step → First p k ks step
  First-lost step t =
      record {
        loses = lost_loses step t;
        none_earlier = λ n h l. let e : SegmentResult.lost n ≡ SegmentResult.lost step = sym (loses_lost n l) ∙ t in let z : n ≡ step = cc in omega arith;
      }
