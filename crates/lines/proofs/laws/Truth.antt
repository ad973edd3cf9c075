-- Every line is true: the proof of Truth.antt.
--   true_lines   the theorem
use Rattle.std.specs.Prelude.{◌≡◌, refl, Bool, true, false, cond, ℕ, zero, suc, ◌-◌, ◌%◌, ◌≤◌, ◌<◌, get_or, take}
use Rattle.std.proofs.Math.Path.{sym, ap, subst}
use Rattle.std.proofs.Common.{◌∙◌, arith, le-ltb, length-append, length-set, length-take-le, get_or-set_same}
use mathlib.Core.List.{List, [], ◌∷◌, ◌++◌, map, cons≢nil}
use Rattle.std.proofs.Math.Option.{Option, some, none}
use Rattle.std.proofs.Math.ListN.{length, drop, take-append-drop}
use Rattle.std.proofs.Math.Seq.{take-length, drop-length}
use Rattle.std.proofs.lemmas.List.{get_or_at}
use Rattle.code.proofs.laws.Lists.{drop_front}
use Rattle.code.specs.Symbols.{Below, letter_kinds, as_symbols, has_unknown}
use Rattle.code.proofs.laws.Letters.{length_as, as_Below, as_append, as_take, as_drop, as_same, as_known, as_symbol, as_applied}
use Rattle.code.proofs.laws.Below.{Below-take, Below-drop}
use Rattle.code.specs.Segment.{last_of, size}
use Rattle.code.proofs.laws.Segment.{segment-Below}
use Rattle.code.specs.Layout.{Lengths, done, more}
use Rattle.code.specs.Edits.{applied, place_of, Fits, judged}
use Rattle.code.proofs.laws.Judged.{Named, judged-Named, judged-Fits, judged_left}
use Rattle.code.specs.Reading.{end_of, SegmentResult, read, read_segment}
use Rattle.code.proofs.laws.ReadSegment.{Parts, read_parts}
use Rattle.code.specs.Strands.{Try, scan, told, Outcome, unfound, lost_outcome, lost_and_rest, segment_and_rest, reading}
use Rattle.code.proofs.laws.Scan.{scan_passes}
use Rattle.code.proofs.laws.Strands.{clean_read}
use Rattle.code.specs.declared.Edit.{Edit}
use Rattle.code.specs.declared.Edit.TheVariants.{None, Sub, Del, Ins}
use Rattle.code.specs.declared.Verdict.TheVariants.{Read, Unknown, Lost}
use Rattle.lines.specs.Report.{in_letters, reported}
use Rattle.lines.specs.Truth.{Site, symbols_at, anew, NamedLetter, Turns, Says, TrueOf, site_at, Onward, at, nowhere, onward_behind, TrueFrom, TrueLines}
use Rattle.lines.proofs.laws.Steps.{turns_symbols, anew-Below, First-lost}

-- A front of letters

-- the letters of a front are as many as stand there
take_front : (o : ℕ) (l : List ℕ) → take (length (take o l)) l ≡ take o l
take_front zero l = refl
take_front (suc o) [] = refl
take_front (suc o) (x ∷ l) = ap (◌∷◌ x) (take_front o l)

-- A piece that equals a segment

module _ (p : Site) (k : ℕ) (ks : List ℕ) (two : 2 ≤ k) where
  abbrev marked : Bool
  marked = p.marked

  abbrev s : List ℕ
  s = symbols_at p

  abbrev found : SegmentResult
  found = read_segment p.marked p.f k ks (symbols_at p) p.letters

  -- a piece at P, all letters where no segment follows, that equals the segment of m is read as m with no edit
  equal_read : (piece m : List ℕ) → take (length piece) p.letters ≡ piece → (ks ≡ [] → piece ≡ p.letters) → length m ≡ k → Below 4 m → anew p m ≡ as_symbols piece → found ≡ read m None (size marked k)
  unfolding as_symbols
  equal_read piece m stands last n small e =
      let rest = as_symbols (drop (length piece) p.letters) in
      let parts : piece ++ drop (length piece) p.letters ≡ p.letters = ap (λ (l : List ℕ). l ++ drop (length piece) p.letters) (sym stands) ∙ take-append-drop (length piece) p.letters in
      let all : anew p m ++ rest ≡ s = ap (λ (l : List ℕ). l ++ rest) e ∙ sym (as_append piece (drop (length piece) p.letters)) ∙ ap as_symbols parts in
      let none_left : ks ≡ [] → rest ≡ [] = λ q. ap (λ (l : List ℕ). as_symbols (drop (length l) p.letters)) (last q) ∙ ap as_symbols (drop-length p.letters) in
      let long : length p.letters ≡ length (anew p m ++ rest) = sym (length_as p.letters) ∙ ap length (sym all) in
      let t = clean_read marked p.f m rest ks p.letters (rw n two) small none_left long in
      subst (λ (w : List ℕ). read_segment marked p.f k ks w p.letters ≡ read m None (size marked k)) all (rw n at t)

-- What is said of a segment that is read

-- a letter as a symbol
as_at : (l : List ℕ) (i : ℕ) → get_or (as_symbols l) i 0 ≡ get_or l i 0 % 4
unfolding as_symbols
as_at [] zero = refl
as_at [] (suc i) = refl
as_at (c ∷ l) zero = refl
as_at (c ∷ l) (suc i) = as_at l i

-- symbols have no N among them
Below-known : (l : List ℕ) → Below 4 l → has_unknown l ≡ false
unfolding has_unknown
Below-known [] h = refl
Below-known (c ∷ l) h = rw (le-ltb 3 c (omega (arith, h 0)), Below-known l (λ i. h (suc i)))

-- reading its letter as a symbol moves no edit
symbol_place : (e : Edit) → place_of (as_symbol e) ≡ place_of e
symbol_place None = refl
symbol_place (Sub i x) = refl
symbol_place (Del i x) = refl
symbol_place (Ins i x) = refl

-- the edit e of a segment w, with the letter that was received in v
module _ (w v : List ℕ) (small : Below 4 w) (letters : Below letter_kinds v) where
  module _ (e : Edit) (named : judged w (as_symbols v) ≡ some e) where
    is : Named w (as_symbols v) e
    is = judged-Named w (as_symbols v) e named

    fits : Fits 4 e (length w)
    fits = judged-Fits w (as_symbols v) (as_Below v) e named

    -- the edit d is e with another letter that is read as the same symbol
    named_Turns : (d : Edit) → Fits letter_kinds d (length w) → as_symbol d ≡ e → place_of d ≡ place_of e → NamedLetter w v d → Turns w v d
    named_Turns d h same place letter =
        record {
          turns = (h, as_applied d w ∙ ap (λ (l : List ℕ). applied (as_symbol d) l) (as_same w small) ∙ ap (λ (x : Edit). applied x w) same ∙ is.gives);
          smallest = λ x t. let u = turns_symbols w small v x t in rw place (subst (λ (n : ℕ). place_of e ≤ n) (symbol_place x) (is.smallest (as_symbol x) u.0 u.1));
          letter = letter;
        }

  sub_Turns : (i x : ℕ) → judged w (as_symbols v) ≡ some (Sub i x) → Turns w v (Sub i (get_or v i 0))
  sub_Turns i x q =
      let t = (is (Sub i x) q).gives in
      let h = fits (Sub i x) q in
      let long : length w ≡ length v = sym (length-set w i x) ∙ ap length t ∙ length_as v in
      let y : get_or v i 0 % 4 ≡ x = sym (as_at v i) ∙ ap (λ (l : List ℕ). get_or l i 0) (sym t) ∙ get_or-set_same w i x 0 h.0 in
      named_Turns (Sub i x) q (Sub i (get_or v i 0)) (h.0, letters i) (ap (Sub i) y) refl (omega (arith, h.0), refl)

  del_Turns : (i x : ℕ) → judged w (as_symbols v) ≡ some (Del i x) → Turns w v (Del i x)
  del_Turns i x q = named_Turns (Del i x) q (Del i x) (fits (Del i x) q) refl refl (judged_left w (as_symbols v) i x q)

  ins_Turns : (i x : ℕ) → judged w (as_symbols v) ≡ some (Ins i x) → Turns w v (Ins i (get_or v i 0))
  ins_Turns i x q =
      let t = (is (Ins i x) q).gives in
      let h = fits (Ins i x) q in
      let front : length (take i w) ≡ i = length-take-le i w h.0 in
      let long : length (take i w ++ x ∷ drop i w) ≡ length v = ap length t ∙ length_as v in
      let inside : i < length v = omega (arith, h.0, front, long, length-append (take i w) (x ∷ drop i w)) in
      let y : get_or v i 0 % 4 ≡ x = sym (as_at v i) ∙ ap (λ (l : List ℕ). get_or l i 0) (sym t) ∙ get_or_at (take i w) x (drop i w) 0 i front in
      named_Turns (Ins i x) q (Ins i (get_or v i 0)) (h.0, letters i) (ap (Ins i) y) refl (inside, refl)

module _ (p : Site) (k : ℕ) (ks : List ℕ) (two : 2 ≤ k) (legible : Below letter_kinds p.letters) where
  module _ (m : List ℕ) (e : Edit) (o : ℕ) (q : found p k ks two ≡ read m e o) where
    abbrev piece : List ℕ
    piece = take o p.letters

    abbrev outcome : Outcome
    outcome = record { piece = piece; message = m; verdict = told (Read e) piece }

    parts : Parts p.marked p.f k ks (symbols_at p) p.letters m e o
    parts = read_parts p.marked p.f k ks (symbols_at p) p.letters m e o q

    named : judged (anew p m) (as_symbols piece) ≡ some e
    named = ap (judged (anew p m)) (as_take o p.letters) ∙ parts.named

    read_Says : Says p k ks piece m (reported outcome)
    read_Says = go e named
      where
        small : Below 4 (anew p m)
        small = anew-Below p k m parts.gives

        letters : Below letter_kinds piece
        letters = Below-take o p.letters legible

        go : (d : Edit) → judged (anew p m) (as_symbols piece) ≡ some d → Says p k ks piece m (in_letters (told (Read d) piece) piece)
        go None n = unknown (has_unknown piece) refl
          where
            same : anew p m ≡ as_symbols piece
            same = (judged-Named (anew p m) (as_symbols piece) None n).gives

            unknown : (b : Bool) → has_unknown piece ≡ b → Says p k ks piece m (in_letters (cond b Unknown (Read None)) piece)
            unknown true h = (parts.gives, same, h)
            unknown false h = (parts.gives, same ∙ as_known piece h)
        go (Sub i x) n = (parts.gives, sub_Turns (anew p m) piece small letters i x n)
        go (Del i x) n = (parts.gives, del_Turns (anew p m) piece small letters i x n)
        go (Ins i x) n = (parts.gives, ins_Turns (anew p m) piece small letters i x n)

    -- the last piece is all letters
    read_last : ks ≡ [] → piece ≡ p.letters
    unfolding end_of
    read_last l = go ks l parts.ends
      where
        go : (qs : List ℕ) → qs ≡ [] → end_of p.marked k qs (symbols_at p) p.letters m ≡ some o → piece ≡ p.letters
        go [] z h = let n : length p.letters ≡ o = cc in rw (← n) (take-length p.letters)
        go (x ∷ qs) z h = absurd (cons≢nil z)

    -- no edit is told by whether an N is among the letters
    told_equal : (n : List ℕ) → length n ≡ k → Below 4 n → anew p n ≡ as_symbols piece → reported outcome ≡ cond (has_unknown piece) Unknown (Read None)
    told_equal n long small same =
        let r = sym (equal_read p k ks two piece n (take_front o p.letters) read_last long small same) ∙ q in
        let d : None ≡ e = cc in
        ap (λ (x : Edit). in_letters (told (Read x) piece) piece) (sym d) ∙ in_cond (has_unknown piece)
      where
        in_cond : (b : Bool) → in_letters (cond b Unknown (Read None)) piece ≡ cond b Unknown (Read None)
        in_cond true = refl
        in_cond false = refl

    read_true : TrueOf p k ks outcome
    read_true =
        record {
          stands = take_front o p.letters;
          says = read_Says;
          all_clean = λ n long small same.
              let known : Below 4 piece = subst (Below 4) same (segment-Below p.marked p.f n small) in
              told_equal n long small (same ∙ sym (as_same piece known)) ∙ rw (Below-known piece known);
          all_unknown = λ n long small same h. told_equal n long small same ∙ rw h;
        }

    -- the next segment starts at the end of the piece
    behind_read : onward_behind p k ks outcome outcome.verdict ≡ at 0 (site_at p (last_of m) o)
    behind_read = go e ∙ ap (λ (l : List ℕ). at 0 (record { marked = true; f = last_of m; letters = l })) (drop_front o p.letters)
      where
        unknown : (b : Bool) → onward_behind p k ks outcome (cond b Unknown (Read None)) ≡ at 0 (site_at p (last_of m) (length piece))
        unknown true = refl
        unknown false = refl

        go : (d : Edit) → onward_behind p k ks outcome (told (Read d) piece) ≡ at 0 (site_at p (last_of m) (length piece))
        go None = unknown (has_unknown piece)
        go (Sub i x) = refl
        go (Del i x) = refl
        go (Ins i x) = refl

  -- What is said of a lost segment

  lost_true : (step : ℕ) (piece : List ℕ) → found p k ks two ≡ SegmentResult.lost step → take (length piece) p.letters ≡ piece → (ks ≡ [] → piece ≡ p.letters) → TrueOf p k ks (lost_outcome piece k (Lost step))
  lost_true step piece q stands last =
      record {
        stands = stands;
        says = First-lost p k ks step q;
        all_clean = λ n long small same.
            let known : Below 4 piece = subst (Below 4) same (segment-Below p.marked p.f n small) in
            never n (equal_read p k ks two piece n stands last long small (same ∙ sym (as_same piece known)));
        all_unknown = λ n long small same h. never n (equal_read p k ks two piece n stands last long small same);
      }
    where
      never : {A : Type 0} (n : List ℕ) → found p k ks two ≡ read n None (size p.marked k) → A
      never n r = let w = sym r ∙ q in let z : ◌≡◌ {A = ℕ} 0 1 = cc in absurd (omega arith)

-- Segments for which no start was found
unfound_true : (ks : List ℕ) → TrueFrom nowhere ks (map unfound ks)
unfound_true [] = tt
unfound_true (k ∷ ks) = (refl, refl, unfound_true ks)

-- The whole strand

-- segments are passed only before one with a marker
true_from : {most : ℕ} (n : ℕ) (p : Site) (ks : List ℕ) → (0 < n → p.marked ≡ true) → Lengths most ks → Below letter_kinds p.letters → TrueFrom (at n p) ks (reading scan n p.marked p.f ks (symbols_at p) p.letters)
unfolding reading
true_from n p [] has done legible = tt
true_from (suc n) p (k ∷ ks) has (more two _ ls) legible =
    let e = has (omega arith) in
    (refl, refl, subst (λ (b : Bool). TrueFrom (at n p) ks (reading scan n b p.f ks (symbols_at p) p.letters)) e (true_from n p ks (λ h. e) ls legible))
true_from zero p (k ∷ ks) has (more two _ ls) legible = go (found p k ks two) refl (λ n f o. true_from n (site_at p f o) ks (λ h. refl) ls (Below-drop o p.letters legible))
  where
    next : ℕ → ℕ → ℕ → List Outcome
    next n f o = reading scan n true f ks (drop o (symbols_at p)) (drop o p.letters)

    Later : Type 0
    Later = (n f o : ℕ) → TrueFrom (at n (site_at p f o)) ks (reading scan n true f ks (symbols_at (site_at p f o)) (drop o p.letters))

    behind : Later → (n f o : ℕ) → TrueFrom (at n (site_at p f o)) ks (next n f o)
    behind h n f o = subst (λ (w : List ℕ). TrueFrom (at n (site_at p f o)) ks (reading scan n true f ks w (drop o p.letters))) (as_drop o p.letters) (h n f o)

    -- behind the last segment nothing is sought
    not_last : (t : Try) → scan (size p.marked k) ks (symbols_at p) p.letters ≡ some t → ks ≡ [] → ⊥
    not_last t y z = omega (arith, scan_passes (size p.marked k) ks (symbols_at p) p.letters t y, ap length z)

    scanned : (step : ℕ) → found p k ks two ≡ SegmentResult.lost step → (x : Option Try) → scan (size p.marked k) ks (symbols_at p) p.letters ≡ x → Later → TrueFrom (at 0 p) (k ∷ ks) (lost_and_rest k ks (symbols_at p) p.letters step next x)
    scanned step q (some t) y h = (
      lost_true p k ks two legible step (take t.start p.letters) q (take_front t.start p.letters) (λ z. absurd (not_last t y z)),
      rw y (behind h t.passed (get_or (symbols_at p) (t.start - 1) 0) t.start),
    )
    scanned step q none y h = (
      lost_true p k ks two legible step p.letters q (take-length p.letters) (λ z. refl),
      rw y (unfound_true ks),
    )

    go : (r : SegmentResult) → found p k ks two ≡ r → Later → TrueFrom (at 0 p) (k ∷ ks) (segment_and_rest k ks (symbols_at p) p.letters next (scan (size p.marked k) ks (symbols_at p) p.letters) r)
    go (read m e o) q h = (
      read_true p k ks two legible m e o q,
      subst (λ (x : Onward). TrueFrom x ks (next 0 (last_of m) o)) (sym (behind_read p k ks two legible m e o q)) (behind h 0 (last_of m) o),
    )
    go (SegmentResult.lost step) q h = scanned step q (scan (size p.marked k) ks (symbols_at p) p.letters) refl h

pub true_lines : TrueLines
true_lines most ks letters lengths legible = true_from 0 (record { marked = false; f = 0; letters = letters }) ks (λ h. absurd (omega arith)) lengths legible
