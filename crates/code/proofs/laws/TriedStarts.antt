-- What is tried by the scans of a reading.
--   gone_through      what is tried of a list, and what is found in it
--   up-tries          how many windows a scan goes through that finds a segment
--   counted           how many starts are tried behind segments with given outcomes
--   unfound_tries     none behind those without a start
--   counted_segment   how many behind a segment and those after it, by how many behind those
--   counted_most      at most those of as many windows as segments are behind the first that is read
use Rattle.std.proofs.Math.Path.{◌≡◌, refl, ap}
use Rattle.std.proofs.Common.{sym, ◌∙◌}
use Rattle.std.specs.Prelude.{Bool, get_or, take, drop}
use Rattle.std.proofs.Math.Bool.{true, false, cond}
use mathlib.Core.List.{List, [], ◌∷◌, ◌++◌, map}
use Rattle.std.proofs.Math.Option.{Option, some, none}
use Prim.Native.Nat.{ℕ, zero, suc, ◌+◌, ◌-◌, ◌*◌, ◌≤◌}
use native.Mathlib.Omega.{arith}
use Rattle.std.proofs.Math.ListN.{length}
use Rattle.std.proofs.lemmas.List.{length-map}
use Rattle.code.specs.Symbols.{as_symbols, has_unknown}
use Rattle.code.proofs.laws.Lists.{drop_front}
use Rattle.code.proofs.laws.Letters.{as_drop}
use Rattle.code.specs.Segment.{last_of, size}
use Rattle.code.specs.Layout.{sum, Lengths, more}
use Rattle.code.specs.Reading.{SegmentResult, read, read_segment}
use Rattle.code.specs.Strands.{window, Try, try_at, tries, stands, first_standing, scan, told, Outcome, unfound, lost_and_rest, segment_and_rest, reading}
use Rattle.code.proofs.laws.Scan.{first, standing_append, window_passed, scan_passes}
use Rattle.code.proofs.laws.Windows.{full, full_next, full_append, full_more, window_most, size_above, length_scan}
use Rattle.code.specs.Starts.{up_to_standing, tried_behind, tried_by, GoneThrough, end, found, on}
use Rattle.code.specs.declared.Edit.{Edit}
use Rattle.code.specs.declared.Edit.TheVariants.{None, Sub, Del, Ins}
use Rattle.code.specs.declared.Verdict.TheVariants.{Read, Unknown}

-- What is tried of a list

module _ (s letters : List ℕ) where
  abbrev up : List Try → List Try
  up ts = up_to_standing s letters ts

  abbrev standing : List Try → Option Try
  standing ts = first_standing s letters ts

  pub gone_through : (ts : List Try) → GoneThrough s letters ts (up ts) (standing ts)
  unfolding up_to_standing first_standing
  gone_through [] = end
  gone_through (t ∷ ts) = go (stands s letters t) refl (gone_through ts)
    where
      go : (b : Bool) → stands s letters t ≡ b → GoneThrough s letters ts (up ts) (standing ts) → GoneThrough s letters (t ∷ ts) (t ∷ cond b [] (up ts)) (cond b (some t) (standing ts))
      go true e h = found t ts e
      go false e h = on t e h

  pub up_most : (ts : List Try) → length (up ts) ≤ length ts
  unfolding up_to_standing
  up_most [] = omega arith
  up_most (t ∷ ts) = go (stands s letters t) (up_most ts)
    where
      go : (b : Bool) → length (up ts) ≤ length ts → suc (length (cond b [] (up ts))) ≤ suc (length ts)
      go true h = omega arith
      go false h = omega arith

  -- the starts of a second list are tried where none of the first stands
  length-up : (ts us : List Try) → length (up (ts ++ us)) ≤ length ts + length (up us)
  unfolding up_to_standing
  length-up [] us = omega arith
  length-up (t ∷ ts) us = go (stands s letters t) (length-up ts us)
    where
      go : (b : Bool) → length (up (ts ++ us)) ≤ length ts + length (up us) → suc (length (cond b [] (up (ts ++ us)))) ≤ suc (length ts) + length (up us)
      go true h = omega arith
      go false h = omega arith

  -- and only there
  up_found : (ts us : List Try) (t : Try) → standing ts ≡ some t → up (ts ++ us) ≡ up ts
  unfolding up_to_standing first_standing
  up_found [] us t e = let z : ◌≡◌ {A = ℕ} 0 1 = cc in absurd (omega arith)
  up_found (x ∷ ts) us t e = ap (◌∷◌ x) (go (stands s letters x) e (up_found ts us t))
    where
      go : (b : Bool) → cond b (some x) (standing ts) ≡ some t → (standing ts ≡ some t → up (ts ++ us) ≡ up ts) → cond b [] (up (ts ++ us)) ≡ cond b [] (up ts)
      go true q h = refl
      go false q h = h q

  -- a scan that finds a segment goes through no more windows than it passes, and one; x starts of the first are not above P
  up-tries : (x p n : ℕ) (ks : List ℕ) (t : Try) → length (window n (8 * (p + 1))) + x ≤ 16 * (p + 1) + 1 → standing (tries p n ks) ≡ some t → length (up (tries p n ks)) + (full p + x) ≤ full (t.passed + 1)
  unfolding tries first_standing
  up-tries x p n [] t h e = let z : ◌≡◌ {A = ℕ} 0 1 = cc in absurd (omega arith)
  up-tries x p n (k ∷ ks) t h e = go (standing w) refl (sym (standing_append s letters w rest) ∙ e) (up-tries 0 (p + 1) (n + size true k) ks t (omega (arith, window_most (n + size true k) (8 * (p + 1 + 1)))))
    where
      w : List Try
      w = map (try_at p k) (window n (8 * (p + 1)))

      rest : List Try
      rest = tries (p + 1) (n + size true k) ks

      long : length w ≡ length (window n (8 * (p + 1)))
      long = length-map (window n (8 * (p + 1))) (try_at p k)

      go : (y : Option Try) → standing w ≡ y → first y (standing rest) ≡ some t → (standing rest ≡ some t → length (up rest) + (full (p + 1) + 0) ≤ full (t.passed + 1)) → length (up (w ++ rest)) + (full p + x) ≤ full (t.passed + 1)
      go (some y) q i later =
          let at_p : t.passed ≡ p = window_passed s letters p k (window n (8 * (p + 1))) t (q ∙ i) in
          rw (up_found w rest y q, at_p) (omega (arith, up_most w, long, full_next p))
      go none q i later = omega (arith, later i, length-up w rest, long, full_next p)

-- What is tried by a reading

-- how many are tried behind segments with these outcomes
abbrev pub counted : List Outcome → Bool → List ℕ → List ℕ → ℕ
counted os marked ks letters = sum (map length (tried_by os marked ks letters))

-- nothing behind a segment that is read
read_tries : (e : Edit) (piece : List ℕ) (n : ℕ) (ks letters : List ℕ) → tried_behind (told (Read e) piece) n ks letters ≡ []
read_tries None piece n ks letters = go (has_unknown piece)
  where
    go : (b : Bool) → tried_behind (cond b Unknown (Read None)) n ks letters ≡ []
    go true = refl
    go false = refl
read_tries (Sub i x) piece n ks letters = refl
read_tries (Del i x) piece n ks letters = refl
read_tries (Ins i x) piece n ks letters = refl

-- nor behind those without a start
pub unfound_tries : (marked : Bool) (ks letters : List ℕ) → counted (map unfound ks) marked ks letters ≡ 0
unfolding tried_by sum
unfound_tries marked [] letters = refl
unfound_tries marked (k ∷ ks) letters = omega (arith, unfound_tries true ks letters)

module _ (k : ℕ) (ks letters : List ℕ) where
  abbrev next : ℕ → ℕ → ℕ → List Outcome
  next n g o = reading scan n true g ks (drop o (as_symbols letters)) (drop o letters)

  -- how many are tried behind the segments from o on
  abbrev rest : ℕ → ℕ → ℕ → ℕ
  rest n g o = counted (reading scan n true g ks (as_symbols (drop o letters)) (drop o letters)) true ks (drop o letters)

  -- behind a piece the segments are read from its end
  rest_is : (n g o : ℕ) → counted (next n g o) true ks (drop (length (take o letters)) letters) ≡ rest n g o
  rest_is n g o = rw (drop_front o letters, as_drop o letters)

  -- the starts that are tried behind a segment and those after it, at most m; x starts of the first window are not above P
  pub counted_segment : (marked : Bool) (f x j m : ℕ) → length ks ≤ j → length (window (size marked k) 8) + x ≤ 17
      → length (tries 0 (size marked k) ks) ≤ m → full j ≤ m + x
      → ((g o : ℕ) → rest 0 g o ≤ m)
      → ((n g o i : ℕ) → length ks ≤ suc (i + n) → rest n g o ≤ full i)
      → counted (reading scan 0 marked f (k ∷ ks) (as_symbols letters) letters) marked (k ∷ ks) letters ≤ m
  unfolding reading tried_by sum scan
  counted_segment marked f x j m l w all fits zero_passed later = go (read_segment marked f k ks (as_symbols letters) letters)
    where
      s : List ℕ
      s = as_symbols letters

      ts : List Try
      ts = tries 0 (size marked k) ks

      scanned : (step : ℕ) (y : Option Try) → scan (size marked k) ks s letters ≡ y → counted (lost_and_rest k ks s letters step next y) marked (k ∷ ks) letters ≤ m
      scanned step none q = omega (arith, up_most s letters ts, unfound_tries true ks (drop (length letters) letters))
      scanned step (some t) q =
          let p = t.passed in
          let few = scan_passes (size marked k) ks s letters t q in
          let i = j - (p + 1) in
          let e : p + 1 + i ≡ j = omega arith in
          let sums : full (p + 1) + full i ≤ full j = rw e at (full_append (p + 1) i) in
          let here = up-tries s letters x 0 (size marked k) ks t w q in
          let behind = later p (get_or s (t.start - 1) 0) t.start i (omega arith) in
          omega (arith, rest_is p (get_or s (t.start - 1) 0) t.start)

      go : (r : SegmentResult) → counted (segment_and_rest k ks s letters next (scan (size marked k) ks s letters) r) marked (k ∷ ks) letters ≤ m
      go (read a e o) = rw (read_tries e (take o letters) (size marked k) ks letters) (omega (arith, rest_is 0 (last_of a) o, zero_passed (last_of a) o))
      go (SegmentResult.lost step) = scanned step (scan (size marked k) ks s letters) refl

-- behind segments with a marker, of which some are passed first
pub counted_most : {most : ℕ} (passed f : ℕ) (ks letters : List ℕ) (j : ℕ) → Lengths most ks → length ks ≤ suc (j + passed) → counted (reading scan passed true f ks (as_symbols letters) letters) true ks letters ≤ full j
unfolding reading tried_by sum
counted_most passed f [] letters j ls h = omega arith
counted_most (suc passed) f (k ∷ ks) letters j (more two m ls) h = omega (arith, counted_most passed f ks letters j ls (omega arith))
counted_most zero f (k ∷ ks) letters j (more two m ls) h =
    counted_segment k ks letters true f 0 j (full j) (omega arith) (omega (arith, window_most (size true k) 8))
    (omega (arith, length_scan (size true k) ks ls (size_above k two), full_more (length ks) j (omega arith)))
    (omega arith)
    (λ g o. counted_most 0 g ks (drop o letters) j ls (omega arith))
    (λ n g o i l. counted_most n g ks (drop o letters) i ls l)
