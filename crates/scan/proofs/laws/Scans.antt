-- Laws of the search for a clean segment: where there is no room for a clean segment, and which searches of the reading steps it is.
use Rattle.std.specs.Prelude as Prelude
use Rattle.std.specs.Prelude.{◌≡◌, refl, Bool, not, ◌&&◌, Some, None, IfSome, get_or, drop}
use Rattle.std.proofs.Common.{sym, ◌∙◌, true≢false, lt_of_not-le, lt-ltb, length-append, length-take, take-take, drop-drop}
use Rattle.std.proofs.Math.Path.{ap}
use Rattle.std.proofs.Math.Bool.{true, false, cond}
use mathlib.Core.List.{List, [], ◌∷◌, ◌++◌, map, append_assoc}
use Rattle.std.proofs.Math.Option.{Option, some, none}
use Prim.Native.Nat.{ℕ, zero, suc, ◌+◌, ◌-◌, ◌≤◌, ◌<◌}
use Rattle.std.proofs.Math.Decide.{dec_le}
use native.Mathlib.Omega.{arith}
use Rattle.std.specs.Int.Bits.{bit_and}
use Rattle.std.proofs.lemmas.Nat.{and_mask}
use Rattle.std.proofs.Math.ListN.{length, take, length-drop}
use Rattle.std.proofs.Math.Seq.{get_or-drop}
use Rattle.code.specs.Symbols.{Below, as_symbols, has_unknown}
use Rattle.code.proofs.laws.Letters.{length_as, as_take, as_drop, as_known, has_take, has_drop}
use Rattle.code.proofs.laws.CleanLetters.{clean_letters, clean_symbols}
use Rattle.code.specs.Segment.{check, syndrome_of, separator, marker, block, segment, size}
use Rattle.code.proofs.laws.Segment.{length-segment, marker-Apart}
use Rattle.code.specs.Reading.{is_prefix, three_equal, clean, moved, first_shift, level, early, late, around}
use Rattle.code.proofs.laws.Reading.{and-false, prefix_at, prefix_split, drop_off, three_yes}
use Rattle.code.specs.Strands.{above, pairs, window, Try, try_at, first_standing}
use Rattle.places.proofs.TestsAtPlaces.{block_past}
use Rattle.scan.specs.Scans.{first_clean, letter_before, try_from}

-- The clean test

module _ (k f : ℕ) (s letters : List ℕ) (same : length s ≡ length letters) (at : ℕ) where
  -- less room than a segment takes
  pub clean_short : length s < at + size true k → clean k f (drop at s) (drop at letters) ≡ false
  unfolding clean size
  clean_short h = block_past letters at (segment true f front) (rw (length-segment true f front, ← same) (go (dec_le (2 + k) (length s - at))))
    where
      front : List ℕ
      front = take k (drop 2 (drop at s))

      go : Dec (2 + k ≤ length s - at) → length s - at < size true (length front)
      go (yes l) = let e : length front ≡ k = simp (length-take, length-drop) (omega arith) in rw e (omega arith)
      go (no l) =
          let q = lt_of_not-le l in
          let e : length front ≡ length s - at - 2 = simp (length-take, length-drop) (omega arith) in
          rw e (omega arith)

-- a part behind two letters
behind_two : (k : ℕ) (l : List ℕ) → drop 2 (take (suc (suc k)) l) ≡ take k (drop 2 l)
behind_two zero [] = refl
behind_two (suc k) [] = refl
behind_two zero (x ∷ []) = refl
behind_two (suc k) (x ∷ []) = refl
behind_two k (x ∷ y ∷ l) = refl

module _ (k f : ℕ) (letters : List ℕ) (at : ℕ) where
  -- the letters from a place on, and the symbols that they are read as
  abbrev L : List ℕ
  L = drop at letters

  from : as_symbols L ≡ drop at (as_symbols letters)
  from = as_drop at letters

  -- what is clean in letters is clean in symbols
  pub clean_in_symbols : clean k f (drop at (as_symbols letters)) L ≡ true → clean k f (drop at (as_symbols letters)) (drop at (as_symbols letters)) ≡ true
  clean_in_symbols e = rw (← from) (clean_symbols k f L (rw from e))

  -- a message without an N is its own symbols
  pub clean_known : has_unknown (take k (drop 2 L)) ≡ false → clean k f (drop at (as_symbols letters)) L ≡ clean k f L L
  unfolding clean
  clean_known h =
      let e : take k (drop 2 (as_symbols L)) ≡ take k (drop 2 L) = ap (take k) (sym (as_drop 2 L)) ∙ (sym (as_take k (drop 2 L)) ∙ as_known (take k (drop 2 L)) h) in
      rw (← from, e)

  module _ (room : at + size true k ≤ length letters) where
    -- one with an N is no part of a clean segment
    pub clean_unknown : has_unknown (take k (drop 2 L)) ≡ true → clean k f (drop at (as_symbols letters)) L ≡ false
    unfolding size
    clean_unknown h = rw (← from) (clean_letters k f L ∙ rw n (go (has_unknown (take (size true k) L)) refl))
      where
        n : length (take k (drop 2 (as_symbols L))) ≡ k
        n = simp (length-take, length-drop) (omega (arith, length_as L, length-drop at letters))

        -- the message is a part of the segment
        part : drop 2 (take (suc (suc k)) (take (size true k) L)) ≡ take k (drop 2 L)
        part = ap (drop 2) (take-take (suc (suc k)) (size true k) L (omega arith)) ∙ behind_two k L

        go : (b : Bool) → has_unknown (take (size true k) L) ≡ b → (clean k f (as_symbols L) (as_symbols L) && not b) ≡ false
        go true q = and-false (clean k f (as_symbols L) (as_symbols L))
        go false q = absurd (true≢false (sym h ∙ (ap has_unknown (sym part) ∙ has_drop 2 (take (suc (suc k)) (take (size true k) L)) (has_take (suc (suc k)) (take (size true k) L) q))))

    -- letters that are no segment by themselves are not clean
    pub unclean : clean k f L L ≡ false → clean k f (drop at (as_symbols letters)) L ≡ false
    unclean e = go (has_unknown (take k (drop 2 L))) refl
      where
        go : (b : Bool) → has_unknown (take k (drop 2 L)) ≡ b → clean k f (drop at (as_symbols letters)) L ≡ false
        go true q = clean_unknown q
        go false q = clean_known q ∙ e

-- the two letters of a marker are equal
pub unequal_unclean : (k f : ℕ) (s letters : List ℕ) (at : ℕ) → (get_or letters at 0 ≡ get_or letters (at + 1) 0 → ⊥) → clean k f s (drop at letters) ≡ false
unfolding clean segment
unequal_unclean k f s letters at h = go (clean k f s (drop at letters)) refl
  where
    m : ℕ
    m = marker f (take k (drop 2 s))

    go : (b : Bool) → clean k f s (drop at letters) ≡ b → b ≡ false
    go false q = refl
    go true q =
        let x = prefix_at (segment true f (take k (drop 2 s))) (drop at letters) 0 q (omega arith) in
        let y = prefix_at (segment true f (take k (drop 2 s))) (drop at letters) 1 q (omega arith) in
        let z : at + 0 ≡ at = omega arith in
        absurd (h (ap (λ (i : ℕ). get_or letters i 0) (sym z) ∙ sym (get_or-drop at letters 0 0) ∙ x ∙ sym y ∙ get_or-drop at letters 1 0))

-- the first of its message is another
pub repeated_unclean : (k f : ℕ) (letters : List ℕ) (at : ℕ) → 1 ≤ k → at + size true k ≤ length letters → get_or letters at 0 ≡ get_or letters (at + 2) 0 → clean k f (drop at (as_symbols letters)) (drop at letters) ≡ false
unfolding clean segment block size
repeated_unclean k f letters at some_symbol room h = go (is_prefix (segment true f m) (drop at letters)) refl
  where
    m : List ℕ
    m = take k (drop 2 (drop at (as_symbols letters)))

    long : length m ≡ k
    long = simp (length-take, length-drop) (omega (arith, length_as letters))

    front : (u v : List ℕ) → 1 ≤ length u → get_or (u ++ v) 0 0 ≡ get_or u 0 0
    front [] v l = absurd (omega arith)
    front (x ∷ u) v l = refl

    go : (b : Bool) → is_prefix (segment true f m) (drop at letters) ≡ b → b ≡ false
    go false q = refl
    go true q =
        let w = segment true f m in
        let z : at + 0 ≡ at = omega arith in
        let x : get_or letters at 0 ≡ marker f m = ap (λ (i : ℕ). get_or letters i 0) (sym z) ∙ (sym (get_or-drop at letters 0 0) ∙ prefix_at w (drop at letters) 0 q (omega arith)) in
        let y : get_or letters (at + 2) 0 ≡ get_or m 0 0 = sym (get_or-drop at letters 2 0) ∙ (prefix_at w (drop at letters) 2 q (simp length-append (omega (arith, long))) ∙ front m _ (omega (arith, long))) in
        absurd ((marker-Apart f m).second (sym x ∙ (h ∙ y)))

-- three equal letters are its separator
pub unseparated_unclean : (k f : ℕ) (letters : List ℕ) (at : ℕ) → at + size true k ≤ length letters → three_equal (drop (at + (2 + k) + 1) letters) ≡ false → clean k f (drop at (as_symbols letters)) (drop at letters) ≡ false
unfolding clean segment block size
unseparated_unclean k f letters at room h = go (is_prefix (segment true f m) (drop at letters)) refl
  where
    m : List ℕ
    m = take k (drop 2 (drop at (as_symbols letters)))

    front : List ℕ
    front = marker f m ∷ marker f m ∷ (m ++ check m ∷ [])

    long : length front ≡ 3 + k
    long = simp (length-append, length-take, length-drop) (omega (arith, length_as letters))

    -- the letters from the separator on
    from : drop (3 + k) (drop at letters) ≡ drop (at + (2 + k) + 1) letters
    from = let n : at + (2 + k) + 1 ≡ at + (3 + k) = omega arith in rw n (drop-drop (3 + k) at letters)

    -- what stands before the separator, and what follows
    parts : (rest : List ℕ) → segment true f m ++ rest ≡ front ++ (separator m ∷ separator m ∷ separator m ∷ (syndrome_of m ++ rest))
    parts rest =
        let tail = separator m ∷ separator m ∷ separator m ∷ syndrome_of m in
        let e : segment true f m ≡ front ++ tail = ap (λ (l : List ℕ). marker f m ∷ marker f m ∷ l) (sym (append_assoc m (check m ∷ []) tail)) in
        ap (λ (l : List ℕ). l ++ rest) e ∙ append_assoc front tail rest

    go : (b : Bool) → is_prefix (segment true f m) (drop at letters) ≡ b → b ≡ false
    go false q = refl
    go true q =
        let w = segment true f m in
        let rest = drop (length w) (drop at letters) in
        let split = prefix_split w (drop at letters) q ∙ parts rest in
        let seen : drop (3 + k) (drop at letters) ≡ separator m ∷ separator m ∷ separator m ∷ (syndrome_of m ++ rest) = ap (drop (3 + k)) split ∙ drop_off (3 + k) front _ 0 (omega (arith, long)) in
        absurd (true≢false (sym (three_yes (separator m) (syndrome_of m ++ rest)) ∙ (ap three_equal (sym seen ∙ from) ∙ h)))

-- The symbol before a start

-- the symbol of a letter
pub symbol_at : (letters : List ℕ) (i : ℕ) → bit_and (get_or letters i 0) 3 ≡ get_or (as_symbols letters) i 0
unfolding as_symbols
symbol_at [] i = refl
symbol_at (c ∷ letters) zero = and_mask c 2
symbol_at (c ∷ letters) (suc i) = symbol_at letters i

-- counted from p, or from the front
pub letter_from : (given : Prelude.Option ℕ) (s : List ℕ) (p o : ℕ) → 0 < o → letter_before given (drop p s) o ≡ letter_before given s (p + o)
unfolding letter_before
letter_from None s p o h =
    let e : p + o - 1 ≡ p + (o - 1) = omega arith in
    rw (e, get_or-drop p s (o - 1) 0)
letter_from (Some f) s p o h = refl

pub letter_below : (given : Prelude.Option ℕ) (s : List ℕ) → Below 4 s → IfSome given (λ f. f < 4) → (o : ℕ) → letter_before given s o < 4
unfolding letter_before
letter_below None s b h o = b (o - 1)
letter_below (Some f) s b h o = h

-- Which searches it is

-- with the received symbol, a window of step 10

pub window_first : (passed k : ℕ) (s letters os : List ℕ) (ts : List Try) → first_standing s letters (map (try_at passed k) os ++ ts) ≡ try_from passed k (first_clean k (letter_before None s) s letters os) (first_standing s letters ts)
unfolding first_clean first_standing letter_before
window_first passed k s letters [] ts = refl
window_first passed k s letters (o ∷ os) ts = go (clean k (get_or s (o - 1) 0) (drop o s) (drop o letters)) (window_first passed k s letters os ts)
  where
    rest : Option ℕ
    rest = first_clean k (letter_before None s) s letters os

    go : (b : Bool) → first_standing s letters (map (try_at passed k) os ++ ts) ≡ try_from passed k rest (first_standing s letters ts) → cond b (some (try_at passed k o)) (first_standing s letters (map (try_at passed k) os ++ ts)) ≡ try_from passed k (cond b (some o) rest) (first_standing s letters ts)
    go true h = refl
    go false h = h

-- with the given symbol and one start to each side, that of step 8

three_starts : (n : ℕ) → 1 < n → window n 1 ≡ n ∷ (n - 1) ∷ (n + 1) ∷ []
unfolding above pairs
three_starts n h = rw (lt-ltb 0 n (omega arith), lt-ltb 0 (n - 1) (omega arith), lt-ltb 0 (n + 1) (omega arith))

pub around_first : (n k f : ℕ) (s letters : List ℕ) → 1 < n → first_clean k (letter_before (Some f) s) s letters (window n 1) ≡ around n (first_shift (λ e. clean k f (drop (moved e n) s) (drop (moved e n) letters)))
unfolding first_clean letter_before
around_first n k f s letters h = ap (first_clean k (letter_before (Some f) s) s letters) (three_starts n h) ∙ go (at n) (at (n - 1)) (at (n + 1))
  where
    at : ℕ → Bool
    at o = clean k f (drop o s) (drop o letters)

    go : (a b c : Bool) → cond a (some n) (cond b (some (n - 1)) (cond c (some (n + 1)) none)) ≡ around n (cond a (some level) (cond b (some early) (cond c (some late) none)))
    go true b c = refl
    go false true c = refl
    go false false true = refl
    go false false false = refl
