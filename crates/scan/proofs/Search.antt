-- What the search for a clean segment uses.
--   left                         the answer of the starts that are left
--   Turn                         how far the search has come
--   unmarked, marked             the clean test, by the marker
--   Compared                     the symbols of a tail that are compared
use Rattle.std.specs.Prelude as Prelude
use mathlib.Core.Path.{◌≡◌, refl, sym, ap, subst, ◌∙◌}
use mathlib.Core.Bool.{Bool, true, false}
use mathlib.Core.List.{List, ◌∷◌}
use Prim.Native.Nat.{ℕ, zero, suc, ◌+◌, ◌-◌, ◌*◌, ◌/◌, ◌%◌, ◌≤◌, ◌<◌}
use native.Mathlib.Decide.{dec_le}
use native.Mathlib.Nat.{lt_of_not-le}
use native.Mathlib.Numerals.{add-one}
use native.Mathlib.Omega.{arith}
use borrow.Author.Tests.{lt-ltb, le-ltb}
use lib.ListN.{length, get_or, take, drop, length-take, length-drop, drop_of_length-le}
use lib.Seq.{drop-cons, drop-drop}
use Rattle.code.specs.Symbols.{as_symbols}
use Rattle.code.proofs.laws.Letters.{length_as}
use Rattle.code.specs.Bounds.{longest, widest}
use Rattle.code.specs.Layers.{width}
use Rattle.code.proofs.laws.Layers.{width-Least}
use Rattle.code.specs.Segment.{size}
use Rattle.code.specs.Reading.{is_prefix, clean}
use Rattle.code.specs.Strands.{above, pairs, window}
use Rattle.places.specs.Offsets.{tried_at}
use Rattle.places.proofs.laws.Offsets.{tried_even, tried_above, tried_behind_lem, about_length, about_at}
use Rattle.places.proofs.TestsAtPlaces.{block_begin, block_turn, block_stop, block_end}
use Rattle.tail.specs.declared.Tail.{Tail}
use Rattle.tail.specs.Tails.{mark, IsTail, tail_of}
use Rattle.tail.proofs.Tails.{tail_symbols, tail_length}
use Rattle.clean.proofs.Parts.{mark_fails, segment_seen}
use Rattle.scan.specs.declared.Next.{Next}
use Rattle.scan.specs.declared.Next.TheVariants.{Clean, Nowhere}
use Rattle.scan.specs.Scans.{first_clean, letter_before, first_at_most, searched}
use Rattle.scan.proofs.laws.Scans.{clean_short, letter_from}

-- The starts that are left

module _ (letters : List ℕ) (p n k wide : ℕ) (given : Prelude.Option ℕ) (passed : ℕ) where
  -- the symbols that the letters are read as
  abbrev s : List ℕ
  s = as_symbols letters

  -- the places about n
  abbrev about : List ℕ
  about = n ∷ pairs n 1 wide

  -- the answer of the starts from the i-th on
  unfoldable pub left : ℕ → Next
  left i = searched given k passed p (above (drop i about)) letters

  -- how far the search has come, `last` being the last start with room: it goes on with the start number `tried`, and then with every one, or with
  -- every second where the others have no room
  pub record Turn (last tried step : ℕ) : Type 0 where
    pub room : last + (p + size true k) ≡ length letters
    pub same : left 0 ≡ left tried
    pub low : n ≤ last + (tried + 1) / 2
    pub few : tried ≤ 2 * n + 2
    pub least : 1 ≤ step
    pub most : step ≤ 2
    pub second : step ≡ 2 → (tried % 2 ≡ 1) × (last < n + (tried + 1) / 2)

  left_end : (i : ℕ) → 2 * wide < i → left i ≡ Nowhere
  unfolding left above first_clean
  left_end i h = rw (drop_of_length-le about {i = i} (omega (arith, about_length n wide)))

  module _ (i : ℕ) (inside : i ≤ 2 * wide) (o : ℕ) (is : o ≡ tried_at n i) where
    next : drop i about ≡ o ∷ drop (i + 1) about
    next = rw add-one (drop-cons about i 0 (omega (arith, about_length n wide)) ∙ ap (λ (x : ℕ). x ∷ drop (suc i) about) (about_at n wide i inside ∙ sym is))

    -- the clean test at the start, counted from the front
    test : 0 < o → clean k (letter_before given (drop p s) o) (drop o (drop p s)) (drop o (drop p letters)) ≡ clean k (letter_before given s (p + o)) (drop (p + o) s) (drop (p + o) letters)
    test h = rw (drop-drop o p s, drop-drop o p letters, letter_from given s p o h)

    -- a start that is not above p
    left_zero : o ≡ 0 → left i ≡ left (i + 1)
    unfolding left above
    left_zero e = rw (next, e)

    -- a start where no clean segment stands
    left_pass : 0 < o → clean k (letter_before given s (p + o)) (drop (p + o) s) (drop (p + o) letters) ≡ false → left i ≡ left (i + 1)
    unfolding left above first_clean
    left_pass h e = rw (next, lt-ltb 0 o h, test h, e)

    -- a start where one stands
    left_found : 0 < o → clean k (letter_before given s (p + o)) (drop (p + o) s) (drop (p + o) letters) ≡ true → left i ≡ Clean (p + o) (letter_before given s (p + o)) passed
    unfolding left above first_clean
    left_found h e = rw (next, lt-ltb 0 o h, test h, e) (ap (λ (x : ℕ). Clean (p + o) x passed) (letter_from given s p o h))

    -- a start where the letters that stand there, N or not, are no clean segment
    left_unclean : ((g : ℕ) → clean k g (drop (p + o) s) (drop (p + o) letters) ≡ false) → left i ≡ left (i + 1)
    left_unclean h = go (dec_le 1 o)
      where
        go : Dec (1 ≤ o) → left i ≡ left (i + 1)
        go (yes l) = left_pass l (h (letter_before given s (p + o)))
        go (no l) = left_zero (omega (arith, lt_of_not-le l))

  -- a start with less room than a segment takes
  left_past : (i : ℕ) → i ≤ 2 * wide → length letters < p + tried_at n i + size true k → left i ≡ left (i + 1)
  left_past i h q = left_unclean i h (tried_at n i) refl (λ g. clean_short k g s letters (length_as letters) (p + tried_at n i) (omega (arith, length_as letters)))

  -- such starts are passed over together
  left_over : (i : ℕ) → ((j : ℕ) → j < i → length letters < p + tried_at n j + size true k) → left 0 ≡ left i
  left_over zero h = refl
  left_over (suc i) h = let e : i + 1 ≡ suc i = omega arith in left_over i (λ j l. h j (omega arith)) ∙ (go (dec_le i (2 * wide)) ∙ ap left e)
    where
      go : Dec (i ≤ 2 * wide) → left i ≡ left (i + 1)
      go (yes l) = left_past i l (h i (omega arith))
      go (no l) = let q = lt_of_not-le l in left_end i q ∙ sym (left_end (i + 1) (omega arith))

  -- there is no room at all
  pub none_whole : length letters < p + size true k → searched given k passed p (window n wide) letters ≡ Nowhere
  unfolding left
  none_whole h = left_over (2 * wide + 1) (λ j l. omega arith) ∙ left_end (2 * wide + 1) (omega arith)

  pub Turn-begin : (last : ℕ) → last + (p + size true k) ≡ length letters → Turn last (first_at_most n last) 1
  Turn-begin last r = go (dec_le n last)
    where
      begun : (i : ℕ) → left 0 ≡ left i → n ≤ last + (i + 1) / 2 → i ≤ 2 * n + 2 → Turn last i 1
      begun i e l m = record { room = r; same = e; low = l; few = m; least = omega arith; most = omega arith; second = λ q. absurd (omega arith) }

      go : Dec (n ≤ last) → Turn last (first_at_most n last) 1
      go (yes h) = rw (le-ltb last n h) (begun 0 refl (omega arith) (omega arith))
      go (no h) =
          let l = lt_of_not-le h in
          let over = left_over (2 * (n - last) - 1) (λ j q. omega (arith, r, tried_above n last j q)) in
          rw (lt-ltb last n l) (begun (2 * (n - last) - 1) over (omega arith) (omega arith))

module _ {letters : List ℕ} {p n k wide : ℕ} {given : Prelude.Option ℕ} {passed last tried step : ℕ} (t : Turn letters p n k wide given passed last tried step) where
  -- all starts are tried
  pub turn_end : 2 * wide < tried → searched given k passed p (window n wide) letters ≡ Nowhere
  unfolding left
  turn_end h = t.same ∙ left_end letters p n k wide given passed tried h

  module _ (inside : tried ≤ 2 * wide) (fits : wide ≤ n) where
    -- the start is passed over
    on : left letters p n k wide given passed tried ≡ left letters p n k wide given passed (tried + 1) → Turn letters p n k wide given passed last (tried + step) step
    on h = go (dec_le step 1)
      where
        go : Dec (step ≤ 1) → Turn letters p n k wide given passed last (tried + step) step
        go (yes l) =
            let e : step ≡ 1 = omega (arith, t.least) in
            rw e (record { room = t.room; same = t.same ∙ h; low = omega (arith, t.low); few = omega arith; least = omega arith; most = omega arith; second = λ q. absurd (omega arith) })
        go (no l) =
            let e : step ≡ 2 = omega (arith, t.most, lt_of_not-le l) in
            let o = t.second e in
            let u : tried + 1 + 1 ≡ tried + 2 = omega arith in
            let past = left_past letters p n k wide given passed (tried + 1) (omega arith) (omega (arith, t.room, tried_even n (tried + 1) (omega arith))) in
            rw e (record { room = t.room; same = t.same ∙ (h ∙ (past ∙ ap (left letters p n k wide given passed) u)); low = omega (arith, t.low); few = omega arith; least = omega arith; most = omega arith; second = λ q. (omega arith, omega arith) })

    -- it has no room: of the later ones, neither has every second
    pub Turn-past : last < tried_at n tried → Turn letters p n k wide given passed last (tried + step) 2
    Turn-past h =
        let even : tried % 2 ≡ 0 = tried_behind_lem n last tried t.low h in
        let e : step ≡ 1 = go (dec_le step 1) even in
        let z = tried_even n tried even in
        rw e (record { room = t.room; same = t.same ∙ left_past letters p n k wide given passed tried inside (omega (arith, t.room)); low = omega (arith, t.low); few = omega arith; least = omega arith; most = omega arith; second = λ q. (omega arith, omega arith) })
      where
        go : Dec (step ≤ 1) → tried % 2 ≡ 0 → step ≡ 1
        go (yes l) z = omega (arith, t.least)
        go (no l) z = absurd (omega (arith, (t.second (omega (arith, t.most, lt_of_not-le l))).0))

    -- the start is o
    module _ (o : ℕ) (is : o ≡ tried_at n tried) where
      -- it is not above p
      pub Turn-zero : o ≡ 0 → Turn letters p n k wide given passed last (tried + step) step
      Turn-zero e = on (left_zero letters p n k wide given passed tried inside o is e)

      -- no clean segment stands there, whatever stands before it
      pub Turn-unclean : ((g : ℕ) → clean k g (drop (p + o) (as_symbols letters)) (drop (p + o) letters) ≡ false) → Turn letters p n k wide given passed last (tried + step) step
      Turn-unclean h = on (left_unclean letters p n k wide given passed tried inside o is h)

      module _ (above : 0 < o) where
        abbrev here : Bool
        here = clean k (letter_before given (as_symbols letters) (p + o)) (drop (p + o) (as_symbols letters)) (drop (p + o) letters)

        -- no clean segment stands there
        pub Turn-pass : here ≡ false → Turn letters p n k wide given passed last (tried + step) step
        Turn-pass e = on (left_pass letters p n k wide given passed tried inside o is above e)

        -- one stands there
        pub turn_found : here ≡ true → searched given k passed p (window n wide) letters ≡ Clean (p + o) (letter_before given (as_symbols letters) (p + o)) passed
        unfolding left
        turn_found e = t.same ∙ left_found letters p n k wide given passed tried inside o is above e

-- The clean test at a place, by what was looked at

module _ (k f : ℕ) (s : List ℕ) (at : ℕ) (found : Bool) (looked : found ≡ is_prefix (mark true f (drop 2 (drop at s))) (drop at s)) (two : 2 ≤ k) where
  -- without the marker
  pub unmarked : found ≡ false → clean k f (drop at s) (drop at s) ≡ false
  unfolding clean
  unmarked e = mark_fails true f at s k two (sym looked ∙ e)

  -- with the marker the tail decides
  pub marked : found ≡ true → (t : Tail) → IsTail (take k (drop (at + 2) s)) t → clean k f (drop at s) (drop at s) ≡ is_prefix (tail_of t) (drop (at + (2 + k)) s)
  unfolding clean
  marked e t tail =
      let q : at + 2 + k ≡ at + (2 + k) = omega arith in
      segment_seen true f at s k two (at + 2) (tail_of t) refl (sym (tail_symbols (take k (drop (at + 2) s)) t tail)) ∙ rw (← looked, e, q)

-- The tail against the symbols behind the message

-- the answer is that of the tail's symbols from the j-th on
pub record Compared (s : List ℕ) (t : Tail) (behind : ℕ) (answer : Bool) (j : ℕ) : Type 0 where
  pub inside : j ≤ 4 + t.width
  pub fits : t.width ≤ widest
  pub within : behind + (4 + t.width) ≤ length s
  pub rest : is_prefix (drop j (tail_of t)) (drop (behind + j) s) ≡ answer

module _ (s : List ℕ) (t : Tail) (behind : ℕ) (answer : Bool) where
  pub Compared-begin : t.width ≤ widest → behind + (4 + t.width) ≤ length s → answer ≡ is_prefix (tail_of t) (drop behind s) → Compared s t behind answer 0
  Compared-begin a c e = record { inside = omega arith; fits = a; within = c; rest = block_begin s behind (tail_of t) ∙ sym e }

  module _ (j : ℕ) (known : Compared s t behind answer j) where
    long : length (tail_of t) ≡ 4 + t.width
    long = tail_length t

    pub compared_end : 4 + t.width ≤ j → answer ≡ true
    compared_end h = let l = long in sym known.rest ∙ block_end s behind (tail_of t) j _ (omega arith)

    module _ (more : j < 4 + t.width) (x : ℕ) (is : x ≡ get_or (tail_of t) j 0) where
      pub Compared-turn : x ≡ get_or s (behind + j) 0 → Compared s t behind answer (j + 1)
      Compared-turn e =
          let l = long in
          record {
            inside = omega arith;
            fits = known.fits;
            within = known.within;
            rest = sym (block_turn s behind (tail_of t) j (omega arith) (omega (arith, known.within)) (sym is ∙ e)) ∙ known.rest;
          }

      pub compared_stop : (x ≡ get_or s (behind + j) 0 → ⊥) → answer ≡ false
      compared_stop e = let l = long in sym known.rest ∙ block_stop s behind (tail_of t) j (omega arith) (omega (arith, known.within)) (λ q. e (is ∙ q))

-- The numbers

pub size_is : (k : ℕ) → size true k ≡ 2 + (k + (4 + width k))
unfolding size
size_is k = refl

pub width_small : (k : ℕ) → k ≤ longest → width k ≤ widest
width_small k h = (width-Least k).least 16 (omega arith)

-- the message as a part of the strand
module _ (s : List ℕ) (at k : ℕ) (room : at + (2 + k) ≤ length s) where
  pub part_is : take (at + (2 + k) - (at + 2)) (drop (at + 2) s) ≡ take k (drop (at + 2) s)
  part_is = let e : at + (2 + k) - (at + 2) ≡ k = omega arith in rw e

  pub part_long : length (take (at + (2 + k) - (at + 2)) (drop (at + 2) s)) ≡ k
  part_long = simp (length-take, length-drop) (omega arith)

  pub part_tail : (t : Tail) → IsTail (take (at + (2 + k) - (at + 2)) (drop (at + 2) s)) t → IsTail (take k (drop (at + 2) s)) t
  part_tail t e = subst (λ (m : List ℕ). IsTail m t) part_is e

  pub part_width : (t : Tail) → IsTail (take (at + (2 + k) - (at + 2)) (drop (at + 2) s)) t → t.width ≡ width k
  part_width t e = e.width ∙ ap width part_long
