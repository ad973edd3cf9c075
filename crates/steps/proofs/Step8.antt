-- Step 8: where a segment ends.
--   first_length              the first of the lengths behind a segment
--   settled_by                whether the symbols after it settle the end
--   end_last                  the last segment ends with the strand
--   end_settled               one whose syndrome was seen ends behind it
--   end_around                another ends where a clean one starts
use Rattle.std.specs.Prelude.{Some}
use mathlib.Core.Path.{◌≡◌, refl, sym, ap, subst, ◌∙◌}
use mathlib.Core.Bool.{Bool, true, false, false≢true}
use mathlib.Core.List.{List, [], ◌∷◌}
use mathlib.Core.Option.{Option, some, none}
use Prim.Native.Nat.{ℕ, ◌+◌, ◌≤◌, ◌<◌}
use native.Mathlib.Omega.{arith}
use lib.ListN.{length, get_or, drop, length-drop, length-append}
use lib.Seq.{drop-drop}
use Rattle.code.specs.Symbols.{as_symbols}
use Rattle.code.proofs.laws.Letters.{as_length}
use Rattle.code.specs.Bounds.{longest, Length}
use Rattle.code.specs.Layers.{width}
use Rattle.code.specs.Segment.{syndrome_of, last_of, size, data_at}
use Rattle.code.proofs.laws.Segment.{length_syndrome, width_two, last_below}
use Rattle.code.specs.Layout.{Lengths, done, more}
use Rattle.code.specs.Reading.{Shift, is_prefix, moved, separator_at, syndrome_agrees, settled, behind, around, first_shift, clean, end_of}
use Rattle.code.proofs.laws.Reading.{prefix_split}
use Rattle.code.specs.Strands.{window}
use Rattle.tail.specs.declared.Tail.{Tail}
use Rattle.tail.specs.Tails.{syndrome_in, IsTail}
use Rattle.message.proofs.Steps3to7.{syndrome_seen}
use Rattle.scan.specs.declared.Next.{Next}
use Rattle.scan.specs.declared.Next.TheVariants.{At}
use Rattle.scan.specs.Scans.{first_clean, letter_before, searched, ahead, start_of, start_from, Known}
use Rattle.scan.proofs.laws.Scans.{around_first}
use Rattle.scan.proofs.Starts.{searched_start, searched-Known}
use Rattle.steps.specs.declared.strand.Strand.{Strand}
use Rattle.steps.specs.declared.strand.Start.{Start}
use Rattle.steps.specs.Step8.{separator_in, settled_at, IsEnd}
use Rattle.steps.specs.Steps.{AtStart}

-- the first of the lengths behind a segment
pub first_length : (ks : List ℕ) → Lengths longest ks → 0 < length ks → Length (get_or ks 0 0)
first_length [] done h = absurd (omega arith)
first_length (k ∷ ks) (more l m w) h = (l, m)

-- A segment's end lies inside

starts_room : (b s : List ℕ) → is_prefix b s ≡ true → length b ≤ length s
starts_room b s e = omega (arith, ap length (prefix_split b s e), length-append b (drop (length b) s))

module _ (marked : Bool) (S m : List ℕ) (two : 2 ≤ length m) where
  settled_inside : (x : Option Shift) → settled (length m) (drop (data_at marked) S) m x ≡ true → data_at marked + behind (length m) x ≤ length S
  unfolding syndrome_agrees
  settled_inside none h = absurd (false≢true h)
  settled_inside (some j) h =
      let d = drop (data_at marked) S in
      omega (arith, starts_room (syndrome_of m) (drop (moved j (length m + 1) + 3) d) h, length_syndrome m, length-drop (moved j (length m + 1) + 3) d, length-drop (data_at marked) S, width_two (length m) two)

module _ (strand : Strand) (start : Start) (m : List ℕ) (two : 2 ≤ length m) (inside : start.at ≤ length strand.symbols.now) where
  abbrev s : List ℕ
  s = strand.symbols.now

  abbrev p : ℕ
  p = start.at

  abbrev S : List ℕ
  S = drop p s

  abbrev sep : Option Shift
  sep = separator_in strand start (length m)

  abbrev seen : Bool
  seen = settled_at strand start m

  -- the symbols after the separator are those at a place
  pub settled_by : (j : Shift) → sep ≡ some j → (t : Tail) → IsTail m t → (at : ℕ) → at ≡ p + data_at start.marked + (moved j (length m + 1) + 3) → (b : Bool) → b ≡ is_prefix (syndrome_in t) (drop at s) → b ≡ seen
  settled_by j h t i at e b f =
      let q : drop (p + data_at start.marked) s ≡ drop (data_at start.marked) S = sym (drop-drop (data_at start.marked) p s) in
      f ∙ syndrome_seen j (length m) (p + data_at start.marked) s m t at i e ∙ rw (h, q)

  -- the last segment ends with the strand
  pub end_last : (ks : List ℕ) → length ks ≡ 0 → (f : ℕ) → f ≡ last_of m → IsEnd strand start m ks (At (length s) f)
  unfolding end_of
  end_last [] e f l =
      let q : length s ≡ p + length (drop p strand.letters.now) = simp length-drop (omega (arith, as_length _ _ strand.read)) in
      ((λ i. some (ahead 0 (q i) (l i))), record { inside = omega arith; symbol = omega (arith, l, last_below m) })
  end_last (k ∷ ks) e f l = absurd (omega arith)

  -- one whose syndrome was seen ends behind it
  pub end_settled : (ks : List ℕ) → 0 < length ks → (j : Shift) → sep ≡ some j → seen ≡ true → (n w f : ℕ) → n ≡ p + data_at start.marked + (moved j (length m + 1) + 3) → w ≡ width (length m) → f ≡ last_of m → IsEnd strand start m ks (At (n + w) f)
  unfolding end_of
  end_settled [] l j h e n w f g i o = absurd (omega arith)
  end_settled (k ∷ ks) l j h e n w f g i o =
      let q : n + w ≡ p + (data_at start.marked + (moved j (length m + 1) + 3 + width (length m))) = omega arith in
      let r = settled_inside start.marked S m two sep e in
      let v : data_at start.marked + (moved j (length m + 1) + 3 + width (length m)) ≤ length S = rw h at r in
      (rw (e, h) (λ y. some (ahead 0 (q y) (o y))), record { inside = omega (arith, q, v, length-drop p s); symbol = omega (arith, o, last_below m) })

-- another ends where a clean one starts
module _ (letters m : List ℕ) (p : ℕ) (marked : Bool) where
  -- whether the symbols after the separator settle the end, where the letters are read as s
  abbrev settles : List ℕ → Bool
  settles s = settled (length m) (drop (data_at marked) (drop p s)) m (separator_at (length m) (drop (data_at marked) (drop p s)))

  -- r names the end of the segment
  abbrev Ends : List ℕ → List ℕ → Next → Type 0
  Ends ks s r = (start_of r ≡ start_from 0 p (λ o. last_of m) (end_of marked (length m) ks (drop p s) (drop p letters) m)) × Known s letters ks r

  -- the symbols that the letters are read as
  abbrev from : List ℕ
  from = drop p (as_symbols letters)

  abbrev L : List ℕ
  L = drop p letters

  around_read : p ≤ length letters → (ks : List ℕ) → 0 < length ks → settles (as_symbols letters) ≡ false → (n f : ℕ) (r : Next) → n ≡ size marked (length m) → f ≡ last_of m → 1 < n → r ≡ searched (Some f) (get_or ks 0 0) 0 p (window n 1) letters → Ends ks (as_symbols letters) r
  unfolding end_of letter_before
  around_read inside [] l e n f r g i o q = absurd (omega arith)
  around_read inside (k ∷ ks) l e n f r g i o q =
      let x = first_clean k (letter_before (Some f) from) from L (window n 1) in
      let found : x ≡ around n (first_shift (λ e. clean k f (drop (moved e n) from) (drop (moved e n) L))) = around_first n k f from L o in
      let found' : x ≡ end_of marked (length m) (k ∷ ks) from L m = found ∙ rw (e, ← i, ← g) in
      (ap start_of q ∙ (searched_start (Some f) k 0 p (window n 1) letters ∙ (named x ∙ ap (start_from 0 p (λ o. last_of m)) found')), subst (Known (as_symbols letters) letters (k ∷ ks)) (sym q) (searched-Known (Some f) k 0 p (window n 1) letters (omega (arith, i, last_below m)) inside (k ∷ ks) ks refl))
    where
      named : (x : Option ℕ) → start_from 0 p (letter_before (Some f) from) x ≡ start_from 0 p (λ o. last_of m) x
      named (some o) = ap (λ (y : ℕ). some (ahead 0 (p + o) y)) i
      named none = refl

-- the same, in the symbols of the strand
pub end_around : (strand : Strand) (start : Start) (m ks : List ℕ) → AtStart strand start ks (length m) → 0 < length ks → settled_at strand start m ≡ false → (n f : ℕ) (r : Next) → n ≡ size start.marked (length m) → f ≡ last_of m → 1 < n → r ≡ searched (Some f) (get_or ks 0 0) 0 start.at (window n 1) strand.letters.now → IsEnd strand start m ks r
end_around strand start m ks g l e n f r a b c q =
    let letters = strand.letters.now in
    let unsettled = subst (λ (s : List ℕ). settles letters m start.at start.marked s ≡ false) strand.read e in
    let is = around_read letters m start.at start.marked (omega (arith, g.inside, as_length _ _ strand.read)) ks l unsettled n f r a b c q in
    subst (λ (s : List ℕ). Ends letters m start.at start.marked ks s r) (sym strand.read) is
