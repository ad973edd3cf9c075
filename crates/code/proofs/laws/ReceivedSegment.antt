-- The first segment of received letters that keep the conditions, N among them, is read, and the rest keeps the conditions too.
--   Step   what reading makes of it
--   step   it is read
use Rattle.std.specs.Prelude.{◌≡◌, refl, Bool, ℕ, ◌+◌, ◌<◌, get_or, take, drop}
use Rattle.std.proofs.Math.Path.{sym, ap}
use Rattle.std.proofs.Common.{◌∙◌, drop_at}
use Rattle.std.proofs.Math.Bool.{true}
use mathlib.Core.List.{List, [], ◌∷◌, ◌++◌, cons≢nil, map}
use Rattle.std.proofs.Math.Option.{some}
use native.Mathlib.Omega.{arith}
use borrow.Author.Tests.{leb-true}
use Rattle.std.proofs.Math.ListN.{length, length-append}
use Rattle.std.proofs.Math.Seq.{take_at, append_snoc}
use Rattle.code.specs.Symbols.{letter_kinds, as_symbols}
use Rattle.code.proofs.laws.Letters.{length_as, as_append, as_same, as_symbol, as_Fits, as_applied}
use Rattle.code.specs.Segment.{segment, last_of, size}
use Rattle.code.proofs.laws.Segment.{length-segment, segment-Below}
use Rattle.code.specs.Edits.{applied, Fits}
use Rattle.code.specs.declared.Edit.{Edit}
use Rattle.code.specs.declared.Edit.TheVariants.{None, Sub, Del, Ins}
use Rattle.code.specs.Reading.{message, read_message, end_of}
use Rattle.code.proofs.laws.Reading.{drop_last}
use Rattle.code.specs.Conditions.{received, hits, NextUntouched, Allowed}
use Rattle.code.proofs.laws.Layout.{Each, none, both}
use Rattle.code.proofs.laws.HitTail.{clean_written}
use Rattle.code.proofs.laws.SegmentSteps.{Reads, Sees, Final, Sees-end}
use Rattle.code.proofs.laws.OpenEnd.{Follow, final, follows}
use Rattle.code.proofs.laws.OneSegment.{Proper, Stops, seen, next, left, stops}
use Rattle.code.proofs.laws.CleanLetters.{NextClean, end_letters}
use Rattle.code.proofs.laws.WithinLimits.{applied-Below}

-- what reading makes of the first of some segments: message and end; a piece that one edit at most gives, in symbols; and a rest that keeps the
-- conditions
pub record Step (marked : Bool) (f : ℕ) (m : List ℕ) (ms : List (List ℕ)) (l : List ℕ) : Type 0 where
  pub stop : ℕ
  pub read_message_is : read_message marked (length m) (as_symbols l) ≡ message m
  pub end_is : end_of marked (length m) (map length ms) (as_symbols l) l m ≡ some stop
  pub edit : Edit
  pub fits : Fits 4 edit (length (segment marked f m))
  pub piece : applied edit (segment marked f m) ≡ take stop (as_symbols l)
  pub edits : List Edit
  pub allowed : Allowed true (last_of m) ms edits
  pub rest : received true (last_of m) ms edits ≡ drop stop l

-- nothing is received of no segments
Final-received : (f : ℕ) (ms : List (List ℕ)) (es : List Edit) → Final (map length ms) (as_symbols (received true f ms es))
unfolding received as_symbols
Final-received f [] es e = refl
Final-received f (m ∷ ms) es e = absurd (cons≢nil e)

-- the first of the segments that follow, untouched
untouched : (f : ℕ) (m : List ℕ) (ms : List (List ℕ)) (e : Edit) (es : List Edit) → applied e (segment true f m) ≡ segment true f m → received true f (m ∷ ms) (e ∷ es) ≡ segment true f m ++ received true (last_of m) ms es
unfolding received
untouched f m ms e es spared = ap (λ (l : List ℕ). l ++ received true (last_of m) ms es) spared

-- a segment and what follows it, as symbols
as_segment : (marked : Bool) (f : ℕ) (m l : List ℕ) → Proper m → as_symbols (segment marked f m ++ l) ≡ segment marked f m ++ as_symbols l
as_segment marked f m l p = as_append (segment marked f m) l ∙ ap (λ (w : List ℕ). w ++ as_symbols l) (as_same (segment marked f m) (segment-Below marked f m p.small))

-- an untouched segment follows, or none
follow : (f : ℕ) (ms : List (List ℕ)) (es : List Edit) → Each Proper ms → Allowed true f ms es → NextUntouched f ms es → Follow f (map length ms) (as_symbols (received true f ms es))
unfolding received as_symbols
follow f [] [] none more spared = final
follow f [] (e ∷ es) none more spared = absurd more
follow f (m ∷ ms) [] (both p ps) more spared = absurd spared
follow f (m ∷ ms) (e ∷ es) (both p ps) more spared =
    let r = received true (last_of m) ms es in
    rw (spared, as_segment true f m r p) (follows m (map length ms) (as_symbols r) p.two)

-- it is clean in letters
next_clean : (f : ℕ) (ms : List (List ℕ)) (es : List Edit) → Each Proper ms → NextUntouched f ms es → NextClean (map length ms) f (as_symbols (received true f ms es)) (received true f ms es)
unfolding received
next_clean f [] es none spared = tt
next_clean f (m ∷ ms) [] (both p ps) spared = absurd spared
next_clean f (m ∷ ms) (e ∷ es) (both p ps) spared =
    let r = received true (last_of m) ms es in
    rw (spared, as_segment true f m r p) (clean_written f m (as_symbols r) r)

hits_as : (marked : Bool) (k : ℕ) (e : Edit) → hits marked k (as_symbol e) ≡ hits marked k e
hits_as marked k None = refl
hits_as marked k (Sub i x) = refl
hits_as marked k (Del i x) = refl
hits_as marked k (Ins i x) = refl

module _ (marked : Bool) (f : ℕ) (m : List ℕ) (p : Proper m) (e : Edit) (fit : Fits letter_kinds e (length (segment marked f m))) where
  -- the segment, its stretch, and the edit in symbols
  abbrev w : List ℕ
  w = segment marked f m

  abbrev u : List ℕ
  u = applied e w

  abbrev d : Edit
  d = as_symbol e

  as_stretch : as_symbols u ≡ applied d w
  as_stretch = as_applied e w ∙ ap (applied d) (as_same w (segment-Below marked f m p.small))

  length_stretch : length (applied d w) ≡ length u
  length_stretch = sym (ap length as_stretch) ∙ length_as u

  as_here : (r : List ℕ) → as_symbols (u ++ r) ≡ applied d w ++ as_symbols r
  as_here r = as_append u r ∙ ap (λ (l : List ℕ). l ++ as_symbols r) as_stretch

  Fits-here : Fits 4 d (length w)
  Fits-here = as_Fits letter_kinds e (length w) fit

  module _ (ms : List (List ℕ)) (es : List Edit) (more : Allowed true (last_of m) ms es) where
    abbrev r : List ℕ
    r = received true (last_of m) ms es

    abbrev ks : List ℕ
    ks = map length ms

    -- the stretch ends where the reading stops
    finish : Reads marked m ks (as_symbols (u ++ r)) (length u) → end_of marked (length m) ks (as_symbols (u ++ r)) (u ++ r) m ≡ some (length u) → Step marked f m ms (u ++ r)
    finish g end =
        record {
          stop = length u;
          read_message_is = g.read_message_is;
          end_is = end;
          edit = d;
          fits = Fits-here;
          piece = sym (ap (take (length u)) (as_here r) ∙ take_at (applied d w) (as_symbols r) (length u) length_stretch);
          edits = es;
          allowed = more;
          rest = sym (drop_at u r (length u) refl);
        }

    by_syndrome : Sees marked m ks (as_symbols (u ++ r)) (length u) → Step marked f m ms (u ++ r)
    by_syndrome g = finish g.reads (Sees-end marked m ks (as_symbols (u ++ r)) (u ++ r) (length u) g (sym (length_as (u ++ r))))

    by_next : Each Proper ms → NextUntouched (last_of m) ms es → Reads marked m ks (as_symbols (u ++ r)) (length u) → Step marked f m ms (u ++ r)
    by_next ps spared g =
        let a : drop (length u) (u ++ r) ≡ r = drop_at u r (length u) refl in
        let b : drop (length u) (as_symbols (u ++ r)) ≡ as_symbols r = ap (drop (length u)) (as_here r) ∙ drop_at (applied d w) (as_symbols r) (length u) length_stretch in
        finish g (end_letters marked (length m) ks (u ++ r) m (length u) (sym (length_as (u ++ r))) g.end_is (rw (a, b) (next_clean (last_of m) ms es ps spared)))

  -- the letter behind the segment
  abbrev n : ℕ
  n = size marked (length m)

  abbrev letter : ℕ
  letter = get_or u n 0

  letter_below : letter < letter_kinds
  letter_below = applied-Below letter_kinds e w fit (λ i. omega (arith, segment-Below marked f m p.small i)) n

  -- it is left to the next segment, as put in before its first
  by_moving : (ms : List (List ℕ)) (es : List Edit) → Allowed true (last_of m) ms es → NextUntouched (last_of m) ms es → (z : ℕ) → applied d w ≡ w ++ z ∷ [] → Sees marked m (map length ms) (as_symbols (u ++ received true (last_of m) ms es)) n → Step marked f m ms (u ++ received true (last_of m) ms es)
  unfolding received end_of
  by_moving [] es more spared z q g =
      let l : length (as_symbols (u ++ [])) ≡ n = cc g.reads.end_is in
      absurd (omega (arith, length_as (u ++ []), length-append u [], length_stretch, ap length q, length-append w (z ∷ []), length-segment marked f m))
  by_moving (m' ∷ ms) [] more spared z q g = absurd more
  by_moving (m' ∷ ms) (e' ∷ es) more spared z q g =
      let r = received true (last_of m) (m' ∷ ms) (e' ∷ es) in
      let long : length u ≡ n + 1 = omega (arith, length_stretch, ap length q, length-append w (z ∷ []), length-segment marked f m) in
      let first : as_symbols (u ++ r) ≡ w ++ (z ∷ as_symbols r) = as_here r ∙ ap (λ (l : List ℕ). l ++ as_symbols r) q ∙ append_snoc w z (as_symbols r) in
      record {
        stop = n;
        read_message_is = g.reads.read_message_is;
        end_is = Sees-end marked m (map length (m' ∷ ms)) (as_symbols (u ++ r)) (u ++ r) n g (sym (length_as (u ++ r)));
        edit = None;
        fits = tt;
        piece = sym (ap (take n) first ∙ take_at w (z ∷ as_symbols r) n (length-segment marked f m));
        edits = Ins 0 letter ∷ es;
        allowed = ((omega arith, letter_below), (λ h. absurd (omega (arith, leb-true (2 + (length m' + 1)) 0 h))), more.2);
        rest = ap (λ (l : List ℕ). letter ∷ l ++ received true (last_of m') ms es) (sym spared) ∙ sym (drop_last n u r long);
      }

-- the first segment is read, and the rest keeps the conditions
pub step : (marked : Bool) (f : ℕ) (m : List ℕ) (ms : List (List ℕ)) (e : Edit) (es : List Edit) → Proper m → Each Proper ms → Allowed marked f (m ∷ ms) (e ∷ es) → Step marked f m ms (received marked f (m ∷ ms) (e ∷ es))
unfolding received
step marked f m ms e es p ps h = go (stops marked f m (map length ms) (as_symbol e) (as_symbols r) p (Fits-here marked f m p e h.0) (Final-received (last_of m) ms es) (λ q. follow (last_of m) ms es ps h.2 (spared q)))
  where
    r : List ℕ
    r = received true (last_of m) ms es

    spared : hits marked (length m) (as_symbol e) ≡ true → NextUntouched (last_of m) ms es
    spared q = h.1 (sym (hits_as marked (length m) e) ∙ q)

    s : List ℕ
    s = applied (as_symbol e) (segment marked f m) ++ as_symbols r

    here : as_symbols (applied e (segment marked f m) ++ r) ≡ s
    here = as_here marked f m p e h.0 r

    go : Stops marked f m (map length ms) (as_symbol e) (as_symbols r) → Step marked f m ms (applied e (segment marked f m) ++ r)
    go (seen g) = by_syndrome marked f m p e h.0 ms es h.2 (rw (here, ← length_stretch marked f m p e h.0) g)
    go (next q g) = by_next marked f m p e h.0 ms es h.2 ps (spared q) (rw (here, ← length_stretch marked f m p e h.0) g)
    go (left q z t g) = by_moving marked f m p e h.0 ms es h.2 (spared q) z t (rw here g)
