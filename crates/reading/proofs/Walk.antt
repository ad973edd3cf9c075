-- The walk over a layout: what stands, followed by what is to come, is the whole.
--   Walk                                 how far the walk has come
--   Walk-begin                           it holds at the start
--   walk_inside, walk_room               the next segment is there, and its message has room
--   walk_asks                            what the reading of the next segment asks
--   walk_piece, walk_known               its piece, and whether an N is among its letters
--   walk_Numbered, walk_number           its verdict has a number
--   Walk-turn                            it holds behind that segment
--   Walk-end                             at the end it gives the whole
use mathlib.Core.Path.{◌≡◌, refl, sym, ap, ◌∙◌}
use mathlib.Core.Bool.{Bool, true, false, not}
use mathlib.Core.List.{List, [], ◌∷◌, ◌++◌, map, append_assoc, append-nil}
use mathlib.Core.Option.{Option, some, none}
use Prim.Native.Nat.{ℕ, ◌+◌, ◌-◌, ◌≤◌, ◌<◌}
use native.Mathlib.Numerals.{add-one}
use native.Mathlib.Omega.{arith}
use borrow.Author.Tests.{ne_eqb}
use lib.Dec.{eqb}
use lib.ListN.{length, get_or, take, drop, set, length-drop, length-set}
use lib.Seq.{drop-drop, take_all, take-suc-set, length-take-le}
use Rattle.std.proofs.lemmas.List.{drop_more}
use Rattle.code.specs.Buffers.{put_at}
use Rattle.code.proofs.laws.Lists.{take_put, length_put}
use Rattle.code.specs.Limits.{least_length}
use Rattle.code.specs.Bounds.{longest, Length}
use Rattle.code.specs.Layout.{sum, Lengths, more, joined}
use Rattle.code.specs.Symbols.{as_symbols, has_unknown}
use Rattle.code.proofs.laws.Letters.{as_length, has_take, has_drop}
use Rattle.code.specs.declared.Verdict.{Verdict}
use Rattle.code.specs.Strands.{told, Outcome, reading, outcomes, messages_of, verdicts_of}
use Rattle.code.specs.Verdicts.{verdict_number, verdict_of, Numbered}
use Rattle.code.proofs.laws.Verdicts.{verdict_back}
use Rattle.scan.specs.declared.Next.{Next}
use Rattle.scan.specs.declared.Next.TheVariants.{At, Clean, Nowhere}
use Rattle.scan.specs.Scans.{Ahead, ahead, start_of, next_place, Known}
use Rattle.steps.specs.declared.Answer.{Answer}
use Rattle.steps.specs.declared.strand.Strand.{Strand}
use Rattle.steps.specs.Steps.{Step, step_of, going, Marked, IsStep}
use Rattle.steps.proofs.laws.Steps.{going_step, step_length, step_end, step_piece, step_Numbered, start_place, place_start, place_inside}
use Rattle.reading.specs.Walks.{ends_from, Walked}
use Rattle.reading.proofs.Said.{untold_Numbered}

-- a part of a buffer, as the logic puts it back
part_put : (a n : ℕ) (d y b : List ℕ) → y ≡ b → length b ≡ n → take a d ++ (y ++ drop (a + n - a) (drop a d)) ≡ put_at d a b
unfolding put_at
part_put a n d y b e h =
    let q : a + n - a ≡ length b = omega arith in
    rw (e, q, drop-drop (length b) a d) (sym (append_assoc (take a d) b (drop (a + length b) d)))

length_of : {most k : ℕ} {ks : List ℕ} → Lengths most (k ∷ ks) → (least_length ≤ k) × (k ≤ most) × Lengths most ks
length_of (more h m hs) = (h, m, hs)

-- behind the first segment a start may be known to be clean
Marked-behind : (next : Next) → Marked next true
Marked-behind (At p f) = tt
Marked-behind (Clean p f n) = refl
Marked-behind Nowhere = tt

nothing_left : (x : Option Ahead) (marked : Bool) (s letters : List ℕ) → going x marked [] s letters ≡ []
unfolding going reading
nothing_left (some x) marked s letters = refl
nothing_left none marked s letters = refl

-- the numbers of the verdicts of outcomes
abbrev pub numbers_of : List Outcome → List ℕ
numbers_of os = map verdict_number (verdicts_of os)

-- all are left at the start
all_left : (ks s letters : List ℕ) → s ≡ as_symbols letters → going (some (ahead 0 0 0)) false ks s letters ≡ outcomes ks letters
unfolding going
all_left ks s letters read = rw read

-- a part up to the end
pub part_all : (ks : List ℕ) (i : ℕ) → take (length ks - (i + 1)) (drop (i + 1) ks) ≡ drop (i + 1) ks
part_all ks i = take_all (length ks - (i + 1)) (drop (i + 1) ks) (omega (arith, length-drop (i + 1) ks))

-- the next length and those behind it, as the walk takes them
pub lengths_left : (ks : List ℕ) (i : ℕ) → i < length ks → drop i ks ≡ get_or ks i 0 ∷ take (length ks - (i + 1)) (drop (i + 1) ks)
lengths_left ks i h = drop_more ks i 0 h ∙ ap (◌∷◌ (get_or ks i 0)) (sym (part_all ks i))

module _ (ks : List ℕ) (strand : Strand) where
  abbrev s : List ℕ
  s = strand.symbols.now

  abbrev letters : List ℕ
  letters = strand.letters.now

  -- the outcomes of the segments that are left
  abbrev pub to_come : ℕ → Next → List ℕ → List Outcome
  to_come i next rest = going (start_of next) (not (eqb i 0)) rest s letters

  -- where the last piece ended
  abbrev pub place : Next → ℕ
  place next = start_place (start_of next) (length s)

  -- i segments are read, their messages are the first `at` symbols, the next one starts at `next`, its piece at `from`, and the lengths `rest` are left
  pub record Walk (symbols verdicts ends : List ℕ) (next : Next) (from at i : ℕ) (rest : List ℕ) : Type 0 where
    pub from_is : from ≡ place next
    pub count : i + length rest ≡ length ks
    pub behind : at + sum rest ≡ length symbols
    pub symbols_room : length symbols ≡ sum ks
    pub verdicts_room : length verdicts ≡ length ks
    pub ends_room : length ends ≡ length ks
    pub lengths : Lengths longest rest
    pub known : Known s letters rest next
    pub marked : Marked next (not (eqb i 0))
    pub messages_are : take at symbols ++ messages_of (to_come i next rest) ≡ messages_of (outcomes ks letters)
    pub verdicts_are : take i verdicts ++ numbers_of (to_come i next rest) ≡ numbers_of (outcomes ks letters)
    pub ends_are : take i ends ++ ends_from (place next) (to_come i next rest) ≡ ends_from 0 (outcomes ks letters)

  -- as many symbols as letters
  same : length s ≡ length letters
  same = as_length s letters strand.read

  pub Walk-begin : (symbols verdicts ends : List ℕ) → Lengths longest ks → length symbols ≡ sum ks → length verdicts ≡ length ks → length ends ≡ length ks → Walk symbols verdicts ends (At 0 0) 0 0 0 ks
  unfolding going
  Walk-begin symbols verdicts ends h a b c =
      let all : to_come 0 (At 0 0) ks ≡ outcomes ks letters = all_left ks s letters strand.read in
      record {
        from_is = refl;
        count = omega arith;
        behind = omega arith;
        symbols_room = a;
        verdicts_room = b;
        ends_room = c;
        lengths = h;
        known = record { inside = omega arith; symbol = omega arith };
        marked = tt;
        messages_are = ap messages_of all;
        verdicts_are = ap numbers_of all;
        ends_are = ap (ends_from 0) all;
      }

  -- the next segment has the length k, and the lengths `behind` follow it
  module _ (symbols verdicts ends : List ℕ) (next : Next) (from at i : ℕ) (rest : List ℕ) (w : Walk symbols verdicts ends next from at i rest) (k : ℕ) (behind : List ℕ) (here : rest ≡ k ∷ behind) where
    abbrev marked : Bool
    marked = not (eqb i 0)

    -- the part of the buffer for the message, as the walk lends it
    abbrev part : List ℕ
    part = take (at + k - at) (drop at symbols)

    bounds : (least_length ≤ k) × (k ≤ longest) × Lengths longest behind
    bounds = length_of (rw here at w.lengths)

    -- there is a segment
    pub walk_inside : i < length ks
    walk_inside = omega (arith, w.count, ap length here)

    -- the message has room
    pub walk_room : at + k ≤ length symbols
    unfolding sum
    walk_room = omega (arith, w.behind, ap sum here)

    part_is : length part ≡ k
    part_is =
        let q : at + k - at ≡ k = omega arith in
        rw q (length-take-le k (drop at symbols) (simp length-drop (omega (arith, walk_room))))

    -- what the reading of the segment asks
    pub walk_asks : Length (length part) × Lengths longest behind × Known s letters (length part ∷ behind) next
    walk_asks = rw part_is ((bounds.0, bounds.1), bounds.2, rw here at w.known)

    -- the answer of the segment, and its message
    module _ (out : List ℕ) (r : Answer) (stepped : IsStep (step_of (start_of next) marked (length part) behind s letters) strand behind out r) where
      abbrev t : Step
      t = step_of (start_of next) marked k behind s letters

      is_step : IsStep t strand behind out r
      is_step = rw part_is at stepped

      -- its verdict has a number
      pub walk_Numbered : Numbered r.verdict
      walk_Numbered = untold_Numbered r.verdict t.outcome.piece (rw is_step.verdict (step_Numbered marked k behind s letters strand.received (bounds.0, bounds.1) (start_of next)))

      split : to_come i next rest ≡ t.outcome ∷ to_come (i + 1) r.next behind
      split =
          let z : not (eqb (i + 1) 0) ≡ true = ap not (ne_eqb (i + 1) 0 (λ x. omega arith)) in
          rw (is_step.next, z, here) (going_step marked k behind s letters (start_of next))

      end_is : place r.next ≡ place next + length t.outcome.piece
      end_is =
          let e : place r.next ≡ start_place t.next (length s) = ap (λ (x : Option Ahead). start_place x (length s)) is_step.next in
          e ∙ step_end marked k behind s letters same (start_of next) (place_inside s letters rest next w.known) (omega (arith, e, place_inside s letters behind r.next is_step.known))

      -- the piece ends at `end`
      module _ (end : ℕ) (next_is : end ≡ next_place r.next (length s)) where
        end-place : end ≡ place r.next
        end-place = next_is ∙ place_start r.next (length s)

        -- the piece as a part of the letters
        pub walk_piece : (from ≤ end) × (end ≤ length letters)
        walk_piece = (omega (arith, w.from_is, end-place, end_is), omega (arith, end-place, place_inside s letters behind r.next is_step.known, same))

        piece_is : t.outcome.piece ≡ take (end - from) (drop from letters)
        piece_is =
            let e : place r.next ≡ start_place t.next (length s) = ap (λ (x : Option Ahead). start_place x (length s)) is_step.next in
            rw (w.from_is, end-place, e) (step_piece marked k behind s letters same (start_of next))

        -- letters without an N have a piece without one
        pub walk_known : (unknown : Bool) → unknown ≡ has_unknown letters → unknown ≡ false → has_unknown (take (end - from) (drop from letters)) ≡ false
        walk_known unknown is e = has_take (end - from) (drop from letters) (has_drop from letters (sym is ∙ e))

        -- the verdict has the number x
        module _ (x : ℕ) (number : x ≡ verdict_number r.verdict) where
          back : verdict_of x ≡ r.verdict
          back = ap verdict_of number ∙ verdict_back r.verdict walk_Numbered

          -- it is that of a verdict
          pub walk_number : x ≡ verdict_number (verdict_of x)
          walk_number = number ∙ ap verdict_number (sym back)

          pub Walk-turn : (n : ℕ) → n ≡ verdict_number (told (verdict_of x) (take (end - from) (drop from letters))) → Walk (take at symbols ++ (out ++ drop (at + k - at) (drop at symbols))) (set verdicts i n) (set ends i end) r.next end (at + k) (i + 1) behind
          unfolding sum joined ends_from
          Walk-turn n says =
              let m = t.outcome.message in
              let l : length m ≡ k = step_length marked k behind s letters (start_of next) (omega (arith, bounds.0)) in
              let p = part_put at k symbols out m is_step.message l in
              let long : length (put_at symbols at m) ≡ length symbols = length_put symbols at m (omega (arith, walk_room)) in
              let front : take (at + k) (put_at symbols at m) ≡ take at symbols ++ m = ap (λ (x : ℕ). take (at + x) (put_at symbols at m)) (sym l) ∙ take_put symbols at m (omega (arith, walk_room)) in
              let more_verdicts : take (i + 1) (set verdicts i n) ≡ take i verdicts ++ n ∷ [] = rw add-one (take-suc-set verdicts i n (omega (arith, w.verdicts_room, walk_inside))) in
              let more_ends : take (i + 1) (set ends i end) ≡ take i ends ++ end ∷ [] = rw add-one (take-suc-set ends i end (omega (arith, w.ends_room, walk_inside))) in
              let ended : end ≡ place next + length t.outcome.piece = end-place ∙ end_is in
              let verdict : n ≡ verdict_number t.outcome.verdict = says ∙ ap verdict_number (ap (λ (v : Verdict). told v (take (end - from) (drop from letters))) back ∙ (ap (told r.verdict) (sym piece_is) ∙ is_step.verdict)) in
              rw p record {
                from_is = end-place;
                count = omega (arith, w.count, ap length here);
                behind = omega (arith, w.behind, ap sum here, long);
                symbols_room = long ∙ w.symbols_room;
                verdicts_room = simp length-set w.verdicts_room;
                ends_room = simp length-set w.ends_room;
                lengths = bounds.2;
                known = is_step.known;
                marked = rw (ne_eqb (i + 1) 0 (λ x. omega arith)) (Marked-behind r.next);
                messages_are = rw (front, append_assoc) (rw split at w.messages_are);
                verdicts_are = rw (more_verdicts, append_assoc, verdict) (rw split at w.verdicts_are);
                ends_are = rw (more_ends, append_assoc, ended, end_is) (rw split at w.ends_are);
              }

  pub Walk-end : (symbols verdicts ends : List ℕ) (next : Next) (from at i : ℕ) (rest : List ℕ) → Walk symbols verdicts ends next from at i rest → length rest ≡ 0 → Walked ks letters symbols verdicts ends
  unfolding sum joined ends_from
  Walk-end symbols verdicts ends next from at i [] w h =
      let z : to_come i next [] ≡ [] = nothing_left (start_of next) (not (eqb i 0)) s letters in
      record {
        messages = sym (take_all at symbols (omega (arith, w.behind))) ∙ sym (append-nil (take at symbols)) ∙ (rw z at w.messages_are);
        numbers = sym (take_all i verdicts (omega (arith, w.verdicts_room, w.count))) ∙ sym (append-nil (take i verdicts)) ∙ (rw z at w.verdicts_are);
        places = sym (take_all i ends (omega (arith, w.ends_room, w.count))) ∙ sym (append-nil (take i ends)) ∙ (rw z at w.ends_are);
      }
  Walk-end symbols verdicts ends next from at i (k ∷ rest) w h = absurd (omega arith)
