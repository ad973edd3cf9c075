-- A written segment in its place: what reading it answers, and what stands in its parts.
--   known_read_message, known_read  it is read, where another follows it or nothing does
--   M-*                             the parts of a segment that stands at a start
--   stands_step                     its step, where another follows it or nothing does
--   clean_Message                   its message, in a buffer
--   clean_stands                    a segment that is known to be clean stands
use mathlib.Core.Path.{◌≡◌, refl, sym, ap, subst, ◌∙◌}
use mathlib.Core.Bool.{Bool, true, false}
use mathlib.Core.List.{List, [], ◌∷◌, ◌++◌, append_assoc, cons≢nil}
use mathlib.Core.Option.{some}
use Prim.Native.Nat.{ℕ, ◌+◌, ◌-◌, ◌≤◌}
use native.Mathlib.Omega.{arith}
use lib.ListN.{length, get_or, take, drop, length-drop, length-append}
use lib.Seq.{drop-drop, take_at, get_or-take, get_or-drop, length-take-le}
use Rattle.code.specs.Symbols.{Below, as_symbols}
use Rattle.code.proofs.laws.Letters.{as_length}
use Rattle.code.specs.Layers.{width}
use Rattle.code.specs.Segment.{check, separator, syndrome_of, block, segment, last_of, size, data_at}
use Rattle.code.proofs.laws.Below.{Below-take, Below-drop}
use Rattle.code.proofs.laws.Segment.{length-segment, length_syndrome, width_two}
use Rattle.code.specs.Reading.{is_prefix, message, read_message, read_segment}
use Rattle.code.specs.Reading as R
use Rattle.code.proofs.laws.Reading.{prefix_split, drop_off}
use Rattle.code.proofs.laws.SegmentSteps.{Final}
use Rattle.code.proofs.laws.Strands.{clean_read_message, clean_read}
use Rattle.code.specs.declared.Edit.TheVariants.{None}
use Rattle.tail.specs.declared.Tail.{Tail}
use Rattle.tail.specs.Tails.{mark, IsTail}
use Rattle.tail.proofs.Tails.{marked_block}
use Rattle.std.specs.Prelude.{Ok}
use Rattle.message.specs.MessageAnswers.{IsMessageResult}
use Rattle.clean.proofs.Segment.{size_data}
use Rattle.scan.specs.Scans.{ahead}
use Rattle.scan.proofs.laws.Scans.{clean_in_symbols}
use Rattle.scan.proofs.Starts.{clean_inside}
use Rattle.steps.specs.declared.strand.Strand.{Strand}
use Rattle.steps.specs.declared.strand.Start.{Start}
use Rattle.steps.specs.Steps.{message_from, step_from, standing_answer, CleanAt, IsStep}
use Rattle.steps.proofs.Answers.{gives_read}

-- a segment and what follows it
module _ (marked : Bool) (f k : ℕ) (S m r : List ℕ) (whole : S ≡ segment marked f m ++ r) (long : length m ≡ k) (two : 2 ≤ k) (small : Below 4 m) where
  pub known_read_message : read_message marked k S ≡ message m
  known_read_message = rw (whole, ← long) (clean_read_message marked f m r (omega arith) small)

  pub known_read : (ks letters : List ℕ) → Final ks r → length letters ≡ length S → read_segment marked f k ks S letters ≡ R.SegmentResult.read m None (size marked k)
  known_read ks letters last same = rw (whole, ← long) (clean_read marked f m r ks letters (omega arith) small last (same ∙ ap length whole))

no_more : (r : List ℕ) → length r ≡ 0 → r ≡ []
no_more [] e = refl
no_more (x ∷ r) e = absurd (omega arith)

-- the segment of the k symbols at d stands at a start
module _ (strand : Strand) (start : Start) (k d : ℕ) (two : 2 ≤ k) (behind : d ≡ start.at + data_at start.marked) (room : d + k ≤ length strand.symbols.now) (stands : is_prefix (segment start.marked start.before (take k (drop (data_at start.marked) (drop start.at strand.symbols.now)))) (drop start.at strand.symbols.now) ≡ true) where
  abbrev marked : Bool
  marked = start.marked

  abbrev f : ℕ
  f = start.before

  abbrev p : ℕ
  p = start.at

  abbrev s : List ℕ
  s = strand.symbols.now

  abbrev S : List ℕ
  S = drop p s

  small : Below 4 s
  small = strand.received.symbols

  -- its message
  abbrev M : List ℕ
  M = take k (drop d s)

  m_at : take k (drop (data_at marked) S) ≡ M
  m_at = ap (take k) (drop-drop (data_at marked) p s ∙ ap (λ (n : ℕ). drop n s) (sym behind))

  pub m_long : length M ≡ k
  m_long = length-take-le k (drop d s) (simp length-drop (omega arith))

  pub m_small : Below 4 M
  m_small = Below-take k (drop d s) (Below-drop d s small)

  abbrev rest : List ℕ
  rest = drop (length (segment marked f M)) S

  m_whole : S ≡ segment marked f M ++ rest
  m_whole = rw (← m_at) (prefix_split (segment marked f (take k (drop (data_at marked) S))) S stands)

  m_size : length (segment marked f M) ≡ data_at marked + (k + (4 + width k))
  m_size = length-segment marked f M ∙ (ap (size marked) m_long ∙ size_data marked k)

  pub m_inside : d + k + (4 + width k) ≤ length s
  m_inside = omega (arith, ap length m_whole, length-append (segment marked f M) rest, m_size, length-drop p s, behind)

  -- what stands before the syndrome
  front : List ℕ
  front = mark marked f M ++ (M ++ check M ∷ separator M ∷ separator M ∷ separator M ∷ [])

  in_front : S ≡ front ++ (syndrome_of M ++ rest)
  unfolding block front
  in_front =
      let t = check M ∷ separator M ∷ separator M ∷ separator M ∷ [] in
      let a = syndrome_of M in
      m_whole ∙ (ap (λ (l : List ℕ). l ++ rest) (sym (marked_block marked f M)) ∙ (append_assoc (mark marked f M) (M ++ (t ++ a)) rest ∙ (ap (◌++◌ (mark marked f M)) (append_assoc M (t ++ a) rest ∙ sym (append_assoc M t (a ++ rest))) ∙ sym (append_assoc (mark marked f M) (M ++ t) (a ++ rest)))))

  mark-length : (b : Bool) → length (mark b f M) ≡ data_at b
  unfolding mark
  mark-length true = refl
  mark-length false = refl

  front_long : length front ≡ data_at marked + (k + 4)
  unfolding front
  front_long = length-append (mark marked f M) (M ++ check M ∷ separator M ∷ separator M ∷ separator M ∷ []) ∙ omega (arith, mark-length marked, length-append M (check M ∷ separator M ∷ separator M ∷ separator M ∷ []), m_long)

  -- its syndrome stands behind the separator
  pub m_syndrome : take (width k) (drop (d + k + 4) s) ≡ syndrome_of M
  m_syndrome =
      let n : d + k + 4 ≡ p + (data_at marked + (k + 4)) = omega arith in
      let q : drop (d + k + 4) s ≡ syndrome_of M ++ rest = ap (λ (i : ℕ). drop i s) n ∙ (sym (drop-drop (data_at marked + (k + 4)) p s) ∙ (ap (drop (data_at marked + (k + 4))) in_front ∙ drop_off (data_at marked + (k + 4)) front (syndrome_of M ++ rest) 0 (omega (arith, front_long)))) in
      rw q (take_at (syndrome_of M) rest (width k) (length_syndrome M ∙ ap width m_long))

  -- its last symbol
  m_last : get_or s (d + k + (4 + width k) - 1) 0 ≡ last_of M
  unfolding last_of
  m_last =
      let t = width_two k two in
      let n : d + k + (4 + width k) - 1 ≡ d + k + 4 + (width k - 1) = omega arith in
      rw n (sym (get_or-drop (d + k + 4) s (width k - 1) 0) ∙ (sym (get_or-take (width k) (drop (d + k + 4) s) (width k - 1) 0 (omega arith)) ∙ (ap (λ (l : List ℕ). get_or l (width k - 1) 0) m_syndrome ∙ ap (λ (i : ℕ). get_or (syndrome_of M) (width i - 1) 0) (sym m_long))))

  -- another follows it, or nothing
  pub stands_step : (ks : List ℕ) → (ks ≡ [] → d + k + (4 + width k) ≡ length s) → (out : List ℕ) → out ≡ M → IsStep (step_from strand start k ks) strand ks out (standing_answer k d s)
  stands_step ks ends out e =
      let end = d + k + (4 + width k) in
      gives_read strand start ks k M out None (size marked k) end (standing_answer k d s) (known_read marked f k S M rest m_whole m_long two m_small ks (drop p strand.letters.now) (fin ks ends) (simp length-drop (omega (arith, as_length _ _ strand.read)))) e refl (ap (λ (x : ℕ). some (ahead 0 end x)) m_last) (omega (arith, size_data marked k)) (record { inside = m_inside; symbol = small (end - 1) })
    where
      fin : (ks : List ℕ) → (ks ≡ [] → d + k + (4 + width k) ≡ length s) → Final ks rest
      fin [] h q = no_more rest (simp length-drop (omega (arith, h refl, m_size)))
      fin (x ∷ ks) h q = absurd (cons≢nil q)

  -- its message is read
  pub clean_Message : (out : List ℕ) → out ≡ M → (t : Tail) → IsTail out t → IsMessageResult (message_from strand start (length out)) out (Ok t)
  clean_Message out e t h =
      let n : length out ≡ k = ap length e ∙ m_long in
      let g : read_message marked (length out) S ≡ message out = ap (λ (i : ℕ). read_message marked i S) n ∙ (known_read_message marked f k S M rest m_whole m_long two m_small ∙ ap message (sym e)) in
      subst (λ (x : R.MessageResult). IsMessageResult x out (Ok t)) (sym g) (refl, h, subst (Below 4) (sym e) m_small)

-- a segment that is clean in letters is clean in the symbols that they are read as
own_clean : (k f p : ℕ) (s letters : List ℕ) → s ≡ as_symbols letters → R.clean k f (drop p s) (drop p letters) ≡ true → R.clean k f (drop p s) (drop p s) ≡ true
own_clean k f p s letters read e = rw read (clean_in_symbols k f letters p (rw read at e))

-- a segment that is known to be clean stands
pub clean_stands : (strand : Strand) (start : Start) (k : ℕ) → CleanAt strand start k → (is_prefix (segment start.marked start.before (take k (drop (data_at start.marked) (drop start.at strand.symbols.now)))) (drop start.at strand.symbols.now) ≡ true) × (start.at + 2 + k ≤ length strand.symbols.now)
unfolding R.clean
clean_stands strand start k e =
    let s = strand.symbols.now in
    let letters = strand.letters.now in
    let p = start.at in
    let f = start.before in
    let same : length s ≡ length letters = as_length s letters strand.read in
    let own : R.clean k f (drop p s) (drop p s) ≡ true = own_clean k f p s letters strand.read e.1 in
    (subst (λ (b : Bool). is_prefix (segment b f (take k (drop (data_at b) (drop p s)))) (drop p s) ≡ true) (sym e.0) own, omega (arith, clean_inside k f s letters same p e.1, size_data true k))

-- its message starts behind the marker
pub clean_data : (strand : Strand) (start : Start) (k : ℕ) → CleanAt strand start k → start.at + 2 ≡ start.at + data_at start.marked
clean_data strand start k e = ap (λ (b : Bool). start.at + data_at b) (sym e.0)
