-- Every segment's message has as many symbols as the layout says, whatever was received.
--   separator_inside      a separator that is found lies inside the strand
--   read_message-length   steps 3 to 7 give k symbols
--   read-length           it has k symbols
--   length_messages       all messages of a reading together
use Rattle.std.specs.Prelude.{◌≡◌, refl, Bool, true, false, cond, List, [], ◌∷◌, ◌++◌, map, ℕ, zero, suc, ◌+◌, ◌-◌, ◌≤◌, ltb, length, get_or, take, drop, replicate}
use Rattle.std.proofs.Common.{sym, ap, ◌∙◌, arith, length-append, length-drop, length-take-le}
use Rattle.std.proofs.Math.Option.{Option, some, none}
use Rattle.std.proofs.lemmas.List.{length-replicate}
use Rattle.code.specs.declared.Edit.{Edit}
use Rattle.code.specs.declared.Link.{Link}
use Rattle.code.specs.Symbols.{as_symbols}
use Rattle.code.specs.Layers.{Word, layer, pair, width, number}
use Rattle.code.proofs.laws.Layers.{length-layer, length-pair}
use Rattle.code.specs.Links.{sent}
use Rattle.code.proofs.laws.Links.{linked_length}
use Rattle.code.specs.Repair.{repair}
use Rattle.code.proofs.laws.Repair.{repair-Found}
use Rattle.code.specs.Segment.{check, last_of, size, data_at}
use Rattle.code.specs.Layout.{sum, joined, Lengths, done, more}
use Rattle.code.specs.Reading.{is_prefix, three_equal, Shift, level, early, late, moved, whole, separator_at, after_separator, check_agrees, MessageResult, message, both_layers, repaired, link_of, taken, message_at, message_without, read_whole, read_hit, read_message, SegmentResult, read, read_segment}
use Rattle.code.proofs.laws.ReadSegment.{read_parts}
use Rattle.code.specs.Strands.{Try, scan, Outcome, unfound, Scan, lost_and_rest, segment_and_rest, reading, outcomes, messages_of}

three_long : (w : List ℕ) → three_equal w ≡ true → 3 ≤ length w
unfolding three_equal
three_long [] e = let z : ◌≡◌ {A = ℕ} 0 1 = cc in absurd (omega arith)
three_long (x ∷ []) e = let z : ◌≡◌ {A = ℕ} 0 1 = cc in absurd (omega arith)
three_long (x ∷ y ∷ []) e = let z : ◌≡◌ {A = ℕ} 0 1 = cc in absurd (omega arith)
three_long (x ∷ y ∷ z ∷ w) e = omega arith

three_inside : (n : ℕ) (d : List ℕ) → three_equal (drop n d) ≡ true → n + 3 ≤ length d
three_inside n d e = omega (arith, three_long (drop n d) e, length-drop n d)

-- a separator that is found lies inside the strand
pub separator_inside : (k : ℕ) (d : List ℕ) (j : Shift) → separator_at k d ≡ some j → moved j (k + 1) + 3 ≤ length d
unfolding separator_at
separator_inside k d j e = go _ _ _ refl refl refl e
  where
    go : (x y z : Bool) → three_equal (drop (k + 1) d) ≡ x → three_equal (drop (k + 1 - 1) d) ≡ y → three_equal (drop (k + 1 + 1) d) ≡ z → cond x (some level) (cond y (some early) (cond z (some late) none)) ≡ some j → moved j (k + 1) + 3 ≤ length d
    go true y z p q r h = let i : level ≡ j = cc in rw (← i) (three_inside (k + 1) d p)
    go false true z p q r h = let i : early ≡ j = cc in rw (← i) (three_inside (k + 1 - 1) d q)
    go false false true p q r h = let i : late ≡ j = cc in rw (← i) (three_inside (k + 1 + 1) d r)
    go false false false p q r h = let i : ◌≡◌ {A = ℕ} 0 1 = cc in absurd (omega arith)

-- a check that agrees lies inside the strand
one_long : (x : ℕ) (w : List ℕ) → is_prefix (x ∷ []) w ≡ true → 1 ≤ length w
unfolding is_prefix
one_long x [] e = let z : ◌≡◌ {A = ℕ} 0 1 = cc in absurd (omega arith)
one_long x (y ∷ w) e = omega arith

-- Steps 3 to 7

-- repaired layers have the length of the sent ones
repaired-length : (l : Link) (t : ℕ) (r w m : List ℕ) → repaired l t r w ≡ message m → length m ≡ sent l (length r)
unfolding repaired
repaired-length l t r w m e = go (ltb (length w) t) _ _ refl refl e
  where
    go : (b : Bool) (x y : Option Word) → repair l (number (layer 1 (take t w))) (layer 1 r) ≡ x → repair l (number (layer 0 (take t w))) (layer 0 r) ≡ y → cond b (MessageResult.lost 7) (both_layers x y) ≡ message m → length m ≡ sent l (length r)
    go true x y p q h = let z : ◌≡◌ {A = ℕ} 0 1 = cc in absurd (omega arith)
    go false (some u) (some v) p q h =
        let i : pair u v ≡ m = cc in
        let a : length u ≡ sent l (length r) = linked_length (repair-Found l _ (layer 1 r) u p).joined ∙ ap (sent l) (length-layer 1 r) in
        let b : length v ≡ sent l (length r) = linked_length (repair-Found l _ (layer 0 r) v q).joined ∙ ap (sent l) (length-layer 0 r) in
        rw (← i) (length-pair u v (a ∙ sym b) ∙ a)
    go false (some u) none p q h = let z : ◌≡◌ {A = ℕ} 0 1 = cc in absurd (omega arith)
    go false none (some v) p q h = let z : ◌≡◌ {A = ℕ} 0 1 = cc in absurd (omega arith)
    go false none none p q h = let z : ◌≡◌ {A = ℕ} 0 1 = cc in absurd (omega arith)

sent_back : (j : Shift) (k : ℕ) → 1 ≤ k → sent (link_of j) (moved j k) ≡ k
sent_back level k h = refl
sent_back early k h = omega arith
sent_back late k h = omega arith

-- a separator that is found has k symbols and one more before its end
enough : (j : Shift) (k n : ℕ) → moved j (k + 1) + 3 ≤ n → (k ≤ n) × (moved j k ≤ n) × (k + moved j 2 ≤ n + 2)
enough level k n h = (omega arith, omega arith, omega arith)
enough early k n h = (omega arith, omega arith, omega arith)
enough late k n h = (omega arith, omega arith, omega arith)

at_length : (j : Shift) (k : ℕ) (d m : List ℕ) → 1 ≤ k → moved j (k + 1) + 3 ≤ length d → message_at j k d ≡ message m → length m ≡ k
unfolding message_at
at_length j k d m some_symbols h e = go (taken j k d (take k d)) e
  where
    go : (b : Bool) → cond b (message (take k d)) (repaired (link_of j) (width k) (take (moved j k) d) (after_separator j k d)) ≡ message m → length m ≡ k
    go true q = let i : take k d ≡ m = cc in rw (← i) (length-take-le k d (enough j k (length d) h).0)
    go false q = repaired-length (link_of j) (width k) (take (moved j k) d) (after_separator j k d) m q ∙ rw (length-take-le (moved j k) d (enough j k (length d) h).1) (sent_back j k some_symbols)

without_length : (k : ℕ) (d m : List ℕ) → message_without k d ≡ message m → length m ≡ k
unfolding message_without check_agrees
without_length k d m e = go (is_prefix (check (take k d) ∷ []) (drop k d)) refl e
  where
    go : (b : Bool) → is_prefix (check (take k d) ∷ []) (drop k d) ≡ b → cond b (message (take k d)) (MessageResult.lost 6) ≡ message m → length m ≡ k
    go true p q =
        let i : take k d ≡ m = cc in
        rw (← i) (length-take-le k d (omega (arith, one_long (check (take k d)) (drop k d) p, length-drop k d)))
    go false p q = let z : ◌≡◌ {A = ℕ} 0 1 = cc in absurd (omega arith)

-- steps 3 to 7 give k symbols
pub read_message-length : (marked : Bool) (k : ℕ) (s m : List ℕ) → 1 ≤ k → read_message marked k s ≡ message m → length m ≡ k
unfolding read_message
read_message-length marked k s m h e = go marked e
  where
    wholly : (d : List ℕ) (o : Option Shift) → separator_at k d ≡ o → read_whole k d o ≡ message m → length m ≡ k
    wholly d (some j) p q = at_length j k d m h (separator_inside k d j p) q
    wholly d none p q = without_length k d m q

    hit : (o : Option Shift) → separator_at k (drop 2 s) ≡ o → read_hit k s o ≡ message m → length m ≡ k
    hit (some j) p q =
        let i : take k (drop (moved j 2) s) ≡ m = cc in
        let n = separator_inside k (drop 2 s) j p in
        rw (← i) (length-take-le k (drop (moved j 2) s) (omega (arith, (enough j k (length (drop 2 s)) n).2, n, length-drop 2 s, length-drop (moved j 2) s)))
    hit none p q = let z : ◌≡◌ {A = ℕ} 0 1 = cc in absurd (omega arith)

    marker : (b : Bool) → cond b (read_whole k (drop 2 s) (separator_at k (drop 2 s))) (read_hit k s (separator_at k (drop 2 s))) ≡ message m → length m ≡ k
    marker true q = wholly (drop 2 s) (separator_at k (drop 2 s)) refl q
    marker false q = hit (separator_at k (drop 2 s)) refl q

    go : (b : Bool) → cond (whole b s) (read_whole k (drop (data_at b) s) (separator_at k (drop (data_at b) s))) (read_hit k s (separator_at k (drop (data_at b) s))) ≡ message m → length m ≡ k
    go true q = marker (whole true s) q
    go false q = wholly s (separator_at k s) refl q

-- a segment that is read has a message of k symbols
pub read-length : (marked : Bool) (f k : ℕ) (ks s letters m : List ℕ) (e : Edit) (o : ℕ) → 1 ≤ k → read_segment marked f k ks s letters ≡ read m e o → length m ≡ k
read-length marked f k ks s letters m e o h t = read_message-length marked k s m h (read_parts marked f k ks s letters m e o t).gives

-- The whole strand

unfound_messages : (ks : List ℕ) → length (messages_of (map unfound ks)) ≡ sum ks
unfolding joined sum
unfound_messages [] = refl
unfound_messages (k ∷ ks) = simp (length-append, length-replicate) (omega (arith, unfound_messages ks))

-- the messages of a reading have the symbols of the layout
length-reading : {most : ℕ} (look : Scan) (passed : ℕ) (marked : Bool) (f : ℕ) (ks s letters : List ℕ) → Lengths most ks → length (messages_of (reading look passed marked f ks s letters)) ≡ sum ks
unfolding reading joined sum
length-reading look passed marked f [] s letters done = refl
length-reading look (suc passed) marked f (k ∷ ks) s letters (more two _ ls) = simp (length-append, length-replicate) (omega (arith, length-reading look passed true f ks s letters ls))
length-reading look zero marked f (k ∷ ks) s letters (more two _ ls) = go (read_segment marked f k ks s letters) refl (λ n g o. length-reading look n true g ks (drop o s) (drop o letters) ls)
  where
    next : ℕ → ℕ → ℕ → List Outcome
    next n g o = reading look n true g ks (drop o s) (drop o letters)

    Later : Type 0
    Later = (n g o : ℕ) → length (messages_of (next n g o)) ≡ sum ks

    zeros : (w : List ℕ) → length w ≡ sum ks → length (replicate k 0 ++ w) ≡ k + sum ks
    zeros w e = simp (length-append, length-replicate) (omega arith)

    scanned : (step : ℕ) (x : Option Try) → Later → length (messages_of (lost_and_rest k ks s letters step next x)) ≡ k + sum ks
    scanned step (some t) h = zeros _ (h t.passed (get_or s (t.start - 1) 0) t.start)
    scanned step none h = zeros _ (unfound_messages ks)

    go : (r : SegmentResult) → read_segment marked f k ks s letters ≡ r → Later → length (messages_of (segment_and_rest k ks s letters next (look (size marked k) ks s letters) r)) ≡ k + sum ks
    go (read m e o) q h = simp length-append (omega (arith, read-length marked f k ks s letters m e o (omega arith) q, h 0 (last_of m) o))
    go (SegmentResult.lost step) q h = scanned step (look (size marked k) ks s letters) h

pub length_messages : {most : ℕ} (ks letters : List ℕ) → Lengths most ks → length (messages_of (outcomes ks letters)) ≡ sum ks
length_messages ks letters ls = length-reading scan 0 false 0 ks (as_symbols letters) letters ls
