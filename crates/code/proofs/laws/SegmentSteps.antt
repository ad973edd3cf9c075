-- What steps 1 to 8 make of one segment: its message, and an end.
use Rattle.std.specs.Prelude.{◌≡◌, Bool, ℕ, ◌+◌, take, drop}
use Rattle.std.proofs.Math.Path.{refl, ap}
use Rattle.std.proofs.Common.{sym, ◌∙◌, arith}
use Rattle.std.proofs.Math.Bool.{true, false}
use mathlib.Core.List.{List, [], ◌∷◌, ◌++◌, append_assoc}
use Rattle.std.proofs.Math.Option.{some}
use Rattle.std.proofs.Math.ListN.{length, length-append}
use Rattle.code.specs.Layers.{width}
use Rattle.code.specs.Segment.{syndrome_of, marker, data_at}
use Rattle.code.specs.Reading.{Shift, moved, separator_at, after_separator, syndrome_agrees, read_whole, read_message, message, settled, end_of}
use Rattle.code.proofs.laws.Reading.{prefix_self, two_yes, two_no}
use Rattle.code.proofs.laws.EditedBlock.{Settles}

-- the marker, or nothing before a first segment
abbrev pub pre : Bool → ℕ → List ℕ → List ℕ
pre true f m = marker f m ∷ marker f m ∷ []
pre false f m = []

-- the message m is read from s, and it ends after o symbols
pub record Reads (marked : Bool) (m ks s : List ℕ) (o : ℕ) : Type 0 where
  pub read_message_is : read_message marked (length m) s ≡ message m
  pub end_is : end_of marked (length m) ks s s m ≡ some o

-- the same, and the syndrome behind the separator settles the end
pub record Sees (marked : Bool) (m ks s : List ℕ) (o : ℕ) : Type 0 where
  pub reads : Reads marked m ks s o
  pub seen : settled (length m) (drop (data_at marked) s) m (separator_at (length m) (drop (data_at marked) s)) ≡ true

-- an end that the syndrome settles is that of all letters that are read as these symbols
pub Sees-end : (marked : Bool) (m ks s letters : List ℕ) (o : ℕ) → Sees marked m ks s o → length letters ≡ length s → end_of marked (length m) ks s letters m ≡ some o
unfolding end_of
Sees-end marked m [] s letters o g n = ap some n ∙ g.reads.end_is
Sees-end marked m (k ∷ ks) s letters o g n = rw g.seen (rw g.seen at g.reads.end_is)

-- no segment follows only where nothing does
abbrev pub Final : List ℕ → List ℕ → Type 0
Final ks r = ks ≡ [] → r ≡ []

module _ (m : List ℕ) where
  agrees : (j : Shift) (d r : List ℕ) → after_separator j (length m) d ≡ syndrome_of m ++ r → syndrome_agrees j (length m) d m ≡ true
  unfolding syndrome_agrees
  agrees j d r after = rw after (prefix_self (syndrome_of m) r)

  -- the end is settled by the syndrome behind the separator
  settled_end : (marked : Bool) (ks s u r : List ℕ) (j : Shift) → separator_at (length m) (drop (data_at marked) s) ≡ some j → after_separator j (length m) (drop (data_at marked) s) ≡ syndrome_of m ++ r → s ≡ u ++ r → length u ≡ data_at marked + (moved j (length m + 1) + 3 + width (length m)) → Final ks r → end_of marked (length m) ks s s m ≡ some (length u)
  unfolding end_of
  settled_end marked [] s u r j found after e n last =
      let q : r ≡ [] = last refl in
      ap some (ap length e ∙ length-append u r ∙ rw q (omega arith))
  settled_end marked (k ∷ ks) s u r j found after e n last = rw (found, agrees j (drop (data_at marked) s) r after, ← n)

  settled_seen : (d r : List ℕ) (j : Shift) → separator_at (length m) d ≡ some j → after_separator j (length m) d ≡ syndrome_of m ++ r → settled (length m) d m (separator_at (length m) d) ≡ true
  settled_seen d r j found after = rw (found, agrees j d r after)

  pub read_message-pre : (marked : Bool) (f : ℕ) (d : List ℕ) → read_message marked (length m) (pre marked f m ++ d) ≡ read_whole (length m) d (separator_at (length m) d)
  unfolding read_message
  read_message-pre true f d = rw (two_yes (marker f m) d)
  read_message-pre false f d = refl

  pub drop-pre : (marked : Bool) (f : ℕ) (d : List ℕ) → drop (data_at marked) (pre marked f m ++ d) ≡ d
  drop-pre true f d = refl
  drop-pre false f d = refl

  pub length-pre : (marked : Bool) (f : ℕ) → length (pre marked f m) ≡ data_at marked
  length-pre true f = refl
  length-pre false f = refl

  -- behind a whole marker the syndrome is seen
  pub reads_settled : (marked : Bool) (f : ℕ) (ks v r : List ℕ) (j : Shift) → Settles j m r (v ++ r) → length v ≡ moved j (length m + 1) + 3 + width (length m) → Final ks r → Sees marked m ks (pre marked f m ++ (v ++ r)) (length (pre marked f m ++ v))
  reads_settled marked f ks v r j t n last =
      let d = drop-pre marked f (v ++ r) in
      record {
        reads = record {
          read_message_is = read_message-pre marked f (v ++ r) ∙ rw t.found t.gives;
          end_is = settled_end marked ks (pre marked f m ++ (v ++ r)) (pre marked f m ++ v) r j (rw d t.found) (rw d t.after) (sym (append_assoc (pre marked f m) v r)) (simp length-append (omega (arith, length-pre marked f))) last;
        };
        seen = rw d (settled_seen (v ++ r) r j t.found t.after);
      }

  -- a hit marker: two symbols that differ
  pub reads_hit : (x y : ℕ) (ks w u r : List ℕ) (j : Shift) → (x ≡ y → ⊥) → take (length m) (drop (moved j 2) (x ∷ y ∷ w)) ≡ m → separator_at (length m) w ≡ some j → after_separator j (length m) w ≡ syndrome_of m ++ r → x ∷ y ∷ w ≡ u ++ r → length u ≡ 2 + (moved j (length m + 1) + 3 + width (length m)) → Final ks r → Sees true m ks (x ∷ y ∷ w) (length u)
  unfolding read_message
  reads_hit x y ks w u r j differ t found after e n last =
      record {
        reads = record {
          read_message_is = rw (two_no x y w differ, found) (ap message t);
          end_is = settled_end true ks (x ∷ y ∷ w) u r j found after e n last;
        };
        seen = settled_seen w r j found after;
      }
