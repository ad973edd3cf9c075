-- The end of a segment that its own syndrome does not settle: a clean next segment does.
use Rattle.std.specs.Prelude.{◌≡◌, Bool, true, false, ◌⊎◌}
use Rattle.std.proofs.Math.Path.{refl, ap}
use Rattle.std.proofs.Common.{sym, ◌∙◌, inl, inr}
use mathlib.Core.List.{List, [], ◌∷◌, ◌++◌, append-nil}
use Rattle.std.proofs.Math.Option.{some}
use Prim.Native.Nat.{ℕ, suc, ◌+◌, ◌-◌, ◌≤◌}
use native.Mathlib.Omega.{arith}
use Rattle.std.proofs.Math.ListN.{length, length-append}
use Rattle.code.specs.Segment.{segment, last_of, size, data_at}
use Rattle.code.specs.Reading.{Shift, level, early, late, moved, separator_at, read_whole, message, settled, behind, end_of}
use Rattle.code.proofs.laws.HitTail.{search, ends_level, ends_early, ends_late}
use Rattle.code.proofs.laws.SegmentSteps.{pre, Reads, Sees, drop-pre, read_message-pre}

-- nothing follows, or an untouched segment
pub data Follow (f : ℕ) : List ℕ → List ℕ → Type 0 where
  final : Follow f [] []
  follows : (m ks r : List ℕ) → 2 ≤ length m → Follow f (length m ∷ ks) (segment true f m ++ r)

module _ (m : List ℕ) (marked : Bool) (f : ℕ) (d : List ℕ) where
  abbrev pub n : ℕ
  n = size marked (length m)

  abbrev pub strand : List ℕ
  strand = pre marked f m ++ d

  abbrev pub seen : Bool
  seen = settled (length m) d m (separator_at (length m) d)

  -- the strand's end
  at_end : end_of marked (length m) [] strand strand m ≡ some (length strand)
  unfolding end_of
  at_end = refl

  -- where the syndrome settles it
  at_behind : (k : ℕ) (ks : List ℕ) → seen ≡ true → end_of marked (length m) (k ∷ ks) strand strand m ≡ some (data_at marked + behind (length m) (separator_at (length m) d))
  unfolding end_of
  at_behind k ks e = rw (drop-pre m marked f d, e)

  -- where the next segment does
  at_next : (k : ℕ) (ks : List ℕ) (e : Shift) → seen ≡ false → search n k (last_of m) strand ≡ some e → end_of marked (length m) (k ∷ ks) strand strand m ≡ some (moved e n)
  unfolding end_of
  at_next k ks e s h = rw (drop-pre m marked f d, s, h)

  module _ (gives : read_whole (length m) d (separator_at (length m) d) ≡ message m) where
    reads : (ks : List ℕ) (o : ℕ) → end_of marked (length m) ks strand strand m ≡ some o → Reads marked m ks strand o
    reads ks o e = record { read_message_is = read_message-pre m marked f d ∙ gives; end_is = e }

    -- a stretch of the segment's length
    pub Reads-same : (ks u r : List ℕ) → Follow (last_of m) ks r → strand ≡ u ++ r → length u ≡ n → (seen ≡ true → data_at marked + behind (length m) (separator_at (length m) d) ≡ n) → Reads marked m ks strand (length u)
    Reads-same ks u r final e l s = reads [] (length u) (at_end ∙ ap some (ap length (e ∙ append-nil u)))
    Reads-same ks u r (follows m' ks' r' two) e l s = reads (length m' ∷ ks') (length u) (go seen refl)
      where
        go : (b : Bool) → seen ≡ b → end_of marked (length m) (length m' ∷ ks') strand strand m ≡ some (length u)
        go true t = at_behind (length m') ks' t ∙ ap some (s t ∙ sym l)
        go false t = at_next (length m') ks' level t (rw e (ends_level n (last_of m) m' two r' u l)) ∙ ap some (sym l)

    -- a stretch of one letter less
    pub Reads-short : (ks u r : List ℕ) → Follow (last_of m) ks r → strand ≡ u ++ r → suc (length u) ≡ n → ((m' ks' r' : List ℕ) → r ≡ segment true (last_of m) m' ++ r' → seen ≡ false) → Reads marked m ks strand (length u)
    Reads-short ks u r final e l s = reads [] (length u) (at_end ∙ ap some (ap length (e ∙ append-nil u)))
    Reads-short ks u r (follows m' ks' r' two) e l s =
        let q : n - 1 ≡ length u = omega arith in
        reads (length m' ∷ ks') (length u) (at_next (length m') ks' early (s m' ks' r' refl) (rw e (ends_early n (last_of m) m' two r' u l)) ∙ ap some q)

    -- a stretch of one letter more that ends in the syndrome's last
    pub Reads-long : (ks u r : List ℕ) → Follow (last_of m) ks r → strand ≡ u ++ last_of m ∷ r → length u ≡ n → seen ≡ false → Reads marked m ks strand (suc (length u))
    unfolding size
    Reads-long ks u r final e l s = reads [] (suc (length u)) (at_end ∙ ap some (ap length e ∙ length-append u (last_of m ∷ []) ∙ omega arith))
    Reads-long ks u r (follows m' ks' r' two) e l s =
        let q : n + 1 ≡ suc (length u) = omega arith in
        reads (length m' ∷ ks') (suc (length u)) (at_next (length m') ks' late s (rw e (ends_late n (last_of m) m' two r' u l (omega arith))) ∙ ap some q)

    -- the syndrome is seen though the stretch is longer: the end is the strand's, or that of the untouched segment
    pub Reads-seen : (ks u r : List ℕ) → Follow (last_of m) ks r → strand ≡ u ++ r → seen ≡ true → data_at marked + behind (length m) (separator_at (length m) d) ≡ n → Reads marked m ks strand (length u) ⊎ Sees marked m ks strand n
    Reads-seen ks u r final e s b = inl (reads [] (length u) (at_end ∙ ap some (ap length (e ∙ append-nil u))))
    Reads-seen ks u r (follows m' ks' r' two) e s b =
        inr (record { reads = reads (length m' ∷ ks') n (at_behind (length m') ks' s ∙ ap some b); seen = rw (drop-pre m marked f d) s })
