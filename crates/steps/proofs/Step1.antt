-- Step 1: what the marker says of separator and message.
--   read_message_hit, hit_separator      the marker is hit
--   read_message-whole, whole_separator  it is whole
--   read_message_short                   it is whole, and the message would end behind the strand
use mathlib.Core.Path.{◌≡◌, refl, sym, ap, ◌∙◌}
use mathlib.Core.Bool.{Bool, true, false, true≢false}
use mathlib.Core.List.{List}
use mathlib.Core.Option.{Option, some, none}
use Prim.Native.Nat.{ℕ, ◌+◌, ◌<◌}
use native.Mathlib.Omega.{arith}
use lib.ListN.{length, drop, length-drop}
use lib.Seq.{drop-drop}
use Rattle.code.specs.Segment.{data_at}
use Rattle.code.specs.Reading.{Shift, whole, separator_at, read_whole, read_message}
use Rattle.code.specs.Reading as R
use Rattle.code.proofs.laws.MessageLengths.{separator_inside}
use Rattle.message.specs.MessageAnswers.{hit_at, whole_at}
use Rattle.message.proofs.Steps3to7.{without_short, moved_least}
use Rattle.steps.specs.declared.strand.Strand.{Strand}
use Rattle.steps.specs.declared.strand.Start.{Start}
use Rattle.steps.specs.Step8.{separator_in}
use Rattle.steps.specs.Steps.{is_whole, message_from}

hit_marked : (marked : Bool) (S : List ℕ) → whole marked S ≡ false → marked ≡ true
hit_marked true S h = refl
hit_marked false S h = absurd (true≢false h)

module _ (strand : Strand) (start : Start) (k : ℕ) where
  abbrev p : ℕ
  p = start.at

  abbrev s : List ℕ
  s = strand.symbols.now

  -- the marker is hit: the message is read behind it
  pub hit_separator : is_whole strand start ≡ false → separator_at k (drop (p + 2) s) ≡ separator_in strand start k
  hit_separator h = rw (hit_marked start.marked (drop p s) h, drop-drop 2 p s)

  pub read_message_hit : is_whole strand start ≡ false → message_from strand start k ≡ hit_at k p s
  unfolding read_message
  read_message_hit h = rw (h, hit_separator h)

  module _ (d : ℕ) (e : d ≡ p + data_at start.marked) where
    at_data : drop (data_at start.marked) (drop p s) ≡ drop d s
    at_data = drop-drop (data_at start.marked) p s ∙ ap (λ (i : ℕ). drop i s) (sym e)

    -- the marker is whole
    pub whole_separator : separator_at k (drop d s) ≡ separator_in strand start k
    whole_separator = ap (separator_at k) (sym at_data)

    pub read_message-whole : is_whole strand start ≡ true → message_from strand start k ≡ whole_at k d s
    unfolding read_message
    read_message-whole h = rw (h, at_data)

    -- and the message would end behind the strand
    pub read_message_short : is_whole strand start ≡ true → length s < d + k → message_from strand start k ≡ R.MessageResult.lost 6
    read_message_short h l = read_message-whole h ∙ go (separator_at k (drop d s)) refl
      where
        go : (o : Option Shift) → separator_at k (drop d s) ≡ o → read_whole k (drop d s) o ≡ R.MessageResult.lost 6
        go none q = without_short k d s (omega arith)
        go (some x) q = absurd (omega (arith, separator_inside k (drop d s) x q, moved_least x k, length-drop d s))
