-- What the repair of two layers answers.
use Rattle.std.specs.Prelude as P
use mathlib.Core.Path.{◌≡◌, refl, sym, ap, subst, ◌∙◌}
use mathlib.Core.List.{List}
use mathlib.Core.Option.{Option, some, none}
use Prim.Native.Nat.{ℕ}
use native.Mathlib.Omega.{arith}
use borrow.Author.Tests.{le-ltb}
use lib.ListN.{length}
use lib.Seq.{take_all}
use Rattle.code.specs.Bounds.{Length}
use Rattle.code.specs.declared.Link.{Link}
use Rattle.code.specs.declared.Fix.{Fix}
use Rattle.code.specs.Layers.{Word, layer, bits, number, pair, width}
use Rattle.code.proofs.laws.Layers.{length-layer, bits-number, length-pair, pair-Below, pair_layers, layer-pair_high, layer-pair_low}
use Rattle.code.specs.Symbols.{Below}
use Rattle.code.specs.Segment.{syndrome_of}
use Rattle.code.specs.Links.{sent}
use Rattle.code.proofs.laws.Links.{linked_length}
use Rattle.code.specs.Repair.{repair, mended, mended_word}
use Rattle.code.proofs.laws.Repair.{repair-Found}
use Rattle.code.specs.Reading.{message, both_layers, repaired}
use Rattle.code.specs.Reading as R
use Rattle.layers.specs.declared.Layers.{Layers}
use Rattle.layers.specs.LayerSums.{both, highs, lows}
use Rattle.tail.specs.declared.Tail.{Tail}
use Rattle.tail.specs.Tails.{IsTail}
use Rattle.std.specs.Prelude.{Result, Ok, Err}
use Rattle.message.specs.declared.Lost.{Lost}
use Rattle.message.specs.MessageAnswers.{IsMessageResult}

pub both_left : (o : Option Word) → both_layers none o ≡ R.MessageResult.lost 7
both_left (some w) = refl
both_left none = refl

pub both_right : (o : Option Word) → both_layers o none ≡ R.MessageResult.lost 7
both_right (some w) = refl
both_right none = refl

-- the answer says what is lost
pub is_lost : (g : R.MessageResult) (out : List ℕ) (n : ℕ) → g ≡ R.MessageResult.lost n → IsMessageResult g out (Err (record { step = n }))
is_lost g out n e = subst (λ (x : R.MessageResult). IsMessageResult x out (Err (record { step = n }))) (sym e) refl

pub is_read_message : (g h : R.MessageResult) (out : List ℕ) (r : Result Tail Lost) → g ≡ h → IsMessageResult h out r → IsMessageResult g out r
is_read_message g h out r e f = subst (λ (x : R.MessageResult). IsMessageResult x out r) (sym e) f

module _ (l : Link) (r : Word) (v n : ℕ) (res : P.Option Fix) (same : mended l r res ≡ repair l n r) (read : n ≡ v) where
  pub gets_none : res ≡ P.None → repair l v r ≡ none
  unfolding mended
  gets_none e = rw (← read, ← same, e)

  gets_word : (f : Fix) → res ≡ P.Some f → repair l v r ≡ some (mended_word l r f.at f.bit)
  unfolding mended
  gets_word f e = rw (← read, ← same, e)

-- both layers of the received symbols x have a word, with the syndromes that w writes
pub record Words (l : Link) (x w : List ℕ) (h k : Word) : Type 0 where
  pub high : repair l (number (layer 1 w)) (layer 1 x) ≡ some h
  pub low : repair l (number (layer 0 w)) (layer 0 x) ≡ some k

pub words : (l : Link) (x w : List ℕ) (n : Layers) (m o : P.Option Fix) (f g : Fix) → n ≡ both number w → mended l (layer 1 x) m ≡ repair l n.high (layer 1 x) → mended l (layer 0 x) o ≡ repair l n.low (layer 0 x) → m ≡ P.Some f → o ≡ P.Some g → Words l x w (mended_word l (layer 1 x) f.at f.bit) (mended_word l (layer 0 x) g.at g.bit)
words l x w n m o f g read em eo fm go =
    record {
      high = gets_word l (layer 1 x) (number (layer 1 w)) n.high m em (highs read) f fm;
      low = gets_word l (layer 0 x) (number (layer 0 w)) n.low o eo (lows read) g go;
    }

-- a repaired layer has the sent length
pub word_length : (l : Link) (s : ℕ) (m : List ℕ) (v : ℕ) (w : Word) → repair l v (layer s m) ≡ some w → length w ≡ sent l (length m)
word_length l s m v w e = linked_length (repair-Found l v (layer s m) w e).joined ∙ ap (sent l) (length-layer s m)

-- both layers of the received symbols x, with the syndromes that w writes
module _ (l : Link) (x w out : List ℕ) where
  abbrev high : Option Word
  high = repair l (number (layer 1 w)) (layer 1 x)

  abbrev low : Option Word
  low = repair l (number (layer 0 w)) (layer 0 x)

  repaired_both : repaired l (length w) x w ≡ both_layers high low
  unfolding repaired
  repaired_both = rw (le-ltb (length w) (length w) (omega arith), take_all (length w) w (omega arith))

  pub lost_high : high ≡ none → IsMessageResult (repaired l (length w) x w) out (Err (record { step = 7 }))
  lost_high e = is_lost (repaired l (length w) x w) out 7 (repaired_both ∙ ap (λ (o : Option Word). both_layers o low) e ∙ both_left low)

  pub lost_low : low ≡ none → IsMessageResult (repaired l (length w) x w) out (Err (record { step = 7 }))
  lost_low e = is_lost (repaired l (length w) x w) out 7 (repaired_both ∙ ap (both_layers high) e ∙ both_right high)

  pub read_both : (t : Tail) (h k : Word) → Words l x w h k → out ≡ pair h k → IsTail out t → IsMessageResult (repaired l (length w) x w) out (Ok t)
  read_both t h k g e i =
      is_read_message (repaired l (length w) x w) (message (pair h k)) out (Ok t) (repaired_both ∙ (λ i. both_layers (g.high i) (g.low i)))
      (e, subst (λ (m : List ℕ). IsTail m t) e i, pair-Below h k)

-- two layers repaired with the syndromes that w writes have w for their syndrome symbols
mended_syndrome : (l : Link) (x w : List ℕ) (h k : Word) → length h ≡ length k → length w ≡ width (length (pair h k)) → Below 4 w → Words l x w h k → w ≡ syndrome_of (pair h k)
unfolding syndrome_of
mended_syndrome l x w h k same long below g =
    let read : (s : ℕ) → bits (length w) (number (layer s w)) ≡ layer s w = λ s. rw (← length-layer s w) (bits-number (layer s w)) in
    rw (← long, layer-pair_high h k same, layer-pair_low h k same, (repair-Found l (number (layer 1 w)) (layer 1 x) h g.high).written, (repair-Found l (number (layer 0 w)) (layer 0 x) k g.low).written, read 1, read 0) (sym (pair_layers w below))

-- the mended message has room, and w for its syndrome symbols
pub mended_given : (l : Link) (x w : List ℕ) (h k : Word) (out : List ℕ) (n : ℕ) → Length n → length w ≡ width n → n ≡ sent l (length x) → Below 4 w → Words l x w h k → out ≡ pair h k → Length (length out) × (w ≡ syndrome_of out)
mended_given l x w h k out n room wide sends below g e =
    let a = word_length l 1 x (number (layer 1 w)) h g.high in
    let same : length h ≡ length k = a ∙ sym (word_length l 0 x (number (layer 0 w)) k g.low) in
    let long : length out ≡ n = ap length e ∙ (length-pair h k same ∙ (a ∙ sym sends)) in
    let same_width : length w ≡ width (length (pair h k)) = wide ∙ ap width (sym long ∙ ap length e) in
    ((omega (arith, long), omega (arith, long)), mended_syndrome l x w h k same same_width below g ∙ ap syndrome_of (sym e))
