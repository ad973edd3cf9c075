-- The repair of one layer.
--   put_in        a list with one entry put in
--   leave_out     a list with one entry left out
--   flips         every word with one bit changed
--   lefts         every word with one bit left out
--   puts          every word with one bit put in
--   linked        every word that a link joins to a received one
--   repair        the linked word with the written syndrome, or none
--   mended_word   a received word mended at a place
--   mended        the word that an answer of a repair stands for
use Rattle.std.specs.Prelude as P
use Rattle.std.specs.Prelude.{Bool, true, false, not, cond, List, [], ◌∷◌, ◌++◌, map, ℕ, suc, eqb, take, drop, set}
use Rattle.std.proofs.Math.Option.{Option, some, none}
use Rattle.code.specs.declared.Link.{Link}
use Rattle.code.specs.declared.Link.TheVariants.{Changed, More, Less}
use Rattle.code.specs.declared.Fix.{Fix}
use Rattle.code.specs.Layers.{Word, syndrome}

module _ {A : Type 0} where
  -- a list with x put in before place i, from 0
  abbrev pub put_in : ℕ → A → List A → List A
  put_in i x l = take i l ++ x ∷ drop i l

  -- a list with the entry at place i left out
  abbrev pub leave_out : ℕ → List A → List A
  leave_out i l = take i l ++ drop (suc i) l

-- each word with b put before it
abbrev pub each : Bool → List Word → List Word
each b ws = map (λ (w : Word). b ∷ w) ws

-- every word that is r with one bit changed
unfoldable pub flips : Word → List Word
flips [] = []
flips (b ∷ r) = (not b ∷ r) ∷ each b (flips r)

-- every word that is r with one bit left out
unfoldable pub lefts : Word → List Word
lefts [] = []
lefts (b ∷ r) = r ∷ each b (lefts r)

-- every word that is r with one bit put in
unfoldable pub puts : Word → List Word
puts [] = (false ∷ []) ∷ (true ∷ []) ∷ []
puts (b ∷ r) = (false ∷ b ∷ r) ∷ (true ∷ b ∷ r) ∷ each b (puts r)

-- every word that the link joins to r
unfoldable pub linked : Link → Word → List Word
linked Changed r = r ∷ flips r
linked More r = lefts r
linked Less r = puts r

-- the first of the words whose syndrome is v
unfoldable pub first_with : ℕ → List Word → Option Word
first_with v [] = none
first_with v (w ∷ ws) = cond (eqb (syndrome w) v) (some w) (first_with v ws)

-- the word with syndrome v that the link joins to r, or none
unfoldable pub repair : Link → ℕ → Word → Option Word
repair l v r = first_with v (linked l r)

-- the received word r with the bit b set at place i, the bit there left out, or b put in before it; past the end nothing is set
abbrev pub mended_word : Link → Word → ℕ → Bool → Word
mended_word Changed r i b = set r i b
mended_word More r i b = leave_out i r
mended_word Less r i b = put_in i b r

-- the word that an answer stands for
unfoldable pub mended : Link → Word → P.Option Fix → Option Word
mended l r (P.Some f) = some (mended_word l r f.at f.bit)
mended l r P.None = none
