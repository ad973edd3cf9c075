-- How a received layer may differ from the sent one.
--   Without   a word with one bit left out
--   Change    a word with one bit changed
--   Linked    what a received word may be, for each link
--   sent      the sent word's length
use Rattle.std.specs.Prelude.{Bool, true, false, ◌∷◌, ℕ, suc, ◌-◌}
use Rattle.code.specs.declared.Link.{Link}
use Rattle.code.specs.declared.Link.TheVariants.{Changed, More, Less}
use Rattle.code.specs.Layers.{Word}

-- r is w with one bit b left out
pub data Without (b : Bool) : Word → Word → Type 0 where
  here : {r : Word} → Without b (b ∷ r) r
  there : {x : Bool} {w r : Word} → Without b w r → Without b (x ∷ w) (x ∷ r)

-- w has the bit b at place p, from 1, where r has the other, and they are equal elsewhere
pub data Change : Bool → ℕ → Word → Word → Type 0 where
  raised : {r : Word} → Change true 1 (true ∷ r) (false ∷ r)
  lowered : {r : Word} → Change false 1 (false ∷ r) (true ∷ r)
  later : {b x : Bool} {p : ℕ} {w r : Word} → Change b p w r → Change b (suc p) (x ∷ w) (x ∷ r)

-- the sent word w and the received word r: at most one bit changed, one bit more, one bit less
pub data Linked : Link → Word → Word → Type 0 where
  same : {w : Word} → Linked Changed w w
  changed : {b : Bool} {p : ℕ} {w r : Word} → Change b p w r → Linked Changed w r
  more : {b : Bool} {w r : Word} → Without b r w → Linked More w r
  less : {b : Bool} {w r : Word} → Without b w r → Linked Less w r

-- the length of the sent word, n being that of the received one
abbrev pub sent : Link → ℕ → ℕ
sent Changed n = n
sent More n = n - 1
sent Less n = suc n
