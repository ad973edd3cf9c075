-- The bits of a mended word, place by place, and a symbol of two words.
use mathlib.Core.Path.{◌≡◌, refl, ap, ◌∙◌}
use mathlib.Core.Bool.{Bool, false}
use mathlib.Core.List.{[], ◌∷◌}
use Prim.Native.Nat.{ℕ, zero, suc, ◌+◌, ◌-◌, ◌*◌, ◌≤◌, ◌<◌, min}
use native.Mathlib.Nat.{not-suc-le-zero, le_of_suc-le-suc}
use native.Mathlib.Numerals.{add-one}
use native.Mathlib.Decide.{dec_le}
use native.Mathlib.Omega.{arith}
use lib.ListN.{length, get_or}
use lib.Seq.{get_or-set_other}
use Rattle.code.specs.declared.Link.{Link}
use Rattle.code.specs.declared.Link.TheVariants.{Changed, More, Less}
use Rattle.code.specs.Layers.{Word, digit, pair}
use Rattle.code.proofs.laws.Layers.{digit_below}
use Rattle.code.specs.Links.{sent}
use Rattle.code.specs.Repair.{put_in, leave_out, mended_word}
use Rattle.repair.specs.LayerRepair.{past_all}

-- a bit as a number that the code reads
pub digit_is : (b c : Bool) (n : ℕ) → b ≡ c → n ≡ digit b → (n ≡ digit c) × (n < 2)
digit_is b c n e f = (f ∙ ap digit e, omega (arith, digit_below b))

pub leave_before : (at i : ℕ) (w : Word) → i < at → i < length w → get_or (leave_out at w) i false ≡ get_or w i false
leave_before zero i w h l = absurd (not-suc-le-zero h)
leave_before (suc at) i [] h l = absurd (not-suc-le-zero l)
leave_before (suc at) zero (x ∷ w) h l = refl
leave_before (suc at) (suc i) (x ∷ w) h l = leave_before at i w (le_of_suc-le-suc h) (le_of_suc-le-suc l)

pub leave_behind : (at i : ℕ) (w : Word) → at ≤ i → get_or (leave_out at w) i false ≡ get_or w (suc i) false
leave_behind zero i [] h = refl
leave_behind zero i (x ∷ w) h = refl
leave_behind (suc at) i [] h = refl
leave_behind (suc at) zero (x ∷ w) h = absurd (not-suc-le-zero h)
leave_behind (suc at) (suc i) (x ∷ w) h = leave_behind at i w (le_of_suc-le-suc h)

module _ (b : Bool) where
  pub put_before : (at i : ℕ) (w : Word) → i < at → i < length w → get_or (put_in at b w) i false ≡ get_or w i false
  put_before zero i w h l = absurd (not-suc-le-zero h)
  put_before (suc at) i [] h l = absurd (not-suc-le-zero l)
  put_before (suc at) zero (x ∷ w) h l = refl
  put_before (suc at) (suc i) (x ∷ w) h l = put_before at i w (le_of_suc-le-suc h) (le_of_suc-le-suc l)

  -- at its place, or at the end where the place is past it
  pub put_here : (at i : ℕ) (w : Word) → i ≤ at → i ≤ length w → (i < at → length w ≤ i) → get_or (put_in at b w) i false ≡ b
  put_here zero zero w h l p = refl
  put_here zero (suc i) w h l p = absurd (not-suc-le-zero h)
  put_here (suc at) zero [] h l p = refl
  put_here (suc at) (suc i) [] h l p = absurd (not-suc-le-zero l)
  put_here (suc at) zero (x ∷ w) h l p = absurd (omega (arith, p (omega arith)))
  put_here (suc at) (suc i) (x ∷ w) h l p = put_here at i w (le_of_suc-le-suc h) (le_of_suc-le-suc l) (λ q. le_of_suc-le-suc (p (omega arith)))

  pub put_behind : (at i : ℕ) (w : Word) → at < i → i ≤ length w → get_or (put_in at b w) i false ≡ get_or w (i - 1) false
  put_behind zero zero w h l = absurd (not-suc-le-zero h)
  put_behind zero (suc i) w h l = let e : suc i - 1 ≡ i = omega arith in rw e
  put_behind (suc at) i [] h l = absurd (omega arith)
  put_behind (suc at) zero (x ∷ w) h l = absurd (not-suc-le-zero h)
  put_behind (suc at) (suc zero) (x ∷ w) h l = absurd (omega arith)
  put_behind (suc at) (suc (suc i)) (x ∷ w) h l =
      let e : suc (suc i) - 1 ≡ suc i = omega arith in
      let f : suc i - 1 ≡ i = omega arith in
      rw e (put_behind at (suc i) w (le_of_suc-le-suc h) (le_of_suc-le-suc l) ∙ rw f)

pub before_mended : (link : Link) (w : Word) (at i : ℕ) (b : Bool) → i < at → i < length w → get_or (mended_word link w at b) i false ≡ get_or w i false
before_mended Changed w at i b h l = get_or-set_other w at i b false (λ e. omega arith)
before_mended More w at i b h l = leave_before at i w h l
before_mended Less w at i b h l = put_before b at i w h l

-- the received place of the symbol at place i behind all mended places
abbrev pub received : Link → ℕ → ℕ
received Changed i = i
received More i = i + 1
received Less i = i - 1

-- place i stands behind the mended one; a changed bit moves no other
abbrev pub Behind : Link → ℕ → ℕ → Type 0
Behind Changed at i = i ≡ at → ⊥
Behind More at i = at < i
Behind Less at i = at < i

pub past_above : (n at p e : ℕ) → (at < n → p ≡ at + 1) → (n ≤ at → p ≡ e) → min (at + 1) e ≤ p
past_above n at p e u v = go (dec_le n at)
  where
    go : Dec (n ≤ at) → min (at + 1) e ≤ p
    go (yes h) = omega (arith, v h)
    go (no h) = omega (arith, u (omega arith))

pub past_Behind : (link : Link) (n at p i : ℕ) → (at < n → p ≡ at + 1) → (n ≤ at → p ≡ past_all link n) → p ≤ i → i < sent link n → Behind link at i
past_Behind Changed n at p i u v h l = λ e. omega (arith, u (omega arith))
past_Behind More n at p i u v h l = omega (arith, past_above n at p n u v)
past_Behind Less n at p i u v h l = omega (arith, past_above n at p (n + 1) u v)

pub Behind-mended : (link : Link) (w : Word) (at i : ℕ) (b : Bool) → Behind link at i → i < sent link (length w) → get_or (mended_word link w at b) i false ≡ get_or w (received link i) false
Behind-mended Changed w at i b h l = get_or-set_other w at i b false h
Behind-mended More w at i b h l = rw add-one (leave_behind at i w (omega arith))
Behind-mended Less w at i b h l = put_behind b at i w h (omega arith)

-- a symbol of two words
pub pair_at : (h l : Word) (i : ℕ) → i < length h → i < length l → get_or (pair h l) i 0 ≡ 2 * digit (get_or h i false) + digit (get_or l i false)
unfolding pair
pair_at [] l i p q = absurd (not-suc-le-zero p)
pair_at (x ∷ h) [] i p q = absurd (not-suc-le-zero q)
pair_at (x ∷ h) (y ∷ l) zero p q = refl
pair_at (x ∷ h) (y ∷ l) (suc i) p q = pair_at h l i (le_of_suc-le-suc p) (le_of_suc-le-suc q)
