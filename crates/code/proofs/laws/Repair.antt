-- Laws of the repair: it finds the one linked word with the written syndrome, or there is none.
use Rattle.std.specs.Prelude.{◌≡◌, refl, Bool, true, false, not, ℕ, suc, ◌*◌, ◌≤◌, ◌<◌, eqb, length}
use Rattle.std.proofs.Common.{sym, ap, subst, ◌∙◌, arith, eqb-true}
use mathlib.Core.List.Memᴰ
use mathlib.Core.List.{List, [], ◌∷◌, Memᴰ}
use Rattle.std.proofs.Math.Option.{Option, some, none}
use Rattle.std.proofs.lemmas.Bool.{eqb-false}
use Rattle.code.specs.declared.Link.{Link}
use Rattle.code.specs.declared.Link.TheVariants.{Changed, More, Less}
use Rattle.code.specs.Layers.{Word, syndrome}
use Rattle.code.proofs.laws.Layers.{syndrome_below}
use Rattle.code.specs.Links.{Without, here, there, Change, raised, lowered, later, Linked, same, changed, more, less, sent}
use Rattle.code.proofs.laws.Links.{linked_length}
use Rattle.code.proofs.laws.Levenshtein.{unique}
use Rattle.code.specs.Repair.{each, flips, lefts, puts, linked, first_with, repair}

-- The lists hold the linked words, and no other

in_each : (b : Bool) {w : Word} {ws : List Word} → Memᴰ w ws → Memᴰ (b ∷ w) (each b ws)
in_each b (Memᴰ.head e) = Memᴰ.head (ap (λ (l : Word). b ∷ l) e)
in_each b (Memᴰ.tail m) = Memᴰ.tail (in_each b m)

-- what holds of b before each word holds of all of them
of_each : (P : Word → Type 0) (b : Bool) (ws : List Word) → ((w : Word) → Memᴰ w ws → P (b ∷ w)) → (u : Word) → Memᴰ u (each b ws) → P u
of_each P b [] h u m = absurd (Memᴰ.not-nil m)
of_each P b (w ∷ ws) h u (Memᴰ.head e) = subst P (sym e) (h w (Memᴰ.head refl))
of_each P b (w ∷ ws) h u (Memᴰ.tail m) = of_each P b ws (λ v n. h v (Memᴰ.tail n)) u m

in_flips : {b : Bool} {p : ℕ} {w r : Word} → Change b p w r → Memᴰ w (flips r)
unfolding flips
in_flips raised = Memᴰ.head refl
in_flips lowered = Memᴰ.head refl
in_flips (later {x = x} i) = Memᴰ.tail (in_each x (in_flips i))

in_lefts : {b : Bool} {w r : Word} → Without b r w → Memᴰ w (lefts r)
unfolding lefts
in_lefts here = Memᴰ.head refl
in_lefts (there {x = x} i) = Memᴰ.tail (in_each x (in_lefts i))

in_puts : {b : Bool} {w r : Word} → Without b w r → Memᴰ w (puts r)
unfolding puts
in_puts {b = false} (here {r = []}) = Memᴰ.head refl
in_puts {b = true} (here {r = []}) = Memᴰ.tail (Memᴰ.head refl)
in_puts {b = false} (here {r = x ∷ r}) = Memᴰ.head refl
in_puts {b = true} (here {r = x ∷ r}) = Memᴰ.tail (Memᴰ.head refl)
in_puts (there {x = x} i) = Memᴰ.tail (Memᴰ.tail (in_each x (in_puts i)))

-- every linked word is listed
pub linked_in : {l : Link} {w r : Word} → Linked l w r → Memᴰ w (linked l r)
unfolding linked
linked_in same = Memᴰ.head refl
linked_in (changed i) = Memᴰ.tail (in_flips i)
linked_in (more i) = in_lefts i
linked_in (less i) = in_puts i

-- w is r with some bit changed; r is w with some bit left out
abbrev Changes : Word → Word → Type 0
Changes w r = (b : Bool) × (p : ℕ) × Change b p w r

abbrev Lacks : Word → Word → Type 0
Lacks w r = (b : Bool) × Without b w r

flipped : (b : Bool) (r : Word) → Changes (not b ∷ r) (b ∷ r)
flipped true r = (false, 1, lowered)
flipped false r = (true, 1, raised)

of_flips : (r w : Word) → Memᴰ w (flips r) → Changes w r
unfolding flips
of_flips [] w m = absurd (Memᴰ.not-nil m)
of_flips (b ∷ r) w (Memᴰ.head e) = subst (λ (u : Word). Changes u (b ∷ r)) (sym e) (flipped b r)
of_flips (b ∷ r) w (Memᴰ.tail m) =
    of_each (λ u. Changes u (b ∷ r)) b (flips r) (λ u n. let h = of_flips r u n in (h.0, suc h.1, later h.2)) w m

of_lefts : (r w : Word) → Memᴰ w (lefts r) → Lacks r w
unfolding lefts
of_lefts [] w m = absurd (Memᴰ.not-nil m)
of_lefts (b ∷ r) w (Memᴰ.head e) = subst (λ (u : Word). Lacks (b ∷ r) u) (sym e) (b, here)
of_lefts (b ∷ r) w (Memᴰ.tail m) =
    of_each (λ u. Lacks (b ∷ r) u) b (lefts r) (λ u n. let h = of_lefts r u n in (h.0, there h.1)) w m

of_puts : (r w : Word) → Memᴰ w (puts r) → Lacks w r
unfolding puts
of_puts [] w (Memᴰ.head e) = subst (λ (u : Word). Lacks u []) (sym e) (false, here)
of_puts [] w (Memᴰ.tail (Memᴰ.head e)) = subst (λ (u : Word). Lacks u []) (sym e) (true, here)
of_puts [] w (Memᴰ.tail (Memᴰ.tail m)) = absurd (Memᴰ.not-nil m)
of_puts (b ∷ r) w (Memᴰ.head e) = subst (λ (u : Word). Lacks u (b ∷ r)) (sym e) (false, here)
of_puts (b ∷ r) w (Memᴰ.tail (Memᴰ.head e)) = subst (λ (u : Word). Lacks u (b ∷ r)) (sym e) (true, here)
of_puts (b ∷ r) w (Memᴰ.tail (Memᴰ.tail m)) =
    of_each (λ u. Lacks u (b ∷ r)) b (puts r) (λ u n. let h = of_puts r u n in (h.0, there h.1)) w m

-- every listed word is linked
pub in_linked : (l : Link) (w r : Word) → Memᴰ w (linked l r) → Linked l w r
unfolding linked
in_linked Changed w r (Memᴰ.head e) = subst (λ (u : Word). Linked Changed u r) (sym e) same
in_linked Changed w r (Memᴰ.tail m) = changed (of_flips r w m).2
in_linked More w r m = more (of_lefts r w m).1
in_linked Less w r m = less (of_puts r w m).1

-- The first listed word with a syndrome

module _ (v : ℕ) (u : Word) (ws : List Word) where
  hit : eqb (syndrome u) v ≡ true → first_with v (u ∷ ws) ≡ some u
  unfolding first_with
  hit e = rw e

  miss : eqb (syndrome u) v ≡ false → first_with v (u ∷ ws) ≡ first_with v ws
  unfolding first_with
  miss e = rw e

first_found : (v : ℕ) (ws : List Word) (w : Word) → first_with v ws ≡ some w → Memᴰ w ws × (syndrome w ≡ v)
unfolding first_with
first_found v [] w e = let z : ◌≡◌ {A = ℕ} 0 1 = cc in absurd (omega arith)
first_found v (u ∷ ws) w e = go (eqb (syndrome u) v) refl (λ f. first_found v ws w f)
  where
    go : (b : Bool) → eqb (syndrome u) v ≡ b → (first_with v ws ≡ some w → Memᴰ w ws × (syndrome w ≡ v)) → Memᴰ w (u ∷ ws) × (syndrome w ≡ v)
    go true t next =
        let f = hit v u ws t in
        let i : w ≡ u = cc in
        (Memᴰ.head i, ap syndrome i ∙ eqb-true (syndrome u) v t)
    go false t next = let h = next (sym (miss v u ws t) ∙ e) in (Memᴰ.tail h.0, h.1)

first_none : (v : ℕ) (ws : List Word) → first_with v ws ≡ none → (w : Word) → Memᴰ w ws → syndrome w ≡ v → ⊥
unfolding first_with
first_none v [] e w m h = Memᴰ.not-nil m
first_none v (u ∷ ws) e w m h = go (eqb (syndrome u) v) refl m (λ f n. first_none v ws f w n h)
  where
    go : (b : Bool) → eqb (syndrome u) v ≡ b → Memᴰ w (u ∷ ws) → (first_with v ws ≡ none → Memᴰ w ws → ⊥) → ⊥
    go true t n next =
        let f = hit v u ws t in
        let z : ◌≡◌ {A = ℕ} 0 1 = cc in
        omega arith
    go false t (Memᴰ.head i) next = eqb-false (syndrome u) v t (sym (ap syndrome i) ∙ h)
    go false t (Memᴰ.tail n) next = next (sym (miss v u ws t) ∙ e) n

-- The repair

-- what is found is linked and has the syndrome
pub record Found (l : Link) (v : ℕ) (r w : Word) : Type 0 where
  pub joined : Linked l w r
  pub written : syndrome w ≡ v

pub repair-Found : (l : Link) (v : ℕ) (r w : Word) → repair l v r ≡ some w → Found l v r w
unfolding repair
repair-Found l v r w e =
    let h = first_found v (linked l r) w e in
    record { joined = in_linked l w r h.0; written = h.1 }

-- where none is found there is none
pub repair-none : (l : Link) (v : ℕ) (r : Word) → repair l v r ≡ none → (w : Word) → Found l v r w → ⊥
unfolding repair
repair-none l v r e w f = first_none v (linked l r) e w (linked_in f.joined) f.written

-- a linked word with the syndrome is what is found
pub repair_is : {l : Link} {v : ℕ} {r w : Word} → Found l v r w → repair l v r ≡ some w
repair_is {l} {v} {r} {w} f = go (repair l v r) refl
  where
    go : (o : Option Word) → repair l v r ≡ o → o ≡ some w
    go none e = absurd (repair-none l v r e w f)
    go (some u) e =
        let g = repair-Found l v r u e in
        ap {B = Option Word} some (unique g.joined f.joined (g.written ∙ sym f.written))

-- where no word fits none is found
pub repair_nothing : (l : Link) (v : ℕ) (r : Word) → ((w : Word) → Found l v r w → ⊥) → repair l v r ≡ none
repair_nothing l v r h = go (repair l v r) refl
  where
    go : (o : Option Word) → repair l v r ≡ o → o ≡ none
    go none e = refl
    go (some u) e = absurd (h u (repair-Found l v r u e))

-- a written syndrome of 2k or more has no word
pub repair_overlarge : (l : Link) (v : ℕ) (r : Word) → 0 < sent l (length r) → 2 * sent l (length r) ≤ v → repair l v r ≡ none
repair_overlarge l v r filled large =
    repair_nothing l v r (λ w f. let n = linked_length f.joined in omega (arith, syndrome_below w (omega arith), f.written))
