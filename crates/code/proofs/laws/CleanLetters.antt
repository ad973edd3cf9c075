-- The test for a clean segment over letters, beside the same over the symbols that they are read as.
--   clean_letters   letters are clean if their symbols are and no N is among them
--   clean_symbols   what is clean in letters is clean in symbols
--   end_letters     the end of step 8 in symbols is that in letters, where the next segment is clean in letters
use Rattle.std.specs.Prelude.{◌≡◌, refl, Bool, true, false, cond, not, ◌&&◌, List, [], ◌∷◌, ℕ, ◌+◌, length, take, drop}
use Rattle.std.proofs.Common.{sym, ap, subst, ◌∙◌, arith}
use Rattle.std.proofs.Math.Option.{Option, some, none}
use Rattle.code.specs.Symbols.{as_symbols, has_unknown}
use Rattle.code.proofs.laws.Below.{Below-take, Below-drop}
use Rattle.code.proofs.laws.Letters.{as_Below, as_drop, prefix_letters}
use Rattle.code.specs.Segment.{segment, last_of, size, data_at}
use Rattle.code.proofs.laws.Segment.{length-segment, segment-Below}
use Rattle.code.proofs.laws.Edits.{both}
use Rattle.code.specs.Reading.{Shift, level, early, late, moved, first_shift, separator_at, clean, settled, behind, around, end_of}

-- letters are clean if their symbols are and no N is among them
pub clean_letters : (k f : ℕ) (l : List ℕ) → clean k f (as_symbols l) l ≡ (clean k f (as_symbols l) (as_symbols l) && not (has_unknown (take (size true (length (take k (drop 2 (as_symbols l))))) l)))
unfolding clean
clean_letters k f l =
    let s = as_symbols l in
    let m = take k (drop 2 s) in
    rw (← length-segment true f m) (prefix_letters (segment true f m) l (segment-Below true f m (Below-take k (drop 2 s) (Below-drop 2 s (as_Below l)))))

-- what is clean in letters is clean in symbols
pub clean_symbols : (k f : ℕ) (l : List ℕ) → clean k f (as_symbols l) l ≡ true → clean k f (as_symbols l) (as_symbols l) ≡ true
clean_symbols k f l e = (both (clean k f (as_symbols l) (as_symbols l)) _ (sym (clean_letters k f l) ∙ e)).0

-- The end of step 8

-- the first shift that passes a test, and passes a harder one too, is the first that passes the harder one
first_harder : (p q : Shift → Bool) (e : Shift) → ((x : Shift) → q x ≡ true → p x ≡ true) → first_shift p ≡ some e → q e ≡ true → first_shift q ≡ some e
first_harder p q e harder h t = go (p level) (p early) (p late) (q level) (q early) (q late) refl refl refl refl refl refl h
  where
    fails : (x : Shift) → p x ≡ false → q x ≡ true → ⊥
    fails x u v = let z : true ≡ false = sym (harder x v) ∙ u in let w : ◌≡◌ {A = ℕ} 0 1 = cc in omega arith

    go : (a b c x y z : Bool) → p level ≡ a → p early ≡ b → p late ≡ c → q level ≡ x → q early ≡ y → q late ≡ z → cond a (some level) (cond b (some early) (cond c (some late) none)) ≡ some e → cond x (some level) (cond y (some early) (cond z (some late) none)) ≡ some e
    go true b c true y z pa pb pc qa qb qc i = i
    go true b c false y z pa pb pc qa qb qc i = let l : level ≡ e = cc in absurd (let w : true ≡ false = sym (subst (λ (d : Shift). q d ≡ true) (sym l) t) ∙ qa in let v : ◌≡◌ {A = ℕ} 0 1 = cc in omega arith)
    go false b c true y z pa pb pc qa qb qc i = absurd (fails level pa qa)
    go false true c false true z pa pb pc qa qb qc i = i
    go false true c false false z pa pb pc qa qb qc i = let l : early ≡ e = cc in absurd (let w : true ≡ false = sym (subst (λ (d : Shift). q d ≡ true) (sym l) t) ∙ qb in let v : ◌≡◌ {A = ℕ} 0 1 = cc in omega arith)
    go false false c false true z pa pb pc qa qb qc i = absurd (fails early pb qb)
    go false false true false false true pa pb pc qa qb qc i = i
    go false false true false false false pa pb pc qa qb qc i = let l : late ≡ e = cc in absurd (let w : true ≡ false = sym (subst (λ (d : Shift). q d ≡ true) (sym l) t) ∙ qc in let v : ◌≡◌ {A = ℕ} 0 1 = cc in omega arith)
    go false false false false false z pa pb pc qa qb qc i = let v : ◌≡◌ {A = ℕ} 0 1 = cc in absurd (omega arith)

-- the next segment, if there is one, stands clean in the letters
abbrev pub NextClean : List ℕ → ℕ → List ℕ → List ℕ → Type 0
NextClean [] f s letters = Unit {0}
NextClean (k ∷ ks) f s letters = clean k f s letters ≡ true

-- the end in symbols is that in letters, where the next segment is clean in letters
pub end_letters : (marked : Bool) (k : ℕ) (ks l m : List ℕ) (o : ℕ) → length l ≡ length (as_symbols l) → end_of marked k ks (as_symbols l) (as_symbols l) m ≡ some o → NextClean ks (last_of m) (drop o (as_symbols l)) (drop o l) → end_of marked k ks (as_symbols l) l m ≡ some o
unfolding end_of
end_letters marked k [] l m o n e c = ap some n ∙ e
end_letters marked k (next ∷ ks) l m o n e c = go (settled k (drop (data_at marked) s) m (separator_at k (drop (data_at marked) s))) e
  where
    s : List ℕ
    s = as_symbols l

    w : ℕ
    w = size marked k

    at : List ℕ → Shift → Bool
    at letters e = clean next (last_of m) (drop (moved e w) s) (drop (moved e w) letters)

    harder : (x : Shift) → at l x ≡ true → at s x ≡ true
    harder x h =
        let d = as_drop (moved x w) l in
        rw (← d) (clean_symbols next (last_of m) (drop (moved x w) l) (rw d h))

    found : (x : Option Shift) → first_shift (at s) ≡ x → around w x ≡ some o → around w (first_shift (at l)) ≡ some o
    found none h i = let v : ◌≡◌ {A = ℕ} 0 1 = cc in absurd (omega arith)
    found (some x) h i =
        let q : moved x w ≡ o = cc in
        rw (first_harder (at s) (at l) x harder h (rw q c)) i

    go : (b : Bool) → cond b (some (data_at marked + behind k (separator_at k (drop (data_at marked) s)))) (around w (first_shift (at s))) ≡ some o → cond b (some (data_at marked + behind k (separator_at k (drop (data_at marked) s)))) (around w (first_shift (at l))) ≡ some o
    go true h = h
    go false h = found (first_shift (at s)) refl h
