-- Laws of lines, in the order of their definitions.
use Rattle.std.specs.Prelude.{◌≡◌, refl, Bool, true, false, cond, List, [], ◌∷◌, ◌++◌, ℕ, suc, ◌+◌, ◌<◌, ◌≤◌, eqb, ltb, length, get_or, take, drop, Some, None, unwrap_or}
use Rattle.std.specs.List.{position}
use Rattle.std.proofs.Common.{sym, ap, ◌∙◌, arith, ne_eqb, lt-ltb, le-ltb, drop_of_length-le, add-one, drop-cons}
use Rattle.std.proofs.lemmas.List.Recursion.{is_position_or_len}
use Rattle.std.proofs.Math.Decide.{dec_lt}
use Rattle.text.specs.Lines.{feed, line_length, line, behind}

-- Lengths

pub line_length-le : (cs : List ℕ) → line_length cs ≤ length cs
unfolding line_length
line_length-le [] = omega arith
line_length-le (c ∷ cs) = go (eqb c feed) (line_length-le cs)
  where
    go : (b : Bool) → line_length cs ≤ length cs → cond b 0 (suc (line_length cs)) ≤ suc (length cs)
    go true h = omega arith
    go false h = omega arith

-- a byte is the line feed
abbrev pub is_feed : ℕ → Bool
is_feed c = eqb c feed

line_length_next : (c : ℕ) (cs : List ℕ) → line_length (c ∷ cs) ≡ cond (is_feed c) 0 (1 + line_length cs)
unfolding line_length
line_length_next c cs = go (is_feed c)
  where
    go : (b : Bool) → cond b 0 (suc (line_length cs)) ≡ cond b 0 (1 + line_length cs)
    go true = refl
    go false = omega arith

-- the place of the first line feed, or the end of the text
pub line_length_found : (cs : List ℕ) → unwrap_or (position is_feed cs) (length cs) ≡ line_length cs
unfolding line_length
line_length_found cs = rw (← is_position_or_len line_length is_feed refl line_length_next cs) (go (dec_lt (line_length cs) (length cs)))
  where
    go : Dec (line_length cs < length cs) → unwrap_or (cond (ltb (line_length cs) (length cs)) (Some (line_length cs)) None) (length cs) ≡ line_length cs
    go (yes h) = rw (lt-ltb (line_length cs) (length cs) h)
    go (no h) = rw (le-ltb (line_length cs) (length cs) (omega arith)) (omega (arith, line_length-le cs))

-- one byte further in a text
pub line_length_step : (cs : List ℕ) (i : ℕ) → i < length cs → line_length (drop i cs) ≡ cond (eqb (get_or cs i 0) feed) 0 (suc (line_length (drop (i + 1) cs)))
unfolding line_length
line_length_step cs i h = rw (add-one, drop-cons cs i 0 h)

pub line_length_end : (cs : List ℕ) (i : ℕ) → length cs ≤ i → line_length (drop i cs) ≡ 0
unfolding line_length
line_length_end cs i h = rw (drop_of_length-le cs h)

-- Lines

-- the line is the bytes up to where it ends
pub take-line : (cs : List ℕ) → take (line_length cs) cs ≡ line cs
unfolding line_length line
take-line [] = refl
take-line (c ∷ cs) = go (eqb c feed) (take-line cs)
  where
    go : (b : Bool) → take (line_length cs) cs ≡ line cs → take (cond b 0 (suc (line_length cs))) (c ∷ cs) ≡ cond b [] (c ∷ line cs)
    go true e = refl
    go false e = ap (λ l. c ∷ l) e

-- what stands behind a line is the bytes past its line feed
pub drop_line : (cs : List ℕ) → drop (suc (line_length cs)) cs ≡ behind cs
unfolding line_length behind
drop_line [] = refl
drop_line (c ∷ cs) = go (eqb c feed) (drop_line cs)
  where
    go : (b : Bool) → drop (suc (line_length cs)) cs ≡ behind cs → drop (suc (cond b 0 (suc (line_length cs)))) (c ∷ cs) ≡ cond b cs (behind cs)
    go true e = refl
    go false e = e

-- nothing stands behind a line that ends with the text
pub drop_last : (cs : List ℕ) → length cs ≤ line_length cs → drop (line_length cs) cs ≡ behind cs
drop_last cs h = drop_of_length-le cs h ∙ (sym (drop_of_length-le cs {i = suc (line_length cs)} (omega arith)) ∙ drop_line cs)

-- no byte of cs is a line feed
abbrev pub Unbroken : List ℕ → Type 0
Unbroken cs = (i : ℕ) → i < length cs → get_or cs i 0 ≡ feed → ⊥

-- a line before a line feed, and what stands behind it
pub line-append : (cs ds : List ℕ) → Unbroken cs → line (cs ++ feed ∷ ds) ≡ cs
unfolding line
line-append [] ds h = refl
line-append (c ∷ cs) ds h = rw (ne_eqb c feed (h 0 (omega arith)), line-append cs ds (λ i l. h (suc i) (omega arith)))

pub behind-append : (cs ds : List ℕ) → Unbroken cs → behind (cs ++ feed ∷ ds) ≡ ds
unfolding behind
behind-append [] ds h = refl
behind-append (c ∷ cs) ds h = rw (ne_eqb c feed (h 0 (omega arith)), behind-append cs ds (λ i l. h (suc i) (omega arith)))

-- a text with no line feed is one line
pub line_whole : (cs : List ℕ) → Unbroken cs → line cs ≡ cs
unfolding line
line_whole [] h = refl
line_whole (c ∷ cs) h = rw (ne_eqb c feed (h 0 (omega arith)), line_whole cs (λ i l. h (suc i) (omega arith)))
