-- Laws of lines.
--   length-edited, length_line   the lengths of an edit's words and of a line
--   line_most, lines_most        a line has at most 15 bytes
--   numbers_back                 the numbers of a verdict give it back
--   apart_lines                  equal lines have one number and one verdict
use Rattle.std.specs.Prelude.{◌≡◌, refl, Bool, cond, ◌&&◌, List, [], ◌∷◌, ◌++◌, ℕ, zero, suc, ◌+◌, ◌*◌, ◌<◌, ◌≤◌, eqb, ltb, length, get_or, drop}
use Rattle.std.proofs.Common.{sym, ap, ◌∙◌, arith, ne_eqb, length-append}
use Rattle.code.specs.Ascii.{ascii}
use Rattle.code.specs.Symbols.{Below, letter_kinds, letter_of, legible}
use Rattle.code.proofs.laws.Symbols.{legible-letters}
use Rattle.code.specs.declared.Edit.TheVariants.{None, Sub, Del, Ins}
use Rattle.code.specs.declared.Verdict.{Verdict}
use Rattle.code.specs.declared.Verdict.TheVariants.{Read, Unknown, Lost, NoStart}
use Rattle.code.specs.Verdicts.{verdict_of_kind, Numbered}
use Rattle.code.proofs.laws.Verdicts.{AllNumbered}
use Rattle.text.specs.Lines.{feed}
use Rattle.text.specs.Decimal.{decimal}
use Rattle.text.proofs.laws.Decimal.{length-decimal, decimal_injective}
use Rattle.lines.specs.Report.{space, edited, words, segment_line, lines_from}
use Rattle.lines.specs.Report.{most_line}
use Rattle.lines.specs.Truth.{Lettered, ApartLines}
use Rattle.lines.specs.Numbers.{kind_of, at_of, step_of}
use Rattle.lines.proofs.laws.Cuts.{Apart-append, Apart-first, digits_Apart, front, behind, front-append, number_front, number_behind}

-- Lengths

pub length-edited : (word : List ℕ) (i x : ℕ) → length (edited word i x) ≡ length word + length (decimal i) + 2
unfolding edited
length-edited word i x = length-append (word ++ decimal i) (space ∷ letter_of x ∷ []) ∙ ap (λ (m : ℕ). m + 2) (length-append word (decimal i))

pub length_line : (n : ℕ) (v : Verdict) → length (segment_line n v) ≡ length (decimal n) + suc (length (words v)) + 1
unfolding segment_line
length_line n v = length-append (decimal n ++ space ∷ words v) (feed ∷ []) ∙ ap (λ (m : ℕ). m + 1) (length-append (decimal n) (space ∷ words v))

edited_most : (word : List ℕ) (i x : ℕ) → length word ≤ 4 → i < 65536 → length (edited word i x) ≤ 11
edited_most word i x h l = omega (arith, length-edited word i x, length-decimal 4 i (omega arith))

words_most : (v : Verdict) → Numbered v → length (words v) ≤ 11
unfolding words
words_most (Read None) h = omega arith
words_most (Read (Sub i x)) h = edited_most (ascii "sub ") i x (omega arith) h.0
words_most (Read (Del i x)) h = edited_most (ascii "del ") i x (omega arith) h.0
words_most (Read (Ins i x)) h = edited_most (ascii "ins ") i x (omega arith) h.0
words_most Unknown h = omega arith
words_most (Lost step) h = omega (arith, length-decimal 1 step (omega arith))
words_most NoStart h = omega arith

-- a line has at most 15 bytes
pub line_most : (n : ℕ) (v : Verdict) → n < 100 → Numbered v → length (segment_line n v) ≤ most_line
line_most n v h k = omega (arith, length_line n v, length-decimal 1 n (omega arith), words_most v k)

pub lines_most : (n : ℕ) (vs : List Verdict) → n + length vs ≤ 100 → AllNumbered vs → length (lines_from n vs) ≤ length vs * most_line
unfolding lines_from
lines_most n [] h k = omega arith
lines_most n (v ∷ vs) h k = omega (arith, length-append (segment_line n v) (lines_from (suc n) vs), line_most n v (omega arith) k.0, lines_most (suc n) vs (omega arith) k.1)

-- The numbers that a line holds

-- the letter of its edit as a number, or 0
abbrev letter_number : Verdict → ℕ
letter_number (Read None) = 0
letter_number (Read (Sub i x)) = x
letter_number (Read (Del i x)) = x
letter_number (Read (Ins i x)) = x
letter_number Unknown = 0
letter_number (Lost step) = 0
letter_number NoStart = 0

-- the kind of a verdict, from its words: their first byte, and that behind `lost `
abbrev kind_in : List ℕ → ℕ
kind_in t =
    cond (eqb (get_or t 0 0) 99) 0
    (cond (eqb (get_or t 0 0) 117) 1
    (cond (eqb (get_or t 0 0) 115) 2
    (cond (eqb (get_or t 0 0) 100) 3
    (cond (eqb (get_or t 0 0) 105) 4
    (cond (eqb (get_or t 5 0) 115) 6 5)))))

kind_in_lem : (v : Verdict) → kind_in (words v ++ feed ∷ []) ≡ kind_of v
unfolding words edited
kind_in_lem (Read None) = refl
kind_in_lem (Read (Sub i x)) = refl
kind_in_lem (Read (Del i x)) = refl
kind_in_lem (Read (Ins i x)) = refl
kind_in_lem Unknown = refl
kind_in_lem (Lost step) =
    let h = Apart-append 115 (decimal step) (feed ∷ []) (digits_Apart 115 step (λ d h e. omega arith)) ((λ e. omega arith), tt) in
    rw (ne_eqb (get_or (decimal step ++ feed ∷ []) 0 0) 115 (Apart-first 115 (decimal step ++ feed ∷ []) (λ e. omega arith) h))
kind_in_lem NoStart = refl

-- a kind that has a place and a letter
abbrev an_edit : ℕ → Bool
an_edit kind = ltb 1 kind && ltb kind 5

-- the digits of the place, the letter and the digits of the step, from the kind and the words
abbrev place_in : ℕ → List ℕ → List ℕ
place_in kind t = cond (an_edit kind) (front space (drop 4 t)) (decimal 0)

abbrev letter_in : ℕ → List ℕ → ℕ
letter_in kind t = cond (an_edit kind) (get_or (behind space (drop 4 t)) 0 0) (letter_of 0)

abbrev step_in : ℕ → List ℕ → List ℕ
step_in kind t = cond (eqb kind 5) (front feed (drop 5 t)) (decimal 0)

place_in_lem : (v : Verdict) → place_in (kind_of v) (words v ++ feed ∷ []) ≡ decimal (at_of v)
unfolding words edited
place_in_lem (Read None) = refl
place_in_lem (Read (Sub i x)) = number_front i (letter_of x ∷ []) (feed ∷ [])
place_in_lem (Read (Del i x)) = number_front i (letter_of x ∷ []) (feed ∷ [])
place_in_lem (Read (Ins i x)) = number_front i (letter_of x ∷ []) (feed ∷ [])
place_in_lem Unknown = refl
place_in_lem (Lost step) = refl
place_in_lem NoStart = refl

letter_in_lem : (v : Verdict) → letter_in (kind_of v) (words v ++ feed ∷ []) ≡ letter_of (letter_number v)
unfolding words edited
letter_in_lem (Read None) = refl
letter_in_lem (Read (Sub i x)) = ap (λ (l : List ℕ). get_or l 0 0) (number_behind i (letter_of x ∷ []) (feed ∷ []))
letter_in_lem (Read (Del i x)) = ap (λ (l : List ℕ). get_or l 0 0) (number_behind i (letter_of x ∷ []) (feed ∷ []))
letter_in_lem (Read (Ins i x)) = ap (λ (l : List ℕ). get_or l 0 0) (number_behind i (letter_of x ∷ []) (feed ∷ []))
letter_in_lem Unknown = refl
letter_in_lem (Lost step) = refl
letter_in_lem NoStart = refl

step_in_lem : (v : Verdict) → step_in (kind_of v) (words v ++ feed ∷ []) ≡ decimal (step_of v)
unfolding words edited
step_in_lem (Read None) = refl
step_in_lem (Read (Sub i x)) = refl
step_in_lem (Read (Del i x)) = refl
step_in_lem (Read (Ins i x)) = refl
step_in_lem Unknown = refl
step_in_lem (Lost step) = front-append feed (decimal step) [] (digits_Apart feed step (λ d h e. omega arith))
step_in_lem NoStart = refl

-- Equal lines

-- the numbers of a verdict give it back
pub numbers_back : (v : Verdict) → verdict_of_kind (kind_of v) (letter_number v + step_of v) (at_of v) ≡ v
numbers_back (Read None) = refl
numbers_back (Read (Sub i x)) = ap (λ (y : ℕ). Read (Sub i y)) (omega arith)
numbers_back (Read (Del i x)) = ap (λ (y : ℕ). Read (Del i y)) (omega arith)
numbers_back (Read (Ins i x)) = ap (λ (y : ℕ). Read (Ins i y)) (omega arith)
numbers_back Unknown = refl
numbers_back (Lost step) = ap Lost (omega arith)
numbers_back NoStart = refl

letter_number_lem : (v : Verdict) → Lettered v → letter_number v < letter_kinds
letter_number_lem (Read None) h = omega arith
letter_number_lem (Read (Sub i x)) h = h
letter_number_lem (Read (Del i x)) h = h
letter_number_lem (Read (Ins i x)) h = h
letter_number_lem Unknown h = omega arith
letter_number_lem (Lost step) h = omega arith
letter_number_lem NoStart h = omega arith

-- two numbers with the same letter are equal
letter_injective : (x y : ℕ) → x < letter_kinds → y < letter_kinds → letter_of x ≡ letter_of y → x ≡ y
letter_injective x y h k e = ap (λ (l : List ℕ). get_or l 0 0) (sym (legible-letters (x ∷ []) (one x h)) ∙ (ap (λ (c : ℕ). legible (c ∷ [])) e ∙ legible-letters (y ∷ []) (one y k)))
  where
    one : (z : ℕ) → z < letter_kinds → Below letter_kinds (z ∷ [])
    one z l zero = l
    one z l (suc i) = omega arith

-- equal lines have one number and one verdict
pub apart_lines : ApartLines
unfolding segment_line
apart_lines n m v w h k e =
    let t : words v ++ feed ∷ [] ≡ words w ++ feed ∷ [] = sym (number_behind n (words v) (feed ∷ [])) ∙ (ap (behind space) e ∙ number_behind m (words w) (feed ∷ [])) in
    let kind : kind_of v ≡ kind_of w = sym (kind_in_lem v) ∙ (ap kind_in t ∙ kind_in_lem w) in
    let place : at_of v ≡ at_of w = decimal_injective (at_of v) (at_of w) (sym (place_in_lem v) ∙ ((λ i. place_in (kind i) (t i)) ∙ place_in_lem w)) in
    let letter : letter_number v ≡ letter_number w = letter_injective (letter_number v) (letter_number w) (letter_number_lem v h) (letter_number_lem w k) (sym (letter_in_lem v) ∙ ((λ i. letter_in (kind i) (t i)) ∙ letter_in_lem w)) in
    let step : step_of v ≡ step_of w = decimal_injective (step_of v) (step_of w) (sym (step_in_lem v) ∙ ((λ i. step_in (kind i) (t i)) ∙ step_in_lem w)) in (
      decimal_injective n m (sym (number_front n (words v) (feed ∷ [])) ∙ (ap (front space) e ∙ number_front m (words w) (feed ∷ []))),
      sym (numbers_back v) ∙ ((λ i. verdict_of_kind (kind i) (letter i + step i) (place i)) ∙ numbers_back w),
    )
