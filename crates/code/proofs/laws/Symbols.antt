-- Laws of letters, symbols and bytes, in the order of their definitions.
use Rattle.std.specs.Prelude.{◌≡◌, refl, Bool, true, false, cond, ◌||◌, List, [], ◌∷◌, ◌++◌, ℕ, zero, suc, ◌+◌, ◌*◌, ◌/◌, ◌%◌, ◌<◌, eqb, ltb, length, get_or, drop}
use Rattle.std.proofs.Common.{sym, ap, ◌∙◌, arith, eqb-true, le-ltb}
use Rattle.std.proofs.lemmas.List.{length-map}
use Rattle.std.proofs.Math.Seq.{drop-nil}
use Rattle.code.specs.declared.Letter.{Letter}
use Rattle.code.specs.declared.Letter.TheVariants.{Symbol, Unknown, Foreign}
use Rattle.code.specs.declared.Decoded.{Decoded}
use Rattle.code.specs.declared.Decoded.TheVariants as D
use Rattle.code.specs.Symbols.{Below, unknown, letter_kinds, letter_of, symbol_of, letters, before, legible, unless, decoded_from, decoded, has_unknown}
use Rattle.code.specs.Symbols.{symbols_of, byte_of, symbols, bytes}

-- Letters

pub symbol_letter : (s : ℕ) → s < 4 → symbol_of (letter_of s) ≡ Symbol s
symbol_letter zero h = refl
symbol_letter (suc zero) h = refl
symbol_letter (suc (suc zero)) h = refl
symbol_letter (suc (suc (suc zero))) h = refl
symbol_letter (suc (suc (suc (suc s)))) h = absurd (omega arith)

-- c is the letter of a symbol s
pub record IsLetter (c s : ℕ) : Type 0 where
  pub letter : letter_of s ≡ c
  pub below : s < 4

letter_test : (c s : ℕ) (a t k g n : Bool) → eqb c 65 ≡ a → eqb c 84 ≡ t → eqb c 67 ≡ k → eqb c 71 ≡ g → cond a (Symbol 0) (cond t (Symbol 1) (cond k (Symbol 2) (cond g (Symbol 3) (cond n Unknown Foreign)))) ≡ Symbol s → IsLetter c s
letter_test c s true t k g n p q r u e = let z : s ≡ 0 = cc in record { letter = rw z (sym (eqb-true c 65 p)); below = omega arith }
letter_test c s false true k g n p q r u e = let z : s ≡ 1 = cc in record { letter = rw z (sym (eqb-true c 84 q)); below = omega arith }
letter_test c s false false true g n p q r u e = let z : s ≡ 2 = cc in record { letter = rw z (sym (eqb-true c 67 r)); below = omega arith }
letter_test c s false false false true n p q r u e = let z : s ≡ 3 = cc in record { letter = rw z (sym (eqb-true c 71 u)); below = omega arith }
letter_test c s false false false false true p q r u e = let z : ◌≡◌ {A = ℕ} 0 1 = cc in absurd (omega arith)
letter_test c s false false false false false p q r u e = let z : ◌≡◌ {A = ℕ} 0 1 = cc in absurd (omega arith)

-- a letter with its symbol
pub letter_symbol : (c s : ℕ) → symbol_of c ≡ Symbol s → IsLetter c s
letter_symbol c s e = letter_test c s _ _ _ _ (eqb c 78) refl refl refl refl e

unknown_test : (c : ℕ) (a t k g n : Bool) → eqb c 78 ≡ n → cond a (Symbol 0) (cond t (Symbol 1) (cond k (Symbol 2) (cond g (Symbol 3) (cond n Unknown Foreign)))) ≡ Unknown → c ≡ letter_of unknown
unknown_test c true t k g n p e = let z : ◌≡◌ {A = ℕ} 0 1 = cc in absurd (omega arith)
unknown_test c false true k g n p e = let z : ◌≡◌ {A = ℕ} 0 1 = cc in absurd (omega arith)
unknown_test c false false true g n p e = let z : ◌≡◌ {A = ℕ} 0 1 = cc in absurd (omega arith)
unknown_test c false false false true n p e = let z : ◌≡◌ {A = ℕ} 0 1 = cc in absurd (omega arith)
unknown_test c false false false false true p e = eqb-true c 78 p
unknown_test c false false false false false p e = let z : ◌≡◌ {A = ℕ} 0 1 = cc in absurd (omega arith)

-- N alone is unknown
pub letter_unknown : (c : ℕ) → symbol_of c ≡ Unknown → c ≡ letter_of unknown
letter_unknown c e = unknown_test c (eqb c 65) (eqb c 84) (eqb c 67) (eqb c 71) _ refl e

-- Strands

before-Below : (c : ℕ) (l : Letter) (m : List ℕ) → symbol_of c ≡ l → Below letter_kinds m → Below letter_kinds (before l m)
before-Below c (Symbol s) m e h zero = omega (arith, (letter_symbol c s e).below)
before-Below c (Symbol s) m e h (suc i) = h i
before-Below c Unknown m e h zero = omega arith
before-Below c Unknown m e h (suc i) = h i
before-Below c Foreign m e h i = omega arith

pub legible-Below : (cs : List ℕ) → Below letter_kinds (legible cs)
unfolding legible
legible-Below [] i = omega arith
legible-Below (c ∷ cs) i = before-Below c (symbol_of c) (legible cs) refl (legible-Below cs) i

-- the letter of a number below 5, before others
before_letter : (x : ℕ) (m : List ℕ) → x < letter_kinds → before (symbol_of (letter_of x)) m ≡ x ∷ m
before_letter zero m h = refl
before_letter (suc zero) m h = refl
before_letter (suc (suc zero)) m h = refl
before_letter (suc (suc (suc zero))) m h = refl
before_letter (suc (suc (suc (suc zero)))) m h = refl
before_letter (suc (suc (suc (suc (suc x))))) m h = absurd (omega arith)

pub legible-letters : (m : List ℕ) → Below letter_kinds m → legible (letters m) ≡ m
unfolding legible
legible-letters [] h = refl
legible-letters (x ∷ m) h = before_letter x (legible (letters m)) (h 0) ∙ ap (λ (l : List ℕ). x ∷ l) (legible-letters m (λ i. h (suc i)))

unless_letter : (x i : ℕ) (b : Bool) → x < letter_kinds → unless (symbol_of (letter_of x)) i (D.Whole b) ≡ D.Whole (ltb 3 x || b)
unless_letter zero i b h = refl
unless_letter (suc zero) i b h = refl
unless_letter (suc (suc zero)) i b h = refl
unless_letter (suc (suc (suc zero))) i b h = refl
unless_letter (suc (suc (suc (suc zero)))) i b h = refl
unless_letter (suc (suc (suc (suc (suc x))))) i b h = absurd (omega arith)

whole_from : (i : ℕ) (m : List ℕ) → Below letter_kinds m → decoded_from i (letters m) ≡ D.Whole (has_unknown m)
unfolding decoded_from has_unknown
whole_from i [] h = refl
whole_from i (x ∷ m) h = rw (whole_from (suc i) m (λ j. h (suc j))) (unless_letter x i (has_unknown m) (h 0))

pub decoded-letters : (m : List ℕ) → Below letter_kinds m → decoded (letters m) ≡ D.Whole (has_unknown m)
decoded-letters m h = whole_from 0 m h

-- letters throughout, as numbers
pub record Legible (cs : List ℕ) (b : Bool) : Type 0 where
  pub letters_are : letters (legible cs) ≡ cs
  pub unknown_is : has_unknown (legible cs) ≡ b

symbol_known : (s : ℕ) → s < 4 → ltb 3 s ≡ false
symbol_known s h = le-ltb 3 s (omega arith)

Legible-from : (i : ℕ) (cs : List ℕ) (b : Bool) → decoded_from i cs ≡ D.Whole b → Legible cs b
unfolding decoded_from legible has_unknown
Legible-from i [] b e = let z : false ≡ b = cc in record { letters_are = refl; unknown_is = z }
Legible-from i (c ∷ cs) b e = go (symbol_of c) refl (decoded_from (suc i) cs) refl e (Legible-from (suc i) cs)
  where
    go : (l : Letter) → symbol_of c ≡ l → (d : Decoded) → decoded_from (suc i) cs ≡ d → unless l i d ≡ D.Whole b → ((x : Bool) → decoded_from (suc i) cs ≡ D.Whole x → Legible cs x) → Legible (c ∷ cs) b
    go (Symbol s) p d r q next =
        let g = next b (r ∙ q) in
        let t = letter_symbol c s p in
        record { letters_are = rw (p, t.letter, g.letters_are); unknown_is = rw (p, symbol_known s t.below, g.unknown_is) }
    go Unknown p (D.Whole x) r q next =
        let g = next x r in
        let z : true ≡ b = cc in
        record { letters_are = rw (p, g.letters_are) (ap (λ (y : ℕ). y ∷ cs) (sym (letter_unknown c p))); unknown_is = rw p z }
    go Unknown p (D.Foreign j) r q next = let z : ◌≡◌ {A = ℕ} 0 1 = cc in absurd (omega arith)
    go Foreign p d r q next = let z : ◌≡◌ {A = ℕ} 0 1 = cc in absurd (omega arith)

-- a strand of letters throughout is the letters of its numbers
pub whole_letters : (cs : List ℕ) (b : Bool) → decoded cs ≡ D.Whole b → letters (legible cs) ≡ cs
whole_letters cs b e = (Legible-from 0 cs b e).letters_are

-- it tells whether an N is among them
pub whole_unknown : (cs : List ℕ) (b : Bool) → decoded cs ≡ D.Whole b → has_unknown (legible cs) ≡ b
whole_unknown cs b e = (Legible-from 0 cs b e).unknown_is

pub whole_length : (cs : List ℕ) (b : Bool) → decoded cs ≡ D.Whole b → length (legible cs) ≡ length cs
whole_length cs b e = sym (length-map (legible cs) letter_of) ∙ ap length (whole_letters cs b e)

-- i is the first place of cs that holds no letter
pub record FirstForeign (i : ℕ) (cs : List ℕ) : Type 0 where
  pub inside : i < length cs
  pub foreign : symbol_of (get_or cs i 0) ≡ Foreign
  pub letter : (j : ℕ) → j < i → symbol_of (get_or cs j 0) ≡ Foreign → ⊥
  pub legible_length : length (legible cs) ≡ i

-- a letter before a strand whose first n bytes are letters
letters_before : (c : ℕ) (cs : List ℕ) (n : ℕ) → (symbol_of c ≡ Foreign → ⊥) → ((j : ℕ) → j < n → symbol_of (get_or cs j 0) ≡ Foreign → ⊥) → (j : ℕ) → j < suc n → symbol_of (get_or (c ∷ cs) j 0) ≡ Foreign → ⊥
letters_before c cs n p before zero h e = p e
letters_before c cs n p before (suc j) h e = before j (omega arith) e

-- a first foreign place of cs, where the first byte stands at place k
record ForeignFrom (k i : ℕ) (cs : List ℕ) : Type 0 where
  place : ℕ
  offset : i ≡ k + place
  first : FirstForeign place cs

foreign_from : (k i : ℕ) (cs : List ℕ) → decoded_from k cs ≡ D.Foreign i → ForeignFrom k i cs
unfolding decoded_from legible
foreign_from k i [] e = let z : ◌≡◌ {A = ℕ} 0 1 = cc in absurd (omega arith)
foreign_from k i (c ∷ cs) e = go (symbol_of c) refl (decoded_from (suc k) cs) refl e (foreign_from (suc k) i cs)
  where
    -- a letter before
    passed : (symbol_of c ≡ Foreign → ⊥) → length (before (symbol_of c) (legible cs)) ≡ suc (length (legible cs)) → ForeignFrom (suc k) i cs → ForeignFrom k i (c ∷ cs)
    passed p n f =
        record {
          place = suc f.place;
          offset = omega arith;
          first = record {
            inside = omega arith;
            foreign = f.first.foreign;
            letter = letters_before c cs f.place p f.first.letter;
            legible_length = n ∙ ap suc f.first.legible_length;
          };
        }

    go : (l : Letter) → symbol_of c ≡ l → (d : Decoded) → decoded_from (suc k) cs ≡ d → unless l k d ≡ D.Foreign i → (decoded_from (suc k) cs ≡ D.Foreign i → ForeignFrom (suc k) i cs) → ForeignFrom k i (c ∷ cs)
    go (Symbol s) p d r q next = passed (λ x. let z : ◌≡◌ {A = ℕ} 0 1 = cc in omega arith) (rw p) (next (r ∙ q))
    go Unknown p (D.Whole x) r q next = let z : ◌≡◌ {A = ℕ} 0 1 = cc in absurd (omega arith)
    go Unknown p (D.Foreign j) r q next = passed (λ x. let z : ◌≡◌ {A = ℕ} 0 1 = cc in omega arith) (rw p) (next (r ∙ q))
    go Foreign p d r q next =
        let z : i ≡ k = cc in
        record { place = 0; offset = omega arith; first = record { inside = omega arith; foreign = p; letter = λ j h. absurd (omega arith); legible_length = rw p } }

-- the answer Foreign tells the first place that holds no letter
pub foreign_first : (i : ℕ) (cs : List ℕ) → decoded cs ≡ D.Foreign i → FirstForeign i cs
foreign_first i cs e =
    let f = foreign_from 0 i cs e in
    let z : i ≡ f.place = omega arith in
    rw z f.first

-- Bytes

pub symbols_of-Below : (x : ℕ) → Below 4 (symbols_of x)
symbols_of-Below x zero = omega arith
symbols_of-Below x (suc zero) = omega arith
symbols_of-Below x (suc (suc zero)) = omega arith
symbols_of-Below x (suc (suc (suc zero))) = omega arith
symbols_of-Below x (suc (suc (suc (suc i)))) = omega arith

-- a byte is that of its four symbols
pub byte_symbols : (x : ℕ) → x < 256 → byte_of (x / 64 % 4) (x / 16 % 4) (x / 4 % 4) (x % 4) ≡ x
byte_symbols x h =
    let p : 4 * (x / 16) + x / 4 % 4 ≡ x / 4 = omega arith in
    let q : 4 * (x / 64) + x / 16 % 4 ≡ x / 16 = omega arith in
    let r : x / 64 % 4 ≡ x / 64 = omega arith in
    omega arith

module _ (a b c d : ℕ) (ha : a < 4) (hb : b < 4) (hc : c < 4) (hd : d < 4) where
  -- four symbols are those of their byte
  pub symbols_byte : symbols_of (byte_of a b c d) ≡ a ∷ b ∷ c ∷ d ∷ []
  symbols_byte =
      let p : byte_of a b c d / 64 % 4 ≡ a = omega arith in
      let q : byte_of a b c d / 16 % 4 ≡ b = omega arith in
      let r : byte_of a b c d / 4 % 4 ≡ c = omega arith in
      let s : byte_of a b c d % 4 ≡ d = omega arith in
      λ i. p i ∷ q i ∷ r i ∷ s i ∷ []

pub length-symbols : (bs : List ℕ) → length (symbols bs) ≡ 4 * length bs
unfolding symbols
length-symbols [] = refl
length-symbols (x ∷ bs) = omega (arith, length-symbols bs)

pub symbols-Below : (bs : List ℕ) → Below 4 (symbols bs)
unfolding symbols
symbols-Below [] i = omega arith
symbols-Below (x ∷ bs) zero = omega arith
symbols-Below (x ∷ bs) (suc zero) = omega arith
symbols-Below (x ∷ bs) (suc (suc zero)) = omega arith
symbols-Below (x ∷ bs) (suc (suc (suc zero))) = omega arith
symbols-Below (x ∷ bs) (suc (suc (suc (suc i)))) = symbols-Below bs i

times_four : (i : ℕ) → 4 * suc i ≡ suc (suc (suc (suc (4 * i))))
times_four i = omega arith

-- what is left of the symbols of bytes, after i bytes
pub symbols-drop : (i : ℕ) (bs : List ℕ) → drop (4 * i) (symbols bs) ≡ symbols (drop i bs)
unfolding symbols
symbols-drop zero bs = refl
symbols-drop (suc i) [] = drop-nil (4 * suc i)
symbols-drop (suc i) (x ∷ bs) = rw (times_four i) (symbols-drop i bs)

pub length-bytes : (m : List ℕ) → length (bytes m) ≡ length m / 4
unfolding bytes
length-bytes [] = refl
length-bytes (a ∷ []) = refl
length-bytes (a ∷ b ∷ []) = refl
length-bytes (a ∷ b ∷ c ∷ []) = refl
length-bytes (a ∷ b ∷ c ∷ d ∷ m) = omega (arith, length-bytes m)

pub bytes_Below : (m : List ℕ) → Below 4 m → Below 256 (bytes m)
unfolding bytes
bytes_Below [] h i = omega arith
bytes_Below (a ∷ []) h i = omega arith
bytes_Below (a ∷ b ∷ []) h i = omega arith
bytes_Below (a ∷ b ∷ c ∷ []) h i = omega arith
bytes_Below (a ∷ b ∷ c ∷ d ∷ m) h zero = omega (arith, h 0, h 1, h 2, h 3)
bytes_Below (a ∷ b ∷ c ∷ d ∷ m) h (suc i) = bytes_Below m (λ j. h (suc (suc (suc (suc j))))) i

-- what is left of the bytes of symbols, after i bytes
pub bytes-drop : (i : ℕ) (m : List ℕ) → drop i (bytes m) ≡ bytes (drop (4 * i) m)
unfolding bytes
bytes-drop zero m = refl
bytes-drop (suc i) [] = rw (drop-nil (4 * suc i))
bytes-drop (suc i) (a ∷ []) = rw (times_four i)
bytes-drop (suc i) (a ∷ b ∷ []) = rw (times_four i)
bytes-drop (suc i) (a ∷ b ∷ c ∷ []) = rw (times_four i)
bytes-drop (suc i) (a ∷ b ∷ c ∷ d ∷ m) = rw (times_four i) (bytes-drop i m)

pub bytes-symbols : (bs : List ℕ) → Below 256 bs → bytes (symbols bs) ≡ bs
unfolding symbols bytes
bytes-symbols [] h = refl
bytes-symbols (x ∷ bs) h = rw (byte_symbols x (h 0), bytes-symbols bs (λ i. h (suc i)))

pub symbols-bytes : (m : List ℕ) → Below 4 m → (n : ℕ) → length m ≡ 4 * n → symbols (bytes m) ≡ m
unfolding symbols bytes
symbols-bytes [] h n e = refl
symbols-bytes (a ∷ []) h n e = absurd (omega arith)
symbols-bytes (a ∷ b ∷ []) h n e = absurd (omega arith)
symbols-bytes (a ∷ b ∷ c ∷ []) h n e = absurd (omega arith)
symbols-bytes (a ∷ b ∷ c ∷ d ∷ m) h zero e = absurd (omega arith)
symbols-bytes (a ∷ b ∷ c ∷ d ∷ m) h (suc n) e =
    let p = symbols_byte a b c d (h 0) (h 1) (h 2) (h 3) in
    let q = symbols-bytes m (λ i. h (suc (suc (suc (suc i))))) n (omega arith) in
    λ i. p i ++ q i
