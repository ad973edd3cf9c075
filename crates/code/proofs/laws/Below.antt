-- Laws of lists whose every entry is below a number n.
use Rattle.std.specs.Prelude.{List, [], ◌∷◌, ◌++◌, ℕ, zero, suc, ◌<◌, take, drop}
use Rattle.std.proofs.Common.{arith}
use Rattle.code.specs.Symbols.{Below}

module _ {n : ℕ} where
  pub Below-cons : (x : ℕ) (l : List ℕ) → x < n → Below n l → Below n (x ∷ l)
  Below-cons x l h t zero = h
  Below-cons x l h t (suc i) = t i

  pub Below-append : (s t : List ℕ) → Below n s → Below n t → Below n (s ++ t)
  Below-append [] t hs ht = ht
  Below-append (x ∷ s) t hs ht = Below-cons x (s ++ t) (hs 0) (Below-append s t (λ i. hs (suc i)) ht)

  pub Below-take : (k : ℕ) (l : List ℕ) → Below n l → Below n (take k l)
  Below-take zero l h = λ i. omega (arith, h 0)
  Below-take (suc k) [] h = h
  Below-take (suc k) (x ∷ l) h = Below-cons x (take k l) (h 0) (Below-take k l (λ i. h (suc i)))

  pub Below-drop : (k : ℕ) (l : List ℕ) → Below n l → Below n (drop k l)
  Below-drop zero l h = h
  Below-drop (suc k) [] h = h
  Below-drop (suc k) (x ∷ l) h = Below-drop k l (λ i. h (suc i))
