-- Laws of growing text.
use Rattle.std.proofs.lemmas.List.{length-take-le}
use Rattle.std.proofs.Common.{sym, ap, ◌∙◌, append_assoc, append-nil, length-append, arith}
use Rattle.std.specs.Prelude.{◌≡◌, refl, List, [], ◌++◌, ℕ, ◌+◌, length, take}
use Rattle.text.specs.declared.put.Text.{Text}
use Rattle.text.specs.Put.{text_of, Grown, Appended}

-- Of buffers

-- nothing is put
pub Appended-nothing : (d : List ℕ) (at : ℕ) → Appended d at [] d at
Appended-nothing d at = record { ends = omega arith; text = sym (append-nil (take at d)) }

-- two texts put one behind the other are one
pub Appended-both : {d e f x y : List ℕ} {at m n : ℕ} → Appended d at x e m → Appended e m y f n → Appended d at (x ++ y) f n
Appended-both {d} {e} {f} {x} {y} {at} {m} {n} p q =
    record {
      ends = simp length-append (omega (arith, p.ends, q.ends));
      text = q.text ∙ (ap (λ (l : List ℕ). l ++ y) p.text ∙ append_assoc (take at d) x y);
    }

-- Of texts

-- a text is grown by more where it is the text before with more behind it, in the same buffer
pub text_Grown : {s t : Text} {x : List ℕ} → text_of t ≡ text_of s ++ x → length t.out.now ≡ length s.out.now → t.out.ghost_name ≡ s.out.ghost_name → Grown s x t
text_Grown {s} {t} {x} text room same =
    record {
      appended = record {
        ends = omega (arith, ap length text, length-append (text_of s) x, length-take-le s.end s.out.now s.within, length-take-le t.end t.out.now t.within);
        text = text;
      };
      room = room;
      same = same;
    }

-- nothing is put
pub Grown-nothing : (t : Text) → Grown t [] t
Grown-nothing t = record { appended = Appended-nothing t.out.now t.end; room = refl; same = refl }

-- two parts put one behind the other are one
pub Grown-both : {s t u : Text} {x y : List ℕ} → Grown s x t → Grown t y u → Grown s (x ++ y) u
Grown-both {s} {t} {u} {x} {y} p q =
    record {
      appended = Appended-both p.appended q.appended;
      room = q.room ∙ p.room;
      same = q.same ∙ p.same;
    }

-- the text is longer by what is put
pub Grown-length : {s t : Text} {x : List ℕ} → Grown s x t → length (text_of t) ≡ length (text_of s) + length x
Grown-length {s} {t} {x} p = ap length p.appended.text ∙ length-append (text_of s) x

-- what is put first is the text
pub Grown-first : {s t : Text} {x : List ℕ} → text_of s ≡ [] → Grown s x t → text_of t ≡ x
Grown-first {s} {t} {x} e p = p.appended.text ∙ ap (λ (l : List ℕ). l ++ x) e

-- a text that grows is appended to in its buffer
pub Grown_Appended : {s t : Text} {x : List ℕ} → Grown s x t → Appended s.out.now s.end x t.out.now t.end
Grown_Appended p = p.appended
