-- The theorems of demand 3, from the induction over segments.
--   demand_3         a strand that keeps the conditions is read whole
--   one_message      two messages of one layout that share such a strand are equal
--   demand_3_bytes   the bytes of such a strand come back
use Rattle.std.specs.Prelude.{◌≡◌, false, List, [], ◌∷◌, ℕ, length, take, drop}
use Rattle.std.proofs.Common.{sym, ap, ◌∙◌, arith, length-drop, length-take-le}
use Rattle.code.specs.Symbols.{Below, symbols, bytes}
use Rattle.code.specs.Layout.{sum, cut, joined, Lengths, done, more}
use Rattle.code.specs.Strands.{scan, outcomes}
use Rattle.code.specs.Demand3.{Demand3, OneMessage, Demand3Bytes}
use Rattle.code.proofs.laws.Symbols.{bytes-symbols}
use Rattle.code.proofs.laws.Below.{Below-take, Below-drop}
use Rattle.code.proofs.laws.Layout.{Each, none, both, cut_lengths, length-cut, joined-cut}
use Rattle.code.proofs.laws.OneSegment.{Proper}
use Rattle.code.proofs.laws.Regained.{Whole, regained, whole_messages, whole_marks}

-- the messages of a layout have two symbols or more, each below 4
proper : {most : ℕ} (ks x : List ℕ) → Lengths most ks → Below 4 x → length x ≡ sum ks → Each Proper (cut ks x)
unfolding cut sum
proper [] x done h e = none
proper (k ∷ ks) x (more l _ ls) h e =
    both {m = take k x} (record { two = rw (length-take-le k x (omega arith)) l; small = Below-take k x h })
    (proper ks (drop k x) ls (Below-drop k x h) (simp length-drop (omega arith)))

pub demand_3 : Demand3
demand_3 most ks x s m o =
    let e = m.size in
    let w : Whole (cut ks x) (outcomes ks s) = rw (cut_lengths ks x e) at (regained scan false 0 (cut ks x) o.edits s (proper ks x m.lengths m.symbols e) o.allowed o.stretches) in
    let f = whole_marks w in
    record {
      message = ap joined (whole_messages w) ∙ joined-cut ks x e;
      none_lost = f.none_lost;
      all_found = f.all_found ∙ length-cut ks x;
    }

pub one_message : OneMessage
one_message most ks x y s mx my ox oy = sym (demand_3 most ks x s mx ox).message ∙ (demand_3 most ks y s my oy).message

pub demand_3_bytes : Demand3Bytes
demand_3_bytes most ks bs s h m o = ap bytes (demand_3 most ks (symbols bs) s m o).message ∙ bytes-symbols bs h
