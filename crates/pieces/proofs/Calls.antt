-- What the piece calls use.
--   refused_located   why a piece was not located
--   Placed, placed    the piece that was located
use Rattle.std.specs.Prelude.{Result, Ok, Err}
use mathlib.Core.Path.{◌≡◌, refl, ap}
use mathlib.Core.List.{List}
use Prim.Native.Nat.{ℕ, ◌+◌, ◌-◌, ◌≤◌}
use native.Mathlib.Omega.{arith}
use lib.ListN.{length, take, drop}
use Rattle.code.specs.declared.Refusal.{Refusal}
use Rattle.code.specs.declared.Span.{Span}
use Rattle.code.specs.Order.{Order}
use Rattle.code.specs.Refusals.{unless_refused}
use Rattle.code.specs.ReadCall.{piece_test, outcomes_of, piece_start, piece_length, piece_of, locate_call}
use Rattle.code.proofs.laws.ReadCall.{piece_Taken, piece_inside}

at_fine : (t : Result (Unit {0}) Refusal) (at span : Span) → unless_refused t (Ok at) Err ≡ Ok span → (t ≡ Ok tt) × (span ≡ at)
at_fine (Ok _) at span e = (refl, cc)
at_fine (Err r) at span e = let z : ◌≡◌ {A = ℕ} 0 1 = cc in absurd (omega arith)

refused_at : (t : Result (Unit {0}) Refusal) (at : Span) (r : Refusal) → unless_refused t (Ok at) Err ≡ Err r → t ≡ Err r
refused_at (Ok _) at r e = let z : ◌≡◌ {A = ℕ} 0 1 = cc in absurd (omega arith)
refused_at (Err u) at r e = cc

-- the piece that was located
pub record Placed (o : Order) (cs : List ℕ) (i : ℕ) (at : Span) : Type 0 where
  pub tested : piece_test o cs i ≡ Ok tt
  pub ordered : at.start ≤ at.end
  pub inside : at.end ≤ length cs
  pub letters : take (at.end - at.start) (drop at.start cs) ≡ piece_of (outcomes_of o cs) cs i

module _ (o : Order) (cs : List ℕ) (i : ℕ) where
  abbrev there : Span
  there = record { start = piece_start (outcomes_of o cs) (i - 1); end = piece_start (outcomes_of o cs) (i - 1) + piece_length (outcomes_of o cs) (i - 1) }

  pub refused_located : (r : Refusal) → locate_call o cs i ≡ Err r → piece_test o cs i ≡ Err r
  refused_located r e = refused_at (piece_test o cs i) there r e

  pub placed : (at : Span) → locate_call o cs i ≡ Ok at → Placed o cs i at
  placed at e =
      let p = at_fine (piece_test o cs i) there at e in
      let q = piece_Taken o cs i p.0 in
      let x : at.start ≡ there.start = ap (λ (r : Span). r.start) p.1 in
      let y : at.end ≡ there.end = ap (λ (r : Span). r.end) p.1 in
      let m : at.end - at.start ≡ piece_length (outcomes_of o cs) (i - 1) = omega (arith, x, y) in
      record {
        tested = p.0;
        ordered = omega (arith, x, y);
        inside = omega (arith, y, piece_inside o cs q.0 q.1.0 q.1.1 (i - 1));
        letters = rw (m, x);
      }
