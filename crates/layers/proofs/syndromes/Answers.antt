use mathlib.Core.Path.{◌≡◌, ap, ◌∙◌}
use mathlib.Core.List.{List}
use Prim.Native.Nat.{ℕ, ◌-◌, ◌*◌, ◌%◌, ◌^◌, ◌≤◌}
use native.Mathlib.Omega.{arith}
use lib.ListN.{length}
use lib.Bits.{bit_and, and_mask}
use lib.Pow.{shl_exact}
use Rattle.code.specs.Bounds.{widest}
use Rattle.code.specs.Layers.{sum_of_places, syndrome}
use Rattle.code.proofs.laws.Layers.{length-layer, width-Least}
use Rattle.layers.specs.declared.Layers.{Layers}
use Rattle.layers.specs.LayerSums.{both}
use Rattle.layers.proofs.syndromes.Goals as goal

-- the remainders modulo 2k
remainders : (m : List ℕ) (s : Layers) → s ≡ both sum_of_places m → record { high = s.high % (2 * length m); low = s.low % (2 * length m) } ≡ both syndrome m
unfolding syndrome
remainders m s e = rw (length-layer 1 m, length-layer 0 m) (ap (λ (x : Layers). (let n = 2 * length m in record { high = x.high % n; low = x.low % n })) e)

-- the mask of a power of two takes the remainder
masked : (m w n : ℕ) → m ≡ (1 * 2 ^ w) % 2 ^ 64 → w ≤ widest → bit_and n (m - 1) ≡ n % m
masked m w n e h = let p : m ≡ 2 ^ w = e ∙ (shl_exact {a = 1} 1 w 64 (omega arith) (omega arith) ∙ omega arith) in rw p (and_mask n w)

masked_both : (m : List ℕ) (s : Layers) (w : ℕ) → s ≡ both sum_of_places m → 2 * length m ≡ (1 * 2 ^ w) % 2 ^ 64 → w ≤ widest → record { high = bit_and s.high (2 * length m - 1); low = bit_and s.low (2 * length m - 1) } ≡ both syndrome m
masked_both m s w e p h = rw (masked (2 * length m) w s.high p h, masked (2 * length m) w s.low p h) (remainders m s e)

pub overflow_shl-width_of : goal.overflow_shl-width_of
overflow_shl-width_of c = omega (arith, c.width_of.ensures, (width-Least (length c.args.symbols.now)).least widest (omega arith))

pub returns-then-m-width_of : goal.returns-then-m-width_of
returns-then-m-width_of c =
    let m = c.args.symbols.now in
    let w = c.width_of in
    masked_both m c.args.places w.result c.requires.2 c.if-m-width_of.true (omega (arith, w.ensures, (width-Least (length m)).least widest (omega arith)))

pub returns : goal.returns
returns c = remainders c.args.symbols.now c.args.places c.requires.2
