-- Letters without an N are read as if there were no such letter.
--   base_stands      the symbols, the clean test, what is said and the reading
--   none_unknown     unknown is said of no segment
use Rattle.std.specs.Prelude.{◌≡◌, Bool, true, false, List, [], ◌∷◌, map, ℕ, zero, suc, ◌-◌, get_or, take, drop}
use Rattle.std.proofs.Math.Option.{Option, some, none}
use Rattle.std.proofs.Common.{arith}
use Rattle.code.specs.Symbols.{as_symbols, has_unknown}
use Rattle.code.proofs.laws.Letters.{as_known, has_take, has_drop}
use Rattle.code.specs.Segment.{last_of, size}
use Rattle.code.specs.Reading.{clean, SegmentResult, read, read_segment}
use Rattle.code.specs.Strands.{Try, scan, Outcome, unfound, Scan, lost_and_rest, segment_and_rest, reading, outcomes, verdicts_of}
use Rattle.code.proofs.laws.Strands.{told_known}
use Rattle.code.specs.WithoutUnknown.{BaseStands}
use Rattle.code.specs.declared.Edit.{Edit}
use Rattle.code.specs.declared.Verdict.{Verdict}
use Rattle.code.specs.declared.Verdict.TheVariants.{Read, Unknown, Lost, NoStart}

pub base_stands : BaseStands
unfolding clean
base_stands letters h =
    let e = as_known letters h in
    record { symbols = e; clean_test = λ k f. rw e; verdict = λ v. told_known v letters h; read = λ ks. rw e }

-- unknown is said of no segment

abbrev NoneUnknown : List Verdict → Type 0
NoneUnknown [] = Unit {0}
NoneUnknown (v ∷ vs) = (v ≡ Unknown → ⊥) × NoneUnknown vs

read_known : (e : Edit) → Read e ≡ Unknown → ⊥
read_known e q = let z : ◌≡◌ {A = ℕ} 0 1 = cc in omega arith

lost_known : (step : ℕ) → Lost step ≡ Unknown → ⊥
lost_known step q = let z : ◌≡◌ {A = ℕ} 0 1 = cc in omega arith

start_known : NoStart ≡ Unknown → ⊥
start_known q = let z : ◌≡◌ {A = ℕ} 0 1 = cc in omega arith

unfound_known : (ks : List ℕ) → NoneUnknown (verdicts_of (map unfound ks))
unfound_known [] = tt
unfound_known (k ∷ ks) = (start_known, unfound_known ks)

reading_known : (look : Scan) (passed : ℕ) (marked : Bool) (f : ℕ) (ks s letters : List ℕ) → has_unknown letters ≡ false → NoneUnknown (verdicts_of (reading look passed marked f ks s letters))
unfolding reading
reading_known look passed marked f [] s letters h = tt
reading_known look (suc passed) marked f (k ∷ ks) s letters h = (start_known, reading_known look passed true f ks s letters h)
reading_known look zero marked f (k ∷ ks) s letters h =
    go (read_segment marked f k ks s letters) (λ n g o. reading_known look n true g ks (drop o s) (drop o letters) (has_drop o letters h))
  where
    next : ℕ → ℕ → ℕ → List Outcome
    next n g o = reading look n true g ks (drop o s) (drop o letters)

    Later : Type 0
    Later = (n g o : ℕ) → NoneUnknown (verdicts_of (next n g o))

    scanned : (step : ℕ) (x : Option Try) → Later → NoneUnknown (verdicts_of (lost_and_rest k ks s letters step next x))
    scanned step (some t) n = (lost_known step, n t.passed (get_or s (t.start - 1) 0) t.start)
    scanned step none n = (lost_known step, unfound_known ks)

    go : (r : SegmentResult) → Later → NoneUnknown (verdicts_of (segment_and_rest k ks s letters next (look (size marked k) ks s letters) r))
    go (read m e o) n = (rw (told_known (Read e) (take o letters) (has_take o letters h)) (read_known e), n 0 (last_of m) o)
    go (SegmentResult.lost step) n = scanned step (look (size marked k) ks s letters) n

pub none_unknown : (ks letters : List ℕ) → has_unknown letters ≡ false → NoneUnknown (verdicts_of (outcomes ks letters))
none_unknown ks letters h = reading_known scan 0 false 0 ks (as_symbols letters) letters h
