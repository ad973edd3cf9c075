use mathlib.Core.Path.{◌≡◌, refl, sym, ap, subst, ◌∙◌}
use mathlib.Core.List.{List, ◌++◌, map}
use Rattle.std.specs.Prelude.{Ok}
use Prim.Native.Nat.{ℕ, ◌/◌}
use native.Mathlib.Omega.{arith}
use lib.ListN.{length, drop, replicate}
use Rattle.code.specs.Symbols.{bytes}
use Rattle.code.proofs.laws.Symbols.{length-bytes}
use Rattle.code.specs.Sheet.{marks_of, sheet_of, counts_of, sheet_bytes}
use Rattle.code.specs.Strands.{outcomes, messages_of, verdicts_of}
use Rattle.code.specs.Verdicts.{verdict_number, verdict_of}
use Rattle.code.proofs.laws.Verdicts.{marks_back}
use Rattle.code.proofs.laws.MessageBelow.{messages_Below, marks_Below}
use Rattle.code.proofs.laws.ReadCall.{length_sheet}
use Rattle.reading.proofs.Fronts.{Front, Front-put, Front-Below, over_front_lem, messages_length, numbers_length, marks_length}
use Rattle.reader.proofs.Calls.{room}
use Rattle.reader.proofs.read_segments.Given.{Over}
use Rattle.reader.proofs.read_segments.Goals.{After-marks_of, After-read-segments}
use Rattle.reader.proofs.read_segments.Goals as goal

-- the messages at the front of the array of symbols
symbols_Front : (g : Over) (c : After-read-segments g) → Front c.symbols-n.result (messages_of (outcomes c.args.order.now.lengths c.args.letters.now)) c.read-segments.new.symbols
symbols_Front g c =
    let n = c.symbols-n in
    subst (λ (a : List ℕ). Front n.result (messages_of (outcomes c.args.order.now.lengths c.args.letters.now)) a) (sym c.read-segments.ensures.messages)
    (Front-put _ _ _ n.result refl (messages_length c.args.order.now n.ensures.taken c.args.letters.now ∙ sym n.ensures.value))

-- the marks at the front of the array of marks
marks_Front : (g : Over) (c : After-marks_of g) → Front (length c.verdicts-verdicts.result.now) (marks_of (verdicts_of (outcomes c.args.order.now.lengths c.args.letters.now))) (c.marks_of.new.marks ++ drop (length c.verdicts-verdicts.result.now) (replicate 64 0))
marks_Front g c =
    let o = c.args.order.now in
    let t = c.symbols-n.ensures.taken in
    let vs = verdicts_of (outcomes o.lengths c.args.letters.now) in
    let numbers : c.verdicts-verdicts.result.now ≡ map verdict_number vs = c.verdicts-verdicts.ensures.value ∙ c.read-segments.ensures.numbers in
    Front-put _ _ _ _ (c.marks_of.ensures ∙ ap (λ (ns : List ℕ). marks_of (map verdict_of ns)) numbers ∙ marks_back vs)
    (marks_length o t c.args.letters.now ∙ sym (ap length numbers ∙ numbers_length o t c.args.letters.now))

pub pack-requires-clause-symbols : goal.pack-requires-clause-symbols
pack-requires-clause-symbols g c = Front-Below _ _ _ (symbols_Front g (goal.at.pack-requires-clause-symbols g c).After-read-segments) (messages_Below c.args.order.now.lengths c.args.letters.now)

pub pack_sheet-requires-clause-marks : goal.pack_sheet-requires-clause-marks
pack_sheet-requires-clause-marks g c = Front-Below _ _ _ (marks_Front g (goal.at.pack_sheet-requires-clause-marks g c).After-marks_of) (marks_Below (outcomes c.args.order.now.lengths c.args.letters.now))

pub pack_sheet-requires-clause-room : goal.pack_sheet-requires-clause-room
pack_sheet-requires-clause-room g c =
    let o = c.args.order.now in
    let t = c.symbols-n.ensures.taken in
    let f = marks_Front g (goal.at.pack_sheet-requires-clause-room g c).After-marks_of in
    let count : length c.verdicts-verdicts.result.now ≡ length o.lengths = ap length (c.verdicts-verdicts.ensures.value ∙ c.read-segments.ensures.numbers) ∙ numbers_length o t c.args.letters.now in
    (omega (arith, f.count, c.verdicts-verdicts.ensures.fit), omega (arith, f.count, count, (room o _ _ c.requires.buffers).1))

pub returns : goal.returns
returns g c =
    let a = c.args in
    let symbols = (symbols_Front g (goal.at.returns g c).After-read-segments).entries in
    let marks = (marks_Front g (goal.at.returns g c).After-marks_of).entries in
    let counts = c.counts_of.ensures ∙ ap counts_of marks in
    let message = over_front_lem bytes (λ (n : ℕ). n / 4) length-bytes _ _ a.message.now _ symbols c.pack.ensures in
    let sheet = over_front_lem sheet_of sheet_bytes length_sheet _ _ a.sheet.now _ marks c.pack_sheet.ensures in
    λ i. (Ok (counts i), (message i, sheet i))
