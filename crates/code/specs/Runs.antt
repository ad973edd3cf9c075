-- Runs of the reading steps on the layout 2, 3, 2, one on 2, 2, 2, 3: each lost step, each j and e, several d, and segments that are passed. The
-- verdicts, and how many starts are tried, are worked out by hand from SPECIFICATION.md; the working of each is in docs/RUNS.md.
use Rattle.std.specs.Prelude.{Bool, true, ◌&&◌, List, [], ◌∷◌, map, ℕ, eqb}
use Prim.Native.String.{String}
use Rattle.code.specs.Ascii.{digits}
use Rattle.code.specs.Edits.{same}
use Rattle.code.specs.Strands.{outcomes, verdicts_of}
use Rattle.code.specs.Verdicts.{verdict_number}
use Rattle.code.specs.Starts.{starts_tried}
use Rattle.code.specs.declared.Edit.TheVariants.{None, Sub, Del, Ins}
use Rattle.code.specs.declared.Verdict.{Verdict}
use Rattle.code.specs.declared.Verdict.TheVariants.{Read, Unknown, Lost, NoStart}

-- on a layout: how many starts the scans try, the received letters, 4 for N, and the verdicts on the segments
pub data Run : Type 0 where
  on : List ℕ → ℕ → String → List Verdict → Run

-- the same on the layout 2, 3, 2
abbrev pub scans : ℕ → String → List Verdict → Run
scans n s vs = on (2 ∷ 3 ∷ 2 ∷ []) n s vs

-- no start is tried there
abbrev pub gives : String → List Verdict → Run
gives s vs = scans 0 s vs

-- the reading of the letters gives these verdicts, compared by their numbers, and tries so many starts
unfoldable pub right : Run → Bool
right (on ks n s vs) = same (map verdict_number (verdicts_of (outcomes ks (digits s)))) (map verdict_number vs) && eqb (starts_tried ks (digits s)) n

abbrev pub runs : List Run
runs =
    -- 1. untouched: j = 0 in all three, each check agrees, the ends by the syndromes seen, equal in step 9
    gives "011333101123120001231130311103" (Read None ∷ Read None ∷ Read None ∷ [])
    -- 2. a message letter of the second replaced: step 4, j = 0: check and syndrome disagree, layers repaired 100 to 110 and 001 to 011; the end
    -- by the syndrome seen
    ∷ gives "011333101120120001231130311103" (Read None ∷ Read (Sub 3 0) ∷ Read None ∷ [])
    -- 3. a message letter of the first left out: step 5, j = −1: the syndrome disagrees, layers repaired from one symbol; end 7 by the syndrome
    -- seen
    ∷ gives "11333101123120001231130311103" (Read (Del 0 0) ∷ Read None ∷ Read None ∷ [])
    -- 4. a letter put in before the third message: step 5, j = +1: the syndrome disagrees, layers repaired from the symbols 0 3 0; the last ends
    -- with the strand
    ∷ gives "0113331011231200012311030311103" (Read None ∷ Read None ∷ Read (Ins 2 0) ∷ [])
    -- 5. a marker letter replaced: step 3: marker hit, j = 0, the message before the check; the end by the syndrome seen
    ∷ gives "011333100123120001231130311103" (Read None ∷ Read (Sub 0 0) ∷ Read None ∷ [])
    -- 6. a marker letter left out: step 3: marker hit, j = −1, message at 9 to 11; end 19 by the syndrome seen; the smallest place is 0
    ∷ gives "01133310123120001231130311103" (Read None ∷ Read (Del 0 1) ∷ Read None ∷ [])
    -- 7. another letter put in at the marker: step 3: marker hit, j = +1, message at 11 to 13; end 21 by the syndrome seen
    ∷ gives "0113331010123120001231130311103" (Read None ∷ Read (Ins 1 0) ∷ Read None ∷ [])
    -- 8. a separator letter replaced: step 6: no separator, the check agrees; step 8 with e = 0, a clean segment at 8
    ∷ gives "011303101123120001231130311103" (Read (Sub 4 0) ∷ Read None ∷ Read None ∷ [])
    -- 9. a separator letter left out: step 6: no separator, the check agrees; step 8 with e = −1, a clean segment at 7; the smallest place is 3
    ∷ gives "01133101123120001231130311103" (Read (Del 3 3) ∷ Read None ∷ Read None ∷ [])
    -- 10. another letter put in inside the separator: step 6: no separator, the check agrees; step 8 with e = +1, a clean segment at 9
    ∷ gives "0113033101123120001231130311103" (Read (Ins 4 0) ∷ Read None ∷ Read None ∷ [])
    -- 11. a syndrome letter left out: j = 0, the check agrees, 1 3 1 is not the syndrome 1 2 3; step 8 with e = −1, a clean segment at 19
    ∷ gives "01133310112312000131130311103" (Read None ∷ Read (Del 10 2) ∷ Read None ∷ [])
    -- 12. a syndrome letter put in: j = 0, the check agrees, 1 2 0 is not the syndrome 1 2 3; step 8 with e = +1, a clean segment at 21
    ∷ gives "0113331011231200012031130311103" (Read None ∷ Read (Ins 11 0) ∷ Read None ∷ [])
    -- 13. a bad first segment of 8 letters: j = +1, the low layer 100 cannot become 11: step 7; the scan finds 8 with d = 0, f = 3
    ∷ scans 1 "102033331123120001231130311103" (Lost 7 ∷ Read None ∷ Read None ∷ [])
    -- 14. a bad first segment of 7 letters: j = +1, the low layer 100 cannot become 11: step 7; the scan finds 7 with d = −1, f = 3
    ∷ scans 2 "10203331123120001231130311103" (Lost 7 ∷ Read None ∷ Read None ∷ [])
    -- 15. a bad first segment of 9 letters: j = 0, the low layer 00 cannot become 11 by one change: step 7; the scan finds 9 with d = +1, f = 3
    ∷ scans 3 "0200003131123120001231130311103" (Lost 7 ∷ Read None ∷ Read None ∷ [])
    -- 16. a bad first segment of 3 letters: step 6 takes 0 3, as check 3 agrees, but no e fits: step 8; the scan finds 3 with d = −5, f = 3
    ∷ scans 10 "0331123120001231130311103" (Lost 8 ∷ Read None ∷ Read None ∷ [])
    -- 17. a bad first segment of 16 letters: j = +1, the low layer 100 cannot become 11: step 7; the scan finds 16 with d = +8, f = 3
    ∷ scans 16 "10203333103033031123120001231130311103" (Lost 7 ∷ Read None ∷ Read None ∷ [])
    -- 18. nothing behind the first segment: the second starts at the strand's end, where the marker is hit and no separator stands: step 3; the
    -- scan finds nothing
    ∷ scans 17 "01133310" (Read None ∷ Lost 3 ∷ NoStart ∷ [])
    -- 19. a bad first segment: no separator, check 3 against the sum 1: step 6; the scan finds 8 with d = 0, f = 3
    ∷ scans 1 "103033031123120001231130311103" (Lost 6 ∷ Read None ∷ Read None ∷ [])
    -- 20. two message letters replaced: j = 0, the high layer 11 cannot become 00 by one change: step 7; the scan finds 8 with d = 0, f = 0
    ∷ scans 1 "331333101123120001231130311103" (Lost 7 ∷ Read None ∷ Read None ∷ [])
    -- 21. the strand ends in the last syndrome, whose message has a letter replaced: j = 0, the check disagrees and the written syndrome runs
    -- past the end: step 7
    ∷ gives "01133310112312000123110031110" (Read None ∷ Read None ∷ Lost 7 ∷ [])
    -- 22. a letter changed at the end of one segment and one in the marker after it: j = 0, the check agrees, 1 1 is not the syndrome 1 0 and no
    -- e fits: step 8; no d fits for the second; the third is found at 20 with d = 0, f = 3
    ∷ scans 17 "011333110123120001231130311103" (Lost 8 ∷ NoStart ∷ Read None ∷ [])
    -- 23. two letters behind the last segment: the last ends with the strand, two letters too late: step 9
    ∷ gives "01133310112312000123113031110300" (Read None ∷ Read None ∷ Lost 9 ∷ [])
    -- 24. a bad second segment, and two letters behind the last: marker hit, no separator: step 3; the scan finds 20 with d = 0, and the last
    -- has two letters too many: step 9
    ∷ scans 1 "01133310313013312113113031110311" (Read None ∷ Lost 3 ∷ Lost 9 ∷ [])
    -- 25. the empty strand: no separator, the check past the end: step 6; the scan finds nothing
    ∷ scans 49 "" (Lost 6 ∷ NoStart ∷ NoStart ∷ [])
    -- 26. a letter changed at the end of the first segment alone: j = 0, the check agrees, 1 1 is not the syndrome 1 0; step 8 with e = 0, a
    -- clean segment at 8, f being 0 of the message and not the received 1
    ∷ gives "011333111123120001231130311103" (Read (Sub 7 1) ∷ Read None ∷ Read None ∷ [])
    -- 27. a bad first segment whose last symbol is 1: j = +1, the low layer 100 cannot become 11: step 7; at 8 the marker would be 0 for f = 1,
    -- and at no other start do two equal symbols differ from their neighbours; the third is found at 20 with d = 0, f = 3
    ∷ scans 17 "102033311123120001231130311103" (Lost 7 ∷ NoStart ∷ Read None ∷ [])
    -- 28. two bad letters, and clean second segments at 2 and at 14: no separator, check 1 against the sum 2: step 6; the scan finds 2 with d =
    -- −6 before 14 with d = +6; the last has 22 letters: step 9
    ∷ scans 12 "331123120001231123120001231130311103" (Lost 6 ∷ Read None ∷ Lost 9 ∷ [])
    -- 29. a bad first segment of 1 letter: no separator, check 1 against the sum 0: step 6; the scan finds 1, the first start above P, with d =
    -- −7, f = 3
    ∷ scans 14 "31123120001231130311103" (Lost 6 ∷ Read None ∷ Read None ∷ [])
    -- 30. an N in the place of an A of the first message: read as A, the segment stands exactly, and its piece has an N
    ∷ gives "411333101123120001231130311103" (Unknown ∷ Read None ∷ Read None ∷ [])
    -- 31. an N in the place of another message letter of the second: read as A, as in run 2
    ∷ gives "011333101124120001231130311103" (Read None ∷ Read (Sub 3 0) ∷ Read None ∷ [])
    -- 32. an N put in inside a syndrome: read as A, as in run 12
    ∷ gives "0113331011231200012431130311103" (Read None ∷ Read (Ins 11 0) ∷ Read None ∷ [])
    -- 33. the first syndrome hit as in run 26, and an N in the place of an A of the second's separator: no segment is clean at 8, and no other e
    -- fits: step 8; at 8 the marker would be 0 for f = 1, and no other d fits; the third is found at 20 with d = 0, f = 3
    ∷ scans 17 "011333111123124001231130311103" (Lost 8 ∷ NoStart ∷ Read None ∷ [])
    -- 34. the bad first segment of run 13, and the same N: no segment is clean at 8, and no other d fits; the third is found at 20 with d = 0, f = 3
    ∷ scans 17 "102033331123124001231130311103" (Lost 7 ∷ NoStart ∷ Read None ∷ [])
    -- 35. a bad first segment that ends in an N: j = +1, and 0 1 behind it, N read as A, is the syndrome of 1 0; the end at 9 by the syndrome seen,
    -- more than one edit away: step 9; the scan finds 8 with d = 0, f being A, and no N stands in its segment
    ∷ scans 1 "102033341123120001231130311103" (Lost 9 ∷ Read None ∷ Read None ∷ [])
    -- 36. 16 letters cut out of the first two segments: step 6 takes 0 1, as check 1 agrees, but no e fits: step 8; no d fits for the second; the
    -- third is found at 4 with d = −16, the first start of its window, f = 3
    ∷ scans 48 "01131130311103" (Lost 8 ∷ NoStart ∷ Read None ∷ [])
    -- 37. on the layout 2, 2, 2, 3: four letters of the first segment, then the last one: step 8 as in run 36; no d fits for the second or the
    -- third; the fourth is found at 4 with d = −24, the first start of its window, f = 3
    ∷ on (2 ∷ 2 ∷ 2 ∷ 3 ∷ []) 97 "0113112312000123" (Lost 8 ∷ NoStart ∷ NoStart ∷ Read None ∷ [])
    -- 38. a bad first segment, then clean third, second and third ones: no separator, check 0 against the sum 1: step 6; the second is found at 14
    -- with d = +6, before the third at 4 is looked for, which would be d = −16
    ∷ scans 13 "010311303111031123120001231130311103" (Lost 6 ∷ Read None ∷ Read None ∷ [])
    -- 39. a clean second segment alone: step 6 takes 1 1, as check 2 agrees, but no e fits: step 8; it stands at P, which is not tried, and
    -- nothing is found for the third
    ∷ scans 49 "112312000123" (Lost 8 ∷ NoStart ∷ NoStart ∷ [])
    -- 40. three letters, then the third segment: no separator, check 3 against the sum 1: step 6; the third would be d = −17, a letter before its
    -- window
    ∷ scans 49 "0131130311103" (Lost 6 ∷ NoStart ∷ NoStart ∷ [])
    -- 41. 36 other letters, then the third segment: no separator, check 0 against the sum 1: step 6; no two equal symbols up to 36, where the
    -- third is found with d = +16, the last start of its window, f = 3
    ∷ scans 49 "0103010301030103010301030103010301031130311103" (Lost 6 ∷ NoStart ∷ Read None ∷ [])
    ∷ []

unfoldable pub every : List Run → Bool
every [] = true
every (r ∷ rs) = right r && every rs
