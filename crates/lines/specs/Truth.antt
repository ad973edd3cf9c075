-- Every line is true, in one page. A segment starts at a site, and what is reported of it is held against the letters that stand there, in the words
-- of the reading steps (Reading.antt). Step 9 compares the piece with the segment written anew from the message that was read. N is taken as A. The
-- statements are proved in proofs/laws/Truth.antt and proofs/laws/Lines.antt, each under its name in small letters.
--   Site            where a segment starts
--   Lost3           .. Lost9 when a step calls a segment lost, in its own words
--   Loses, First    a step loses a segment; it is the first that does
--   Turns           an edit, with its letter, turns a segment into a piece
--   Says            what a verdict says
--   TrueOf          what is reported of one segment is true
--   onward_behind   where reading goes on behind a segment
--   TrueFrom        what is reported of all segments is true
--   TrueLines       the theorem
--   ApartLines      two different verdicts never give the same line
use Rattle.std.specs.Prelude.{◌≡◌, Bool, true, false, List, [], ◌∷◌, ◌⊎◌, ℕ, zero, suc, ◌-◌, ◌<◌, ◌≤◌, length, get_or, take, drop}
use Rattle.std.proofs.Math.Option.{Option, some, none}
use Rattle.code.specs.Symbols.{Below, letter_kinds, as_symbols, has_unknown}
use Rattle.code.specs.Layers.{Word, layer, width, number, syndrome}
use Rattle.code.specs.Links.{Linked}
use Rattle.code.specs.Segment.{segment, last_of, data_at, size}
use Rattle.code.specs.Layout.{Lengths}
use Rattle.code.specs.Edits.{applied, place_of, Fits}
use Rattle.code.specs.Reading.{Shift, moved, whole, separator_at, after_separator, check_agrees, link_of, taken, message, read_message, clean, settled, end_of}
use Rattle.code.specs.Strands.{Try, scan, Outcome, outcomes}
use Rattle.code.specs.declared.Edit.{Edit}
use Rattle.code.specs.declared.Edit.TheVariants.{None, Sub, Del, Ins}
use Rattle.code.specs.declared.Verdict.{Verdict}
use Rattle.code.specs.declared.Verdict.TheVariants.{Read, Unknown, Lost, NoStart}
use Rattle.lines.specs.Report.{reported, segment_line}

-- where a segment starts: whether it has a marker, the symbol f before it, and the received letters from its start P on
pub record Site : Type 0 where
  pub marked : Bool
  pub f : ℕ
  pub letters : List ℕ

-- the symbols from P on, and those from D on
abbrev pub symbols_at : Site → List ℕ
symbols_at p = as_symbols p.letters

abbrev pub data_of : Site → List ℕ
data_of p = drop (data_at p.marked) (symbols_at p)

-- steps 3 to 7 give the message m
abbrev pub Gives : Site → ℕ → List ℕ → Type 0
Gives p k m = read_message p.marked k (symbols_at p) ≡ message m

-- the segment written anew
abbrev pub anew : Site → List ℕ → List ℕ
anew p m = segment p.marked p.f m

-- e, its letter N taken as A, turns the segment w into the piece v
abbrev pub TurnsInto : List ℕ → List ℕ → Edit → Type 0
TurnsInto w v e = Fits letter_kinds e (length w) × (as_symbols (applied e w) ≡ as_symbols v)

-- a segment of length k that starts at p, with segments of the lengths ks behind it, and the steps that may lose it
module _ (p : Site) (k : ℕ) (ks : List ℕ) where
  -- step 3: the marker is hit, and no separator is found
  pub record Lost3 : Type 0 where
    pub hit : whole p.marked (symbols_at p) ≡ false
    pub no_separator : separator_at k (data_of p) ≡ none

  -- step 6: the marker is whole, no separator is found, and the check does not agree with the k symbols at D
  pub record Lost6 : Type 0 where
    pub whole_marker : whole p.marked (symbols_at p) ≡ true
    pub no_separator : separator_at k (data_of p) ≡ none
    pub disagrees : check_agrees k (data_of p) (take k (data_of p)) ≡ false

  -- no word with the written syndrome is linked to the received bits of layer b, the separator being moved by j
  abbrev pub NoWord : Shift → ℕ → Type 0
  NoWord j b = (w : Word) → Linked (link_of j) w (layer b (take (moved j k) (data_of p))) → syndrome w ≡ number (layer b (take (width k) (after_separator j k (data_of p)))) → ⊥

  -- step 7: the marker is whole and a separator is found, the k symbols at D are not taken as they stand (steps 4 and 5), and the written syndrome
  -- runs past the strand's end, or a layer has no word
  pub record Lost7 : Type 0 where
    pub whole_marker : whole p.marked (symbols_at p) ≡ true
    pub shift : Shift
    pub separator : separator_at k (data_of p) ≡ some shift
    pub not_taken : taken shift k (data_of p) (take k (data_of p)) ≡ false
    pub no_repair : (length (after_separator shift k (data_of p)) < width k) ⊎ (NoWord shift 1 ⊎ NoWord shift 0)

  -- step 8: the segment is not the last, no separator with the message's syndrome settles its end, and no clean segment starts at P + n + e
  pub record Lost8 : Type 0 where
    pub read : List ℕ
    pub gives : Gives p k read
    pub next : ℕ
    pub later : List ℕ
    pub not_last : ks ≡ next ∷ later
    pub unsettled : settled k (data_of p) read (separator_at k (data_of p)) ≡ false
    pub none_clean : (e : Shift) → clean next (last_of read) (drop (moved e (size p.marked k)) (symbols_at p)) (drop (moved e (size p.marked k)) p.letters) ≡ false

  -- step 9: the piece up to the end is more than one edit away from the segment written anew
  pub record Lost9 : Type 0 where
    pub read : List ℕ
    pub gives : Gives p k read
    pub end : ℕ
    pub ends : end_of p.marked k ks (symbols_at p) p.letters read ≡ some end
    pub too_far : (e : Edit) → TurnsInto (anew p read) (take end p.letters) e → ⊥

  -- the step's own words call the segment lost
  pub data Loses : ℕ → Type 0 where
    in_3 : Lost3 → Loses 3
    in_6 : Lost6 → Loses 6
    in_7 : Lost7 → Loses 7
    in_8 : Lost8 → Loses 8
    in_9 : Lost9 → Loses 9

  -- it is the first step that does
  pub record First (step : ℕ) : Type 0 where
    pub loses : Loses step
    pub none_earlier : (n : ℕ) → n < step → Loses n → ⊥

-- the letter of a substitution or an insertion is the one received in its place; that of a deletion is the written one
abbrev pub NamedLetter : List ℕ → List ℕ → Edit → Type 0
NamedLetter w v None = Unit {0}
NamedLetter w v (Sub i x) = (i < length v) × (x ≡ get_or v i 0)
NamedLetter w v (Del i x) = x ≡ get_or w i 0
NamedLetter w v (Ins i x) = (i < length v) × (x ≡ get_or v i 0)

-- the edit turns the segment w into the piece v, no edit with a smaller place does, and its letter is the right one
pub record Turns (w v : List ℕ) (e : Edit) : Type 0 where
  pub turns : TurnsInto w v e
  pub smallest : (d : Edit) → TurnsInto w v d → place_of e ≤ place_of d
  pub letter : NamedLetter w v e

-- what a verdict says of the piece of a segment, m being the message that was read
abbrev pub Says : Site → ℕ → List ℕ → List ℕ → List ℕ → Verdict → Type 0
Says p k ks piece m (Read None) = Gives p k m × (anew p m ≡ piece)
Says p k ks piece m (Read (Sub i x)) = Gives p k m × Turns (anew p m) piece (Sub i x)
Says p k ks piece m (Read (Del i x)) = Gives p k m × Turns (anew p m) piece (Del i x)
Says p k ks piece m (Read (Ins i x)) = Gives p k m × Turns (anew p m) piece (Ins i x)
Says p k ks piece m Unknown = Gives p k m × (anew p m ≡ as_symbols piece) × (has_unknown piece ≡ true)
Says p k ks piece m (Lost step) = First p k ks step
Says p k ks piece m NoStart = ⊥

-- what is reported of a segment that starts at p: its piece stands there; what is said is true; and clean is said of every piece that equals a segment,
-- unknown of every piece with an N that equals one
pub record TrueOf (p : Site) (k : ℕ) (ks : List ℕ) (o : Outcome) : Type 0 where
  pub stands : take (length o.piece) p.letters ≡ o.piece
  pub says : Says p k ks o.piece o.message (reported o)
  pub all_clean : (m : List ℕ) → length m ≡ k → Below 4 m → anew p m ≡ o.piece → reported o ≡ Read None
  pub all_unknown : (m : List ℕ) → length m ≡ k → Below 4 m → anew p m ≡ as_symbols o.piece → has_unknown o.piece ≡ true → reported o ≡ Unknown

-- a start o letters behind P
abbrev pub site_at : Site → ℕ → ℕ → Site
site_at p f o = record { marked = true; f = f; letters = drop o p.letters }

-- where reading goes on: so many segments are passed and the next one starts at a site, or nowhere
pub data Onward : Type 0 where
  at : ℕ → Site → Onward
  nowhere : Onward

-- where a scan found a segment, f being the received symbol before it
abbrev pub onward_found : Site → Option Try → Onward
onward_found p (some t) = at t.passed (site_at p (get_or (symbols_at p) (t.start - 1) 0) t.start)
onward_found p none = nowhere

-- where reading goes on: at the end of a piece that was read, f being the last symbol of its message's segment; behind a lost one where the scan of
-- step 10 found a segment; else nowhere
abbrev pub onward_behind : Site → ℕ → List ℕ → Outcome → Verdict → Onward
onward_behind p k ks o (Read e) = at 0 (site_at p (last_of o.message) (length o.piece))
onward_behind p k ks o Unknown = at 0 (site_at p (last_of o.message) (length o.piece))
onward_behind p k ks o (Lost step) = onward_found p (scan (size p.marked k) ks (symbols_at p) p.letters)
onward_behind p k ks o NoStart = nowhere

-- what is reported of the segments of a layout is true, reading going on at a site or nowhere; `lost start` is said exactly of those that are passed
-- or for which no start was found
abbrev pub TrueFrom : Onward → List ℕ → List Outcome → Type 0
TrueFrom x [] [] = Unit {0}
TrueFrom x [] (o ∷ os) = ⊥
TrueFrom x (k ∷ ks) [] = ⊥
TrueFrom (at zero p) (k ∷ ks) (o ∷ os) = TrueOf p k ks o × TrueFrom (onward_behind p k ks o o.verdict) ks os
TrueFrom (at (suc n) p) (k ∷ ks) (o ∷ os) = (reported o ≡ NoStart) × (o.piece ≡ []) × TrueFrom (at n p) ks os
TrueFrom nowhere (k ∷ ks) (o ∷ os) = (reported o ≡ NoStart) × (o.piece ≡ []) × TrueFrom nowhere ks os

-- for every layout and all received letters: every line is true
abbrev pub TrueLines : Type 0
TrueLines =
    (most : ℕ) (ks letters : List ℕ) → Lengths most ks → Below letter_kinds letters
    → TrueFrom (at 0 (record { marked = false; f = 0; letters = letters })) ks (outcomes ks letters)

-- the letter of an edit is one
abbrev pub Lettered : Verdict → Type 0
Lettered (Read None) = Unit {0}
Lettered (Read (Sub i x)) = x < letter_kinds
Lettered (Read (Del i x)) = x < letter_kinds
Lettered (Read (Ins i x)) = x < letter_kinds
Lettered Unknown = Unit {0}
Lettered (Lost step) = Unit {0}
Lettered NoStart = Unit {0}

-- for all numbers, places, letters and steps: equal lines have one number and one verdict
abbrev pub ApartLines : Type 0
ApartLines = (n m : ℕ) (v w : Verdict) → Lettered v → Lettered w → segment_line n v ≡ segment_line m w → (n ≡ m) × (v ≡ w)
