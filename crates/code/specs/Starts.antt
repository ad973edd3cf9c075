-- How many starts the scans of a reading try, in one page. What a scan tries is `tries` (Strands.antt). The statements are proved in
-- proofs/laws/Starts.antt, each under its name in small letters.
--   up_to_standing   what is tried of a list
--   tried_behind     what is tried behind a segment
--   tried_by         the same of each segment of a reading
--   starts_tried     how many starts a reading tries
--   most_starts      the most that a reading on a layout tries
--   GoneThrough      one start after the other is tried, until one stands
--   SameStarts       what is counted behind a lost segment and how its reading goes on are of one list
--   AtMost           no strand makes a reading try more
--   EmptyTries       the empty strand makes it try as many
--   InNumbers        how many these are
--   NoneTried        a strand that keeps the one-edit conditions makes it try none
use Rattle.std.specs.Prelude.{◌≡◌, Bool, true, false, cond, List, [], ◌∷◌, ◌++◌, map, ℕ, ◌+◌, ◌-◌, ◌*◌, ◌≤◌, eqb, length, get_or, drop}
use Rattle.std.proofs.Math.Option.{Option, some, none}
use Rattle.code.specs.Symbols.{as_symbols}
use Rattle.code.specs.Segment.{size}
use Rattle.code.specs.Layout.{sum, cut, Lengths}
use Rattle.code.specs.Conditions.{OneEdit}
use Rattle.code.specs.Strands.{Try, tries, stands, Outcome, lost_outcome, lost_and_rest, scan, reading, outcomes}
use Rattle.code.specs.Demand3.{Message}
use Rattle.code.specs.LaterSegments.{LostAt, place_behind, marked_behind}
use Rattle.code.specs.declared.Verdict.{Verdict}
use Rattle.code.specs.declared.Verdict.TheVariants.{Read, Unknown, Lost, NoStart}

-- What is counted

-- what is tried of a list: all up to the first that stands, and that one too
unfoldable pub up_to_standing : List ℕ → List ℕ → List Try → List Try
up_to_standing s letters [] = []
up_to_standing s letters (t ∷ ts) = t ∷ cond (stands s letters t) [] (up_to_standing s letters ts)

-- what is tried behind a segment of length n, by what is said of it: a scan begins where a step loses it, at its start, where letters begin; ks are
-- the lengths behind it
abbrev pub tried_behind : Verdict → ℕ → List ℕ → List ℕ → List Try
tried_behind (Read e) n ks letters = []
tried_behind Unknown n ks letters = []
tried_behind (Lost step) n ks letters = up_to_standing (as_symbols letters) letters (tries 0 n ks)
tried_behind NoStart n ks letters = []

-- what is tried behind each segment, by the outcomes of a reading; a segment starts where the piece before it ends
unfoldable pub tried_by : List Outcome → Bool → List ℕ → List ℕ → List (List Try)
tried_by [] marked ks letters = []
tried_by (o ∷ os) marked [] letters = []
tried_by (o ∷ os) marked (k ∷ ks) letters = tried_behind o.verdict (size marked k) ks letters ∷ tried_by os true ks (drop (length o.piece) letters)

-- what is tried behind each segment when the letters of a strand are read
abbrev pub tried : List ℕ → List ℕ → List (List Try)
tried ks letters = tried_by (outcomes ks letters) false ks letters

-- how many starts that reading tries in its scans
abbrev pub starts_tried : List ℕ → List ℕ → ℕ
starts_tried ks letters = sum (map length (tried ks letters))

-- the most starts that a reading on a layout tries: all that a scan behind the first segment goes through
unfoldable pub most_starts : List ℕ → ℕ
most_starts [] = 0
most_starts (k ∷ ks) = length (tries 0 (size false k) ks)

-- Both of one list

-- of a list one start after the other is tried, until one stands: which are tried, and what is found
pub data GoneThrough (s letters : List ℕ) : List Try → List Try → Option Try → Type 0 where
  end : GoneThrough s letters [] [] none
  found : (t : Try) (ts : List Try) → stands s letters t ≡ true → GoneThrough s letters (t ∷ ts) (t ∷ []) (some t)
  on : (t : Try) {ts us : List Try} {x : Option Try} → stands s letters t ≡ false → GoneThrough s letters ts us x
      → GoneThrough s letters (t ∷ ts) (t ∷ us) x

-- for every layout, all letters and every segment that a step loses, P being its start: of the starts of step 10, those that are gone through are
-- the ones that are counted behind it, and what is found there is where the reading goes on
abbrev pub SameStarts : Type 0
SameStarts =
    (before : List ℕ) (k : ℕ) (behind letters : List ℕ) (lost : LostAt before k behind letters)
    → let L = drop (place_behind lost.earlier) letters in
    let s = as_symbols L in
    let n = size (marked_behind before) k in
    GoneThrough s L (tries 0 n behind) (get_or (tried (before ++ k ∷ behind) letters) (length before) []) (scan n behind s L)
    × (lost_outcome lost.piece k (Lost lost.step) ∷ lost.later
    ≡ lost_and_rest k behind s L lost.step (λ i g o. reading scan i true g behind (drop o s) (drop o L)) (scan n behind s L))

-- The most

-- for every layout: no letters make a reading try more
abbrev pub AtMost : Type 0
AtMost = (most : ℕ) (ks letters : List ℕ) → Lengths most ks → starts_tried ks letters ≤ most_starts ks

-- the empty strand makes it try as many
abbrev pub EmptyTries : Type 0
EmptyTries = (ks : List ℕ) → starts_tried ks [] ≡ most_starts ks

-- the starts of a first window that are not above P: one, where the first of several segments has the length 2 and so 8 letters
abbrev pub not_above : List ℕ → ℕ
not_above [] = 0
not_above (k ∷ []) = 0
not_above (k ∷ j ∷ ks) = cond (eqb k 2) 1 0

-- for every layout of l lengths: 8l(l − 1) + (l − 1), less such a start
abbrev pub InNumbers : Type 0
InNumbers =
    (most : ℕ) (ks : List ℕ) → Lengths most ks
    → most_starts ks ≡ 8 * length ks * (length ks - 1) + (length ks - 1) - not_above ks

-- what keeps the one-edit conditions makes a reading try none
abbrev pub NoneTried : Type 0
NoneTried = (most : ℕ) (ks x s : List ℕ) → Message most ks x → OneEdit (cut ks x) s → starts_tried ks s ≡ 0
