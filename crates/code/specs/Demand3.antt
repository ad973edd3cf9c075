-- Demand 3, in one page. A message is symbols cut into segments by a layout: a list of lengths, each 2 or more, equal or not. Its written
-- strand is `strand (cut ks x)` (Layout.antt). A strand s keeps the one-edit conditions for it if `OneEdit (cut ks x) s` (Conditions.antt). It
-- is read by the reading steps as `outcomes ks s` (Reading.antt, Strands.antt). The statements are proved in proofs/laws/Demand3.antt, each under its name
-- in small letters.
--   Message        symbols that a layout cuts into messages
--   Regains        what reading a strand has to give
--   Demand3        a strand that keeps the conditions is read whole
--   OneMessage     two messages of one layout that share such a strand are equal
--   Demand3Bytes   the bytes of such a strand come back
use Rattle.std.specs.Prelude.{◌≡◌, List, ℕ, ◌+◌, length}
use Rattle.code.specs.Symbols.{Below, symbols, bytes}
use Rattle.code.specs.Layout.{sum, cut, Lengths}
use Rattle.code.specs.Conditions.{OneEdit}
use Rattle.code.specs.Strands.{outcomes, messages_of, verdicts_of}
use Rattle.code.specs.Sheet.{marks_of, count_of}

-- x is a message on the layout ks: symbols, as many as its lengths hold, each length 2 or more and at most `most`
pub record Message (most : ℕ) (ks x : List ℕ) : Type 0 where
  pub lengths : Lengths most ks
  pub symbols : Below 4 x
  pub size : length x ≡ sum ks

-- the reading gives exactly the message x, no segment is lost, and clean and corrected ones are all segments
pub record Regains (ks x s : List ℕ) : Type 0 where
  pub message : messages_of (outcomes ks s) ≡ x
  pub none_lost : count_of 2 (marks_of (verdicts_of (outcomes ks s))) ≡ 0
  pub all_found : count_of 0 (marks_of (verdicts_of (outcomes ks s))) + count_of 1 (marks_of (verdicts_of (outcomes ks s))) ≡ length ks

-- for every layout, every message and every strand: what keeps the one-edit conditions is read whole
abbrev pub Demand3 : Type 0
Demand3 = (most : ℕ) (ks x s : List ℕ) → Message most ks x → OneEdit (cut ks x) s → Regains ks x s

-- two messages of one layout that share a strand that keeps the conditions are equal
abbrev pub OneMessage : Type 0
OneMessage =
    (most : ℕ) (ks x y s : List ℕ) → Message most ks x → Message most ks y → OneEdit (cut ks x) s → OneEdit (cut ks y) s → x ≡ y

-- in bytes: B bytes on a layout of 4B symbols come back
abbrev pub Demand3Bytes : Type 0
Demand3Bytes =
    (most : ℕ) (ks bs s : List ℕ) → Below 256 bs → Message most ks (symbols bs) → OneEdit (cut ks (symbols bs)) s
    → bytes (messages_of (outcomes ks s)) ≡ bs
