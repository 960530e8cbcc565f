-- The report: a line for each address, in the order of their texts, and the counts.
use Rattle.std.specs.Prelude.{ℕ, Bool, true, false, List, ◌++◌, AllPairs, Option, Some, None, is_some, codes, count_by, nat_le}
use Rattle.std.specs.Fmt.{decimal}
use Rattle.std.specs.List.{flat_map}
use Rattle.address.specs.AddressOrder.{IsBefore}
use Rattle.fetcher.specs.FaultWords.{word_of}
use Rattle.fetcher.specs.declared.outcome.Outcome.{Outcome}
use Rattle.fetcher.specs.declared.outcome.Outcome.TheVariants.{Page, Moved, Leaf, Fault}

-- what became of a candidate: it was requested, with this outcome, or its origin's robots rules refuse it
-- (RFC 9309, section 2.2.2)
pub data Fate : Type 0 where
  Asked : Outcome → Fate
  Refused : Fate

-- what a report says of one address: its depth, what became of it, and the name of its file, if its page is kept
pub record Line : Type 0 where
  pub address : List ℕ
  pub depth : ℕ
  pub fate : Fate
  pub name : Option (List ℕ)

-- the word of an outcome: its status, or the word of its fault
abbrev pub outcome_word : Outcome → List ℕ
outcome_word (Page status edges) = decimal status
outcome_word (Moved status target) = decimal status
outcome_word (Leaf status) = decimal status
outcome_word (Fault kind) = word_of kind

-- a fault, or a status of 400 or more (RFC 9110, sections 15.5 and 15.6)
abbrev pub is_failed : Outcome → Bool
is_failed (Page status edges) = nat_le 400 status
is_failed (Moved status target) = nat_le 400 status
is_failed (Leaf status) = nat_le 400 status
is_failed (Fault kind) = true

-- the word of a fate
abbrev pub fate_word : Fate → List ℕ
fate_word (Asked x) = outcome_word x
fate_word Refused = codes "rob"

-- it was requested
abbrev pub was_asked : Fate → Bool
was_asked (Asked x) = true
was_asked Refused = false

-- robots rules refuse it
abbrev pub was_refused : Fate → Bool
was_refused (Asked x) = false
was_refused Refused = true

-- it was requested, and failed
abbrev pub has_failed : Fate → Bool
has_failed (Asked x) = is_failed x
has_failed Refused = false

-- the name, `-` if the page isn't kept
abbrev pub name_text : Option (List ℕ) → List ℕ
name_text (Some name) = name
name_text None = codes "-"

-- depth, word, address and name
abbrev pub line_text : Line → List ℕ
line_text line =
    decimal line.depth ++ codes " " ++ fate_word line.fate ++ codes " " ++ line.address ++ codes " " ++ name_text line.name ++ codes "\n"

-- how many of the fates are such
abbrev pub count_of : (Fate → Bool) → List Line → ℕ
count_of is_such lines = count_by (λ line. is_such line.fate) lines

-- its page is kept
abbrev pub is_kept : Line → Bool
is_kept line = is_some line.name

-- how many of the pages are kept
abbrev pub count_kept : List Line → ℕ
count_kept lines = count_by is_kept lines

-- how many were requested, kept, refused by robots rules, and failed
abbrev pub counts_text : ℕ → ℕ → ℕ → ℕ → List ℕ
counts_text asked kept refused failed =
    codes "fetched " ++ decimal asked ++ codes " kept " ++ decimal kept ++ codes " refused " ++ decimal refused ++ codes " failed " ++ decimal failed ++ codes "\n"

-- the lines and the counts
abbrev pub report_text : List Line → List ℕ
report_text lines =
    flat_map line_text lines ++ counts_text (count_of was_asked lines) (count_kept lines) (count_of was_refused lines) (count_of has_failed lines)

-- each address is before every later one, by their bytes
abbrev pub AreAscending : List Line → Type 0
AreAscending lines = AllPairs (λ line later. IsBefore line.address later.address) lines
