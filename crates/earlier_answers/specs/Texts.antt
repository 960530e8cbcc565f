-- Which answers have no file, and the texts that are left of them.
use Rattle.std.specs.Prelude.{◌^◌, ◌<◌, ◌++◌, ⊤, ℕ, Bool, false, true, not, nat_le, List, Option, Some, None, All, codes, decimal, length, if◌then◌else◌}
use Rattle.std.specs.List.{list_all}
use Rattle.address.specs.Address.{AddressText, IsAddress}
use Rattle.fetcher.specs.Statuses.{is_successful}
use Rattle.fetcher.specs.declared.outcome.Outcome.{Outcome}
use Rattle.fetcher.specs.declared.outcome.Outcome.TheVariants.{Page, Moved, Leaf, Fault}
use Rattle.response_reader.specs.declared.limits.TheConstants.{MAX_HEADS}
use Rattle.response_reader.specs.Response.{CanBeGiven}
use Rattle.response_reader.specs.Written.{head_text}
use Rattle.answer_notes.specs.HopChains.{ChainValue, HopValue}
use Rattle.answer_notes.specs.declared.noted.Noted.TheVariants.{Chain}
use Rattle.answer_notes.specs.declared.received.Received.{Received}
use Rattle.answer_notes.specs.declared.received.Received.TheVariants as received
use Rattle.site_records.specs.WrittenEntries.{line_of_three, note_text}

abbrev pub Text : Type 0
Text = List ℕ

-- ---- of an address

-- the answer has no file: it is a redirect, or leads nowhere and isn't successful
abbrev pub has_no_file : Outcome → Bool
has_no_file (Page status edges) = false
has_no_file (Moved status target) = true
has_no_file (Leaf status) = not (is_successful status)
has_no_file (Fault kind) = false

-- the text of an answer that has no file
abbrev pub answer_text : AddressText → Outcome → Option Text
answer_text at (Page status edges) = None
answer_text at (Moved status target) = Some (codes "moved " ++ line_of_three (decimal status) at target)
answer_text at (Leaf status) = if is_successful status then None else Some (line_of_three (codes "leaf") (decimal status) at)
answer_text at (Fault kind) = None

-- a status and an address such as the code has them
abbrev pub IsOutcome : Outcome → Type 0
IsOutcome (Page status edges) = ⊤
IsOutcome (Moved status target) = (status < 2 ^ 16) × IsAddress target
IsOutcome (Leaf status) = status < 2 ^ 16
IsOutcome (Fault kind) = ⊤

-- ---- of an origin's robots file

-- a response was received whose head is short enough to be read again
abbrev pub is_readable : Received → Bool
is_readable (received.Whole r) = nat_le (length (head_text r)) MAX_HEADS
is_readable (received.Fault kind) = false

-- so it is for each hop
abbrev pub are_readable : List HopValue → Bool
are_readable hops = list_all (λ (h : HopValue). is_readable h.1) hops

-- the text of a chain of responses: its entry in a record (docs/RECORDS.md)
abbrev pub chain_text : ChainValue → Option Text
chain_text c = if are_readable c.hops then Some (note_text (Chain c)) else None

-- a response that some bytes give
abbrev pub IsWhole : Received → Type 0
IsWhole (received.Whole r) = CanBeGiven r
IsWhole (received.Fault kind) = ⊥

-- a response was received for each hop
abbrev pub AreWhole : List HopValue → Type 0
AreWhole hops = All (λ (h : HopValue). IsWhole h.1) hops
