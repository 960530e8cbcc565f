-- How what was noted is written as an entry of a record of version 2, and which entry that is.
use Rattle.std.specs.Prelude.{ℕ, nat_le, Bool, List, [], ◌∷◌, ◌++◌, All, length, flat_map, decimal, codes, if◌then◌else◌}
use Rattle.std.specs.List.{list_all}
use Rattle.address.specs.Address.{AddressText, OriginText, IsAddress, IsOrigin}
use Rattle.fetcher.specs.declared.fault_kind.FaultKind.{FaultKind}
use Rattle.fetcher.specs.FaultWords.{word_of}
use Rattle.response_reader.specs.declared.limits.TheConstants.{MAX_HEADS}
use Rattle.response_reader.specs.Response.{CanBeGiven}
use Rattle.response_reader.specs.Written.{head_text, response_text}
use Rattle.answer_notes.specs.Received.{received_outcome, received_body}
use Rattle.answer_notes.specs.HopChains.{HopValue, IsAdmitted}
use Rattle.answer_notes.specs.declared.received.Received.{Received}
use Rattle.answer_notes.specs.declared.received.Received.TheVariants.{Whole, Fault}
use Rattle.answer_notes.specs.declared.noted.Noted.{Noted}
use Rattle.answer_notes.specs.declared.noted.Noted.TheVariants.{Page, Chain}
use Rattle.site_records.specs.Entries.{Entry, answered, chained}
use Rattle.html_links.specs.declared.rules.LinkRules.{LinkRules}

-- a line of three fields
abbrev pub line_of_three : List ℕ → List ℕ → List ℕ → List ℕ
line_of_three a b c = a ++ (32 ∷ (b ++ (32 ∷ c)))

-- a line with bytes after it
abbrev pub counted_entry : List ℕ → AddressText → List ℕ → List ℕ
counted_entry word at bytes = line_of_three word at (decimal (length bytes)) ++ (10 ∷ (bytes ++ (10 ∷ [])))

-- a line alone
abbrev pub worded_entry : List ℕ → FaultKind → AddressText → List ℕ
worded_entry word kind at = line_of_three word (word_of kind) at ++ (10 ∷ [])

-- the line of a chain: the root of its origin, and how many hops follow
abbrev pub chain_line : OriginText → ℕ → List ℕ
chain_line of n = line_of_three (codes "chain") (of ++ codes "/") (decimal n) ++ (10 ∷ [])

-- ---- what was received for an address

-- the head that is written of it: that of a response
abbrev pub received_head : Received → List ℕ
received_head (Whole r) = head_text r
received_head (Fault kind) = []

-- it can be read again: its head is as short as heads may be
abbrev pub is_short : Received → Bool
is_short received = nat_le (length (received_head received)) MAX_HEADS

-- its text, under the word of a response or that of a fault
abbrev pub received_text : List ℕ → List ℕ → AddressText → Received → List ℕ
received_text word fault_word at (Whole r) = counted_entry word at (response_text r)
received_text word fault_word at (Fault kind) = worded_entry fault_word kind at

-- the text of a hop
abbrev pub hop_entry : HopValue → List ℕ
hop_entry h = received_text (codes "hop") (codes "hopfault") h.0 h.1

-- ---- what was noted

-- the text of a note
abbrev pub note_text : Noted → List ℕ
note_text (Page at received) = received_text (codes "page") (codes "fault") at received
note_text (Chain c) = chain_line c.of (length c.hops) ++ flat_map hop_entry c.hops

-- each head of it is short enough to be read again
abbrev pub has_short_heads : Noted → Bool
has_short_heads (Page at received) = is_short received
has_short_heads (Chain c) = list_all (λ (h : HopValue). is_short h.1) c.hops

-- the text of a note, which is left out if a head of it is too long
abbrev pub written_note : Noted → List ℕ
written_note note = if has_short_heads note then note_text note else []

-- the entry that a note is
abbrev pub note_entry : LinkRules → Noted → Entry
note_entry links (Page at received) = answered at (record { outcome = received_outcome links at received; body = received_body received })
note_entry links (Chain c) = chained c.of c.hops

-- ---- what notes are made of

-- an address, and a response that some bytes give or a fault
abbrev pub IsReceivedFor : AddressText → Received → Type 0
IsReceivedFor at (Whole r) = IsAddress at × CanBeGiven r
IsReceivedFor at (Fault kind) = IsAddress at

-- a note of an address, or of an origin with a chain that leads from its robots file
abbrev pub IsNote : Noted → Type 0
IsNote (Page at received) = IsReceivedFor at received
IsNote (Chain c) = IsOrigin c.of × IsAdmitted c.of c.hops × All (λ (h : HopValue). IsReceivedFor h.0 h.1) c.hops
