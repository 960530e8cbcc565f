-- Which notes a record of version 2 is written of, and its text.
use Rattle.std.specs.Prelude.{ℕ, Bool, false, List, [], ◌∷◌, ◌++◌, map, filter, flat_map, bytes_eq, if◌then◌else◌}
use Rattle.std.specs.Borrow.{Bor}
use Rattle.std.specs.List.{list_any}
use Rattle.address.specs.Address.{AddressText, OriginText}
use Rattle.answer_notes.specs.declared.noted.Noted.{Noted}
use Rattle.answer_notes.specs.declared.noted.Noted.TheVariants.{Page, Chain}
use Rattle.site_records.specs.declared.version.Version.TheVariants.{Second}
use Rattle.site_records.specs.Entries.{Entry}
use Rattle.site_records.specs.Records.{version_line}
use Rattle.site_records.specs.WrittenEntries.{note_text, has_short_heads, note_entry}
use Rattle.html_links.specs.declared.rules.LinkRules.{LinkRules}

-- the note is of this address
abbrev pub is_page_of : AddressText → Noted → Bool
is_page_of at (Page other received) = bytes_eq other at
is_page_of at (Chain c) = false

-- the note is of this origin
abbrev pub is_chain_of : OriginText → Noted → Bool
is_chain_of of (Page at received) = false
is_chain_of of (Chain c) = bytes_eq c.of of

-- a note above is of the same address, or of the same origin
abbrev pub is_repeated : List Noted → Noted → Bool
is_repeated above (Page at received) = list_any (is_page_of at) above
is_repeated above (Chain c) = list_any (is_chain_of c.of) above

-- those notes that none before them repeat, after others
abbrev pub firsts_behind : List Noted → List Noted → List Noted
firsts_behind above [] = []
firsts_behind above (note ∷ notes) = (if is_repeated above note then [] else note ∷ []) ++ firsts_behind (above ++ note ∷ []) notes

-- the notes of which a record is written: of several of one address, or of one origin, the first, unless a head of it is too long
abbrev pub written_notes : List Noted → List Noted
written_notes notes = filter has_short_heads (firsts_behind [] notes)

-- the text of a record of version 2
abbrev pub record_text : List Noted → List ℕ
record_text notes = version_line Second ++ flat_map note_text (written_notes notes)

-- the entries that it is read as
abbrev pub record_entries : LinkRules → List Noted → List Entry
record_entries links notes = map (note_entry links) (written_notes notes)

-- notes in several parts, in their order
abbrev pub all_noted : List (Bor (List Noted)) → List Noted
all_noted parts = flat_map (λ (part : Bor (List Noted)). part.now) parts
