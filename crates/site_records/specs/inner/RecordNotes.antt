-- What proofs alone need beside `RecordNotes`.
use Rattle.std.specs.Prelude.{◌≡◌, Bool, true, false, List, [], ◌∷◌, ◌++◌}
use Rattle.answer_notes.specs.declared.noted.Noted.{Noted}
use Rattle.answer_notes.specs.declared.noted.Noted.TheVariants.{Page, Chain}
use Rattle.site_records.specs.Entries.{Entry}
use Rattle.site_records.specs.Received.{is_lost, has_lost}
use Rattle.site_records.specs.RecordNotes.{SayJust}
use Rattle.html_links.specs.declared.rules.LinkRules.{LinkRules}

-- if notes are kept, one that says exactly this is after the others, else nothing is added
abbrev pub AddsNote : Bool → LinkRules → List Noted → Entry → List Noted → Type 0
AddsNote true links old e new = (note : Noted) × (new ≡ old ++ note ∷ []) × SayJust links (note ∷ []) (e ∷ [])
AddsNote false links old e new = new ≡ old

-- the note is of no response
abbrev pub is_failure : Noted → Bool
is_failure (Page at received) = is_lost received
is_failure (Chain c) = has_lost c.hops
