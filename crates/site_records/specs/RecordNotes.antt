-- Notes of a record that is read: they say exactly what its entries state.
use Rattle.std.specs.Prelude.{◌≡◌, Bool, true, false, List, [], map}
use Rattle.answer_notes.specs.declared.noted.Noted.{Noted}
use Rattle.site_records.specs.Entries.{Entry}
use Rattle.site_records.specs.Received.{stating}
use Rattle.site_records.specs.Records.{answers_of, rules_of}
use Rattle.site_records.specs.WrittenEntries.{note_entry}
use Rattle.html_links.specs.declared.rules.LinkRules.{LinkRules}

-- the entries that notes are written as state the same answers and the same rule sets, entry by entry, and the same of them failed
pub record SayJust (links : LinkRules) (notes : List Noted) (said : List Entry) : Type 0 where
  pub answers : answers_of (map (note_entry links) notes) ≡ answers_of said
  pub rules : rules_of (map (note_entry links) notes) ≡ rules_of said
  pub each : map stating (map (note_entry links) notes) ≡ map stating said

-- if notes are kept they say exactly this, else there are none
abbrev pub HasNotes : Bool → LinkRules → List Noted → List Entry → Type 0
HasNotes true links notes said = SayJust links notes said
HasNotes false links notes said = notes ≡ []
