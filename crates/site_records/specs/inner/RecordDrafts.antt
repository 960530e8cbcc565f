-- A record in the making: the notes that are in it so far.
use Rattle.std.specs.Prelude.{◌≡◌, ℕ, List, All}
use Rattle.std.specs.Borrow.{Bor}
use Rattle.std.specs.List.{list_any}
use Rattle.std.specs.Str.{bytes_eq}
use Rattle.answer_notes.specs.declared.noted.Noted.{Noted}
use Rattle.site_records.specs.declared.written_record.SeenNames.{SeenNames}
use Rattle.site_records.specs.WrittenEntries.{IsNote}
use Rattle.site_records.specs.WrittenRecords.{is_page_of, is_chain_of, written_notes, record_text}

-- these are the addresses and the origins of the notes
pub record AreDraftsNamed (named : SeenNames) (notes : List Noted) : Type 0 where
  pub pages : (at : Bor (List ℕ)) → list_any (λ (k : Bor (List ℕ)). bytes_eq at.now k.now) named.addresses.keys ≡ list_any (is_page_of at.now) notes
  pub chains : (of : Bor (List ℕ)) → list_any (λ (k : Bor (List ℕ)). bytes_eq of.now k.now) named.origins.keys ≡ list_any (is_chain_of of.now) notes

-- the text is the record of the notes, whose addresses and origins these are
pub record IsDraft (text : List ℕ) (named : SeenNames) (notes : List Noted) : Type 0 where
  pub text_is : text ≡ record_text notes
  pub named_are : AreDraftsNamed named notes
  pub notes_are : All IsNote (written_notes notes)
