-- A record that is written is one of exactly the entries of its notes: whatever it is read as is these.
use Rattle.std.proofs.Common.{◌≡◌, ◌==◌, ℕ, true, List, [], ◌∷◌, ◌++◌, refl, sym, ap, subst, arith}
use Rattle.std.specs.Prelude.{All, flat_map, map, get_or}
use Rattle.std.proofs.lemmas.List.{append_cancel_left}
use Rattle.std.proofs.lemmas.List.Quantifiers.{position-Some}
use Rattle.std.proofs.lemmas.List.Elements.{All-head, All-tail}
use Rattle.answer_notes.specs.declared.noted.Noted.{Noted}
use Rattle.site_records.specs.declared.version.Version.{Version}
use Rattle.site_records.specs.declared.version.Version.TheVariants.{First, Second}
use Rattle.site_records.specs.Entries.{Entry, IsEntry}
use Rattle.site_records.specs.Records.{version_line, IsFront, none, next, IsRecord}
use Rattle.site_records.specs.WrittenEntries.{note_text, note_entry, has_short_heads, IsNote}
use Rattle.site_records.specs.WrittenRecords.{written_notes, record_text, record_entries}
use Rattle.site_records.proofs.WrittenEntryLaws.{note_is_one}
use Rattle.site_records.proofs.WrittenRecordLaws.{AreShort, written_short}
use Rattle.html_links.specs.declared.rules.LinkRules.{LinkRules}

-- the text is these entries one after another, and then a rest
abbrev EntriesRun : Version → LinkRules → List ℕ → List Entry → List ℕ → Type 0
EntriesRun version links text [] after = after ≡ text
EntriesRun version links text (e ∷ said) after = (rest : List ℕ) × IsEntry version links text e rest × EntriesRun version links rest said after

entries_run_push : (version : Version) (links : LinkRules) (text : List ℕ) (said : List Entry) (rest : List ℕ) (e : Entry) (after : List ℕ) → EntriesRun version links text said rest
    → IsEntry version links rest e after → EntriesRun version links text (said ++ e ∷ []) after
entries_run_push version links text [] rest e after run is = (after, subst (λ t. IsEntry version links t e after) run is, refl)
entries_run_push version links text (f ∷ said) rest e after (left, first, run) is = (left, first, entries_run_push version links left said rest e after run is)

entries_run : (version : Version) (links : LinkRules) (text : List ℕ) (said : List Entry) (after : List ℕ) → IsFront version links text said after → EntriesRun version links text said after
entries_run version links text said after none = refl
entries_run version links text said after (next before rest e last front is fresh) =
    entries_run_push version links text before rest e last (entries_run version links text before rest front) is

no_entry : (version : Version) (links : LinkRules) (e : Entry) (after : List ℕ) → ¬ IsEntry version links [] e after
no_entry version links e after is =
    let within = (position-Some (λ b. b == 10) [] is.is_line.place 0 is.is_line.first).0 in
    absurd (omega (arith, within))

-- what is written of notes are their entries and no others
only_entries : (links : LinkRules) (notes : List Noted) (said : List Entry) → All IsNote notes → AreShort notes → EntriesRun Second links (flat_map note_text notes) said []
    → said ≡ map (note_entry links) notes
only_entries links [] [] are short run = refl
only_entries links [] (e ∷ said) are short (rest, is, run) = absurd (no_entry Second links e rest is)
only_entries links (n ∷ notes) [] are short run =
    let is = (note_is_one links n (flat_map note_text notes) (All-head IsNote n notes are) (All-head (λ n. has_short_heads n ≡ true) n notes short)).0 in
    absurd (no_entry Second links (note_entry links n) (flat_map note_text notes) (subst (λ t. IsEntry Second links t (note_entry links n) (flat_map note_text notes)) (sym run) is))
only_entries links (n ∷ notes) (e ∷ said) are short (rest, is, run) =
    let one = note_is_one links n (flat_map note_text notes) (All-head IsNote n notes are) (All-head (λ n. has_short_heads n ≡ true) n notes short) in
    let (same, rests) = one.1 e rest is in
    let more = only_entries links notes said (All-tail IsNote n notes are) (All-tail (λ n. has_short_heads n ≡ true) n notes short)
    (subst (λ t. EntriesRun Second links t said []) rests run) in
    λ i. same i ∷ more i

-- it isn't of the first version
other_version : (behind text : List ℕ) → version_line Second ++ behind ≡ version_line First ++ text → ⊥
other_version behind text e =
    let digit : 50 ≡ 49 = ap (λ l. get_or l 13 0) e in
    omega (arith, digit)

-- a record that is written is one of these entries alone, with or without robots rules
pub written_record_is_one : (links : LinkRules) (notes : List Noted) (said : List Entry) → All IsNote (written_notes notes) → IsRecord links (record_text notes) said → said ≡ record_entries links notes
written_record_is_one links notes said are is = by is.version is.text is.begins is.all
  where
    by : (version : Version) (text : List ℕ) → record_text notes ≡ version_line version ++ text → IsFront version links text said [] → said ≡ record_entries links notes
    by First text e front = absurd (other_version (flat_map note_text (written_notes notes)) text e)
    by Second text e front =
        let same = append_cancel_left (version_line Second) (flat_map note_text (written_notes notes)) text e in
        only_entries links (written_notes notes) said are (written_short notes)
        (entries_run Second links (flat_map note_text (written_notes notes)) said [] (subst (λ t. IsFront Second links t said []) (sym same) front))
