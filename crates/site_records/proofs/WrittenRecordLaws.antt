-- A record that is written is read again as exactly the notes it is written of, and so is a front of it that ends after some of them.
use Rattle.std.proofs.Common.{◌≡◌, ℕ, ◌++◌, ◌∙◌, Bool, true, false, ◌||◌, cond, List, [], ◌∷◌, None, refl, sym, subst, append_assoc, append-nil}
use Rattle.std.specs.Prelude.{All, filter, flat_map, map}
use Rattle.std.specs.List.{list_any}
use Rattle.std.specs.Map.{lookup}
use Rattle.std.specs.Str.{bytes_eq}
use Rattle.std.proofs.lemmas.Bool.{or_from, or_parts}
use Rattle.std.proofs.lemmas.List.{map-append}
use Rattle.std.proofs.lemmas.List.Elements.{All-head, All-tail, filter_passes}
use Rattle.std.proofs.lemmas.List.Folds.{list_any-append}
use Rattle.std.proofs.lemmas.Slice.Eq.{bytes_eq-Decides}
use Rattle.address.specs.Address.{AddressText, OriginText}
use Rattle.answer_notes.specs.declared.noted.Noted.{Noted}
use Rattle.answer_notes.specs.declared.noted.Noted.TheVariants.{Page, Chain}
use Rattle.site_records.specs.declared.version.Version.TheVariants.{Second}
use Rattle.site_records.specs.Entries.{IsNew}
use Rattle.site_records.specs.Records.{answers_of, rules_of, IsFront, none, next, IsRecord}
use Rattle.site_records.specs.WrittenEntries.{note_text, note_entry, has_short_heads, IsNote}
use Rattle.site_records.specs.WrittenRecords.{is_page_of, is_chain_of, is_repeated, firsts_behind, written_notes, record_text, record_entries}
use Rattle.site_records.proofs.WrittenEntryLaws.{note_is_entry}
use Rattle.html_links.specs.declared.rules.LinkRules.{LinkRules}

-- ---- what is repeated

repeated_push : (above : List Noted) (n x : Noted) → is_repeated (above ++ n ∷ []) x ≡ (is_repeated above x || is_repeated (n ∷ []) x)
repeated_push above n (Page at told) = list_any-append (is_page_of at) above (n ∷ [])
repeated_push above n (Chain c) = list_any-append (is_chain_of c.of) above (n ∷ [])

-- what the notes above don't repeat these fewer don't either
abbrev Spares : List Noted → List Noted → Type 0
Spares above fewer = (x : Noted) → is_repeated above x ≡ false → is_repeated fewer x ≡ false

spares_more : (above fewer : List Noted) (n : Noted) → Spares above fewer → Spares (above ++ n ∷ []) fewer
spares_more above fewer n s x h = s x (or_parts (is_repeated above x) (is_repeated (n ∷ []) x) (sym (repeated_push above n x) ∙ h)).0

spares_both : (above fewer : List Noted) (n : Noted) → Spares above fewer → Spares (above ++ n ∷ []) (fewer ++ n ∷ [])
spares_both above fewer n s x h =
    let (old, new) = or_parts (is_repeated above x) (is_repeated (n ∷ []) x) (sym (repeated_push above n x) ∙ h) in
    repeated_push fewer n x ∙ or_from (is_repeated fewer x) (is_repeated (n ∷ []) x) (s x old) new

-- none of those above it repeats any of them
abbrev pub AreFresh : List Noted → List Noted → Type 0
AreFresh above [] = Unit {0}
AreFresh above (n ∷ notes) = (is_repeated above n ≡ false) × AreFresh (above ++ n ∷ []) notes

pub firsts_fresh : (above fewer notes : List Noted) → Spares above fewer → AreFresh fewer (filter has_short_heads (firsts_behind above notes))
firsts_fresh above fewer [] s = tt
firsts_fresh above fewer (n ∷ notes) s = by (is_repeated above n) refl (has_short_heads n) refl (λ f t. firsts_fresh (above ++ n ∷ []) f notes t)
  where
    rest : List Noted
    rest = firsts_behind (above ++ n ∷ []) notes

    by : (r : Bool) → is_repeated above n ≡ r → (t : Bool) → has_short_heads n ≡ t
        → ((f : List Noted) → Spares (above ++ n ∷ []) f → AreFresh f (filter has_short_heads (firsts_behind (above ++ n ∷ []) notes)))
        → AreFresh fewer (filter has_short_heads (cond r [] (n ∷ []) ++ firsts_behind (above ++ n ∷ []) notes))
    by true e t f later = later fewer (spares_more above fewer n s)
    by false e true f later =
        subst (λ t. AreFresh fewer (cond t (n ∷ filter has_short_heads (firsts_behind (above ++ n ∷ []) notes)) (filter has_short_heads (firsts_behind (above ++ n ∷ []) notes)))) (sym f)
        (s n e, later (fewer ++ n ∷ []) (spares_both above fewer n s))
    by false e false f later =
        subst (λ t. AreFresh fewer (cond t (n ∷ filter has_short_heads (firsts_behind (above ++ n ∷ []) notes)) (filter has_short_heads (firsts_behind (above ++ n ∷ []) notes)))) (sym f)
        (later fewer (spares_more above fewer n s))

-- ---- what isn't repeated is new among the entries

other_way : (a b : List ℕ) → bytes_eq a b ≡ false → bytes_eq b a ≡ false
other_way a b h = by (bytes_eq b a) refl
  where
    by : (t : Bool) → bytes_eq b a ≡ t → t ≡ false
    by false e = refl
    by true e =
        let same = (bytes_eq-Decides a b).1 (sym ((bytes_eq-Decides b a).0 e)) in
        absurd cc

no_answer : (links : LinkRules) (above : List Noted) (at : AddressText) → list_any (is_page_of at) above ≡ false → lookup (bytes_eq at) (answers_of (map (note_entry links) above)) ≡ None
no_answer links [] at h = refl
no_answer links (Page other told ∷ above) at h =
    let (here, more) = or_parts (bytes_eq other at) (list_any (is_page_of at) above) h in
    rw (other_way other at here) (no_answer links above at more)
no_answer links (Chain c ∷ above) at h = no_answer links above at h

no_rules : (links : LinkRules) (above : List Noted) (of : OriginText) → list_any (is_chain_of of) above ≡ false → lookup (bytes_eq of) (rules_of (map (note_entry links) above)) ≡ None
no_rules links [] of h = refl
no_rules links (Page at told ∷ above) of h = no_rules links above of h
no_rules links (Chain c ∷ above) of h =
    let (here, more) = or_parts (bytes_eq c.of of) (list_any (is_chain_of of) above) h in
    rw (other_way c.of of here) (no_rules links above of more)

new_entry : (links : LinkRules) (above : List Noted) (n : Noted) → is_repeated above n ≡ false
    → IsNew (answers_of (map (note_entry links) above)) (rules_of (map (note_entry links) above)) (note_entry links n)
new_entry links above (Page at told) h = no_answer links above at h
new_entry links above (Chain c) h = no_rules links above c.of h

-- ---- the notes of a record

abbrev pub AreShort : List Noted → Type 0
AreShort notes = All (λ n. has_short_heads n ≡ true) notes

-- what is written of notes are their entries, after others
pub notes_follow : (links : LinkRules) (text : List ℕ) (above notes : List Noted) (rest : List ℕ) → All IsNote notes → AreShort notes → AreFresh above notes
    → IsFront Second links text (map (note_entry links) above) (flat_map note_text notes ++ rest) → IsFront Second links text (map (note_entry links) (above ++ notes)) rest
notes_follow links text above [] rest are short fresh front = subst (λ l. IsFront Second links text (map (note_entry links) l) rest) (sym (append-nil above)) front
notes_follow links text above (n ∷ notes) rest are short fresh front =
    let behind = flat_map note_text notes ++ rest in
    let begins = subst (λ t. IsFront Second links text (map (note_entry links) above) t) (append_assoc (note_text n) (flat_map note_text notes) rest) front in
    let is = note_is_entry links n behind (All-head IsNote n notes are) (All-head (λ n. has_short_heads n ≡ true) n notes short) in
    let longer = next (map (note_entry links) above) (note_text n ++ behind) (note_entry links n) behind begins is (new_entry links above n fresh.0) in
    let pushed = subst (λ l. IsFront Second links text l behind) (sym (map-append (note_entry links) above (n ∷ []))) longer in
    subst (λ l. IsFront Second links text (map (note_entry links) l) rest) (append_assoc above (n ∷ []) notes)
    (notes_follow links text (above ++ n ∷ []) notes rest (All-tail IsNote n notes are) (All-tail (λ n. has_short_heads n ≡ true) n notes short) fresh.1 pushed)

-- what is written is a record of exactly the notes that it is written of
pub written_record_reads_back : (links : LinkRules) (notes : List Noted) → All IsNote (written_notes notes) → IsRecord links (record_text notes) (record_entries links notes)
written_record_reads_back links notes are =
    let text = flat_map note_text (written_notes notes) in
    record {
      version = Second;
      text = text;
      begins = refl;
      all = notes_follow links text [] (written_notes notes) [] are (filter_passes has_short_heads (firsts_behind [] notes)) (firsts_fresh [] [] notes (λ x h. h))
          (subst (λ t. IsFront Second links text [] t) (sym (append-nil text)) none);
    }

-- the notes that are written have short heads, and none repeats another
pub written_short : (notes : List Noted) → AreShort (written_notes notes)
written_short notes = filter_passes has_short_heads (firsts_behind [] notes)

pub written_fresh : (notes : List Noted) → AreFresh [] (written_notes notes)
written_fresh notes = firsts_fresh [] [] notes (λ x h. h)
