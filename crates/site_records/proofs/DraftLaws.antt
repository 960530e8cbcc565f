-- A record in the making, with one more note.
use Rattle.std.proofs.Common.{◌≡◌, ℕ, ◌++◌, ◌∙◌, Bool, true, false, cond, List, [], ◌∷◌, refl, sym, ap, subst, append_assoc, append-nil}
use Rattle.std.specs.Prelude.{All, filter, flat_map, not}
use Rattle.std.proofs.lemmas.List.Elements.{All-nil, All-cons, All-append}
use Rattle.std.proofs.lemmas.Grind.{flat_map-append}
use Rattle.answer_notes.specs.declared.noted.Noted.{Noted}
use Rattle.site_records.specs.declared.written_record.SeenNames.{SeenNames}
use Rattle.site_records.specs.declared.version.Version.TheVariants.{Second}
use Rattle.site_records.specs.Records.{version_line}
use Rattle.site_records.specs.WrittenEntries.{note_text, written_note, has_short_heads, IsNote}
use Rattle.site_records.specs.WrittenRecords.{is_repeated, firsts_behind, written_notes, record_text}
use Rattle.site_records.specs.inner.RecordDrafts.{AreDraftsNamed, IsDraft}

filter_push : (ns more : List Noted) → filter has_short_heads (ns ++ more) ≡ filter has_short_heads ns ++ filter has_short_heads more
filter_push [] more = refl
filter_push (n ∷ ns) more = by (has_short_heads n) (filter_push ns more)
  where
    by : (t : Bool) → filter has_short_heads (ns ++ more) ≡ filter has_short_heads ns ++ filter has_short_heads more
        → cond t (n ∷ filter has_short_heads (ns ++ more)) (filter has_short_heads (ns ++ more)) ≡ cond t (n ∷ filter has_short_heads ns) (filter has_short_heads ns) ++ filter has_short_heads more
    by true e = ap (λ l. n ∷ l) e
    by false e = e

-- one more note is a first if none of those above repeats it
firsts_push : (above notes : List Noted) (n : Noted) → firsts_behind above (notes ++ n ∷ []) ≡ firsts_behind above notes ++ cond (is_repeated (above ++ notes) n) [] (n ∷ [])
firsts_push above [] n = append-nil (cond (is_repeated above n) [] (n ∷ [])) ∙ ap (λ l. cond (is_repeated l n) [] (n ∷ [])) (sym (append-nil above))
firsts_push above (x ∷ notes) n =
    let here = cond (is_repeated above x) [] (x ∷ []) in
    ap (λ l. here ++ l) (firsts_push (above ++ x ∷ []) notes n)
    ∙ ap (λ l. here ++ (firsts_behind (above ++ x ∷ []) notes ++ cond (is_repeated l n) [] (n ∷ []))) (append_assoc above (x ∷ []) notes)
    ∙ sym (append_assoc here (firsts_behind (above ++ x ∷ []) notes) (cond (is_repeated (above ++ x ∷ notes) n) [] (n ∷ [])))

written_push : (notes : List Noted) (n : Noted) → written_notes (notes ++ n ∷ []) ≡ written_notes notes ++ filter has_short_heads (cond (is_repeated notes n) [] (n ∷ []))
written_push notes n = ap (filter has_short_heads) (firsts_push [] notes n) ∙ filter_push (firsts_behind [] notes) (cond (is_repeated notes n) [] (n ∷ []))

text_push : (notes : List Noted) (n : Noted) → record_text (notes ++ n ∷ []) ≡ record_text notes ++ flat_map note_text (filter has_short_heads (cond (is_repeated notes n) [] (n ∷ [])))
text_push notes n =
    let more = filter has_short_heads (cond (is_repeated notes n) [] (n ∷ [])) in
    ap (λ l. version_line Second ++ flat_map note_text l) (written_push notes n)
    ∙ ap (λ l. version_line Second ++ l) (flat_map-append note_text (written_notes notes) more)
    ∙ sym (append_assoc (version_line Second) (flat_map note_text (written_notes notes)) (flat_map note_text more))

-- a note is added, unless it is repeated
pub draft_grows : (is_new : Bool) (text more : List ℕ) (old new : SeenNames) (notes : List Noted) (n : Noted) → IsDraft text old notes → AreDraftsNamed new (notes ++ n ∷ [])
    → is_new ≡ not (is_repeated notes n) → (is_new ≡ true → (more ≡ text ++ written_note n) × (has_short_heads n ≡ true → IsNote n)) → (is_new ≡ false → more ≡ text)
    → IsDraft more new (notes ++ n ∷ [])
draft_grows is_new text more old new notes n draft named is first again = by (is_repeated notes n) refl
  where
    P : List Noted → Type 0
    P notes = All IsNote notes

    single : (t : Bool) → has_short_heads n ≡ t → flat_map note_text (filter has_short_heads (n ∷ [])) ≡ written_note n
    single true e = rw e (append-nil (note_text n))
    single false e = rw e refl

    are : (t : Bool) → has_short_heads n ≡ t → (has_short_heads n ≡ true → IsNote n) → P (filter has_short_heads (n ∷ []))
    are true e note = rw e (All-cons IsNote n [] (note e) (All-nil IsNote))
    are false e note = rw e (All-nil IsNote)

    by : (t : Bool) → is_repeated notes n ≡ t → IsDraft more new (notes ++ n ∷ [])
    by true e =
        let same = again (is ∙ ap not e) in
        record {
          text_is = same ∙ draft.text_is ∙ sym (text_push notes n ∙ ap (λ t. record_text notes ++ flat_map note_text (filter has_short_heads (cond t [] (n ∷ [])))) e ∙ append-nil (record_text notes));
          named_are = named;
          notes_are = subst P (sym (written_push notes n ∙ ap (λ t. written_notes notes ++ filter has_short_heads (cond t [] (n ∷ []))) e ∙ append-nil (written_notes notes))) draft.notes_are;
        }
    by false e =
        let longer = first (is ∙ ap not e) in
        record {
          text_is = longer.0 ∙ ap (λ l. l ++ written_note n) draft.text_is ∙ ap (λ l. record_text notes ++ l) (sym (single (has_short_heads n) refl))
              ∙ sym (text_push notes n ∙ ap (λ t. record_text notes ++ flat_map note_text (filter has_short_heads (cond t [] (n ∷ [])))) e);
          named_are = named;
          notes_are = subst P (sym (written_push notes n ∙ ap (λ t. written_notes notes ++ filter has_short_heads (cond t [] (n ∷ []))) e))
              (All-append IsNote (written_notes notes) (filter has_short_heads (n ∷ [])) draft.notes_are (are (has_short_heads n) refl longer.1));
        }
