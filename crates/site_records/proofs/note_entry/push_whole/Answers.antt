-- The pieces are an entry with the response after its line.
use Rattle.std.proofs.Common.{◌+◌, length, ◌++◌, ◌∷◌, [], ◌∙◌, refl, ap}
use Rattle.std.specs.Prelude.{decimal}
use Rattle.response_reader.specs.Response.{ResponseParts}
use Rattle.site_records.specs.WrittenEntries.{line_of_three}
use Rattle.site_records.proofs.EntryTextLaws.{on_ok, whole_text}
use Rattle.site_records.proofs.note_entry.push_whole.Goals as goal

pub returns-clause-text : goal.returns-clause-text
returns-clause-text c =
    on_ok c.push_lent-2.result
    (λ all. whole_text c.args.pieces.now _ _ _ _ _ c.args.word.now c.args.at.now c.args.head.now c.as_slice-body.result.now _ c.args.given.now
    c.requires.head (c.as_slice-body.ensures.value ∙ ap (λ (r : ResponseParts). r.body) c.response.ensures.value) refl
    (c.in_ok-front.ensures ∙ ap (λ t. line_of_three c.args.word.now t (decimal (length c.args.head.now + length c.as_slice-body.result.now)) ++ 10 ∷ []) c.as_str.ensures.value)
    c.in_ok-extend_from_slice.ensures.items c.in_ok-push_made.ensures.ok c.in_ok-push_lent.ensures.ok all)
    c.push_lent-2.ensures.ok
