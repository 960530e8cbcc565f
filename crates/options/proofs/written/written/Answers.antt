-- The options, the dashes that end them, and the first start.
use Rattle.std.proofs.Common.{◌∙◌, ◌++◌, ◌∷◌, [], List, Option, ap, append_assoc, codes, map, option_map, string_bytes}
use Rattle.std.specs.List.{flat_map}
use Rattle.std.proofs.lemmas.List.{map_push}
use Rattle.clap.specs.Walk.{Text}
use Rattle.options.specs.Table.{table}
use Rattle.options.specs.Written.{first_start, if_any, row_words, value_of, written}
use Rattle.options.specs.inner.Said.{saying_in}
use Rattle.options.specs.inner.Table.{row_in}
use Rattle.options.proofs.written.written.Goals as goal

pub returns : goal.returns
unfolding written
returns c =
    let said = map saying_in c.args.said.now in
    let begin = ap (map string_bytes) c.new-words.ensures.items in
    let rows =
    c.in_ok-push_rows.ensures
    ∙ ap (λ (words : List Text). words ++ flat_map (λ row. row_words row (value_of said row)) (map row_in c.option_rows.result.now)) begin
    ∙ ap (λ rows. flat_map (λ row. row_words row (value_of said row)) rows) c.option_rows.ensures in
    let dashes =
    ap (map string_bytes) c.in_ok-push.ensures.items
    ∙ map_push string_bytes _ _
    ∙ ap (λ (words : List Text). words ++ string_bytes c.in_ok-from_str.field-0 ∷ []) rows
    ∙ ap (λ (word : Text). flat_map (λ row. row_words row (value_of said row)) table ++ word ∷ []) c.in_ok-from_str.ensures.ok in
    c.in_ok-push_if_any.ensures
    ∙ ap (λ (words : List Text). words ++ if_any (option_map (λ word. word.now) c.first_start.result)) dashes
    ∙ ap (λ (start : Option Text). (flat_map (λ row. row_words row (value_of said row)) table ++ codes "--" ∷ []) ++ if_any start) c.first_start.ensures
    ∙ append_assoc (flat_map (λ row. row_words row (value_of said row)) table) (codes "--" ∷ []) (if_any (first_start said))
