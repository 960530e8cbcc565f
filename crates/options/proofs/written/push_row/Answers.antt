-- The option has a value that counts, or it has none.
use Rattle.std.proofs.Common.{◌∙◌, ◌++◌, None, ap, map, option_map, string_bytes, sym}
use Rattle.std.proofs.lemmas.List.{append-nil}
use Rattle.std.proofs.lemmas.Result.{on_ok_weaker}
use Rattle.options.specs.Written.{row_words, value_from, value_of, value_words}
use Rattle.options.specs.inner.Said.{saying_in}
use Rattle.options.specs.inner.Table.{row_in}
use Rattle.options.proofs.written.push_row.Goals as goal

pub returns-in-Some : goal.returns-in-Some
unfolding value_of
returns-in-Some c =
    let words = map string_bytes c.args.words.now.items in
    let row = row_in c.args.row.now in
    let counts = sym (ap (option_map string_bytes) c.in-Some.is) ∙ c.in_ok-value.ensures ∙ ap (λ b. value_from row.name b None (map saying_in c.args.said.now)) c.is_list.ensures in
    on_ok_weaker c.push_value.result (λ says. says ∙ ap (λ v. words ++ value_words row.name row.kind v) c.as_str.ensures.value ∙ ap (λ v. words ++ row_words row v) counts) c.push_value.ensures

pub returns-in-None : goal.returns-in-None
unfolding value_of
returns-in-None c =
    let words = map string_bytes c.args.words.now.items in
    let row = row_in c.args.row.now in
    let counts = sym (ap (option_map string_bytes) c.in-None.is) ∙ c.in_ok-value.ensures ∙ ap (λ b. value_from row.name b None (map saying_in c.args.said.now)) c.is_list.ensures in
    sym (append-nil words) ∙ ap (λ v. words ++ row_words row v) counts
