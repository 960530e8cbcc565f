-- The line of the row is added, with what its forms and its default are.
use Rattle.std.proofs.Common.{◌≡◌, ◌∙◌, ◌++◌, Some, codes, ap}
use Rattle.std.proofs.lemmas.Result.{on_ok_weaker}
use Rattle.clap.specs.Walk.{Text}
use Rattle.options.specs.Help.{in_columns, left_text, line_text, row_text, says_of, usual_text}
use Rattle.options.specs.Table.{summaries}
use Rattle.options.specs.declared.table.Row.{Row}
use Rattle.options.specs.inner.Table.{row_in}
use Rattle.options.proofs.help.push_row.Goals as goal

row_added : (old new : Text) (row : Row Text) (left says usual : Text) → Some says ≡ says_of row.name summaries → left ≡ left_text row → usual ≡ usual_text row.kind
    → new ≡ old ++ (row.heading ++ in_columns 35 left ++ says ++ usual ++ codes "\n") → new ≡ old ++ row_text row
row_added old new row left says usual said forms counts is =
    is
    ∙ ap (λ (l : Text). old ++ (row.heading ++ in_columns 35 l ++ says ++ usual ++ codes "\n")) forms
    ∙ ap (λ (u : Text). old ++ (row.heading ++ in_columns 35 (left_text row) ++ says ++ u ++ codes "\n")) counts
    ∙ ap (λ s. old ++ line_text row s) said

pub returns : goal.returns
returns c = record {
  ok = on_ok_weaker c.push_line.result (row_added _ _ (row_in c.args.row.now) _ _ _ c.in-Some.ensures (c.as_str.ensures.value ∙ c.in_ok-left.ensures) (c.as_str-2.ensures.value ∙ c.in_ok-usual.ensures)) c.push_line.ensures.ok;
}
