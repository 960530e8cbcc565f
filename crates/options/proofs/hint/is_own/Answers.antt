-- The rows that the code has are the table.
use Rattle.std.proofs.Common.{◌∙◌, None, false, ap}
use Rattle.std.specs.Option.{option_map_or}
use Rattle.options.specs.Hints.{is_known, is_own}
use Rattle.options.specs.Said.{named}
use Rattle.options.specs.Table.{table}
use Rattle.options.proofs.hint.is_own.Goals as goal

pub returns-in-Some : goal.returns-in-Some
unfolding is_own
returns-in-Some c =
    c.is_known.ensures
    ∙ ap is_known (c.named.ensures ∙ ap (named c.in-Some.name.now None) c.option_rows.ensures)
    ∙ ap (λ name. option_map_or (λ name. is_known (named name None table)) name false) c.in-Some.ensures

pub returns-in-None : goal.returns-in-None
unfolding is_own
returns-in-None c = ap (λ name. option_map_or (λ name. is_known (named name None table)) name false) c.in-None.ensures
