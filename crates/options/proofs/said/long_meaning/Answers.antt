-- The form that is meant is one of the table, or none.
use Rattle.std.proofs.Common.{◌∙◌, ap, option_map}
use Rattle.std.specs.Option.{option_map_or}
use Rattle.options.specs.declared.said.Meaning.TheVariants as meaning
use Rattle.options.specs.Meant.{long_name}
use Rattle.options.specs.Said.{long_meaning, named}
use Rattle.options.specs.Table.{table}
use Rattle.options.proofs.said.long_meaning.Goals as goal

pub returns-in-Some : goal.returns-in-Some
unfolding long_meaning
returns-in-Some c =
    let value = option_map (λ v. v.now) c.args.value in
    c.named.ensures
    ∙ ap (named c.in-Some.name.now value) c.option_rows.ensures
    ∙ ap (λ name. option_map_or (λ n. named n value table) name meaning.Unknown) (c.in-Some.ensures ∙ ap long_name c.meant.ensures)

pub returns-in-None : goal.returns-in-None
unfolding long_meaning
returns-in-None c =
    let value = option_map (λ v. v.now) c.args.value in
    ap (λ name. option_map_or (λ n. named n value table) name meaning.Unknown) (c.in-None.ensures ∙ ap long_name c.meant.ensures)
