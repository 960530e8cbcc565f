-- What the fields say, the line says, if it isn't a rule.
use Rattle.std.proofs.Common.{◌∙◌, sym, lit<}
use Rattle.site_maps.proofs.FormLaws.{line_form, rule_form, not_skipped}
use Rattle.site_maps.proofs.map_line.MapLine.of.Goals as goal

pub returns-in-Some : goal.returns-in-Some
returns-in-Some c = rule_form c.args.line.now _ c.utf8.line c.in-Some.ensures

pub returns-in-None : goal.returns-in-None
returns-in-None c =
    let hash = c.starts_with.ensures.byte (lit< tt) (lit< tt) (λ w o x. x) in
    let stays = not_skipped c.args.line.now (sym c.is_empty.ensures ∙ c.if-is_empty.false) (sym hash ∙ c.if-starts_with.false) in
    line_form c.args.line.now c.of_fields.result c.utf8.line stays c.in-None.ensures c.of_fields.ensures
