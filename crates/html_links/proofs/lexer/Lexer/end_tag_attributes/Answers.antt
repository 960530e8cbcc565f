use Rattle.std.proofs.Common.{◌∷◌, None, false}
use Rattle.html_links.specs.Markup.{attributes}
use Rattle.html_links.specs.Lexing.{in_raw_end, before_attribute_name}
use Rattle.html_links.proofs.Tagging.{handed, end_begun}
use Rattle.html_links.specs.declared.asked.Wanted.TheVariants as wanted
use Rattle.html_links.proofs.lexer.Lexer.end_tag_attributes.Goals as goal

pub returns : goal.returns
returns c =
    let l = record c.args.self.now { wanted = wanted.Nothing; raw = None; styled = false; opens = None } in
    handed (in_raw_end c.args.self.now.context) (before_attribute_name l) c.args.byte c.before_attribute_name.new.self c.before_attribute_name.result
    (λ rest. end_begun l.context l.name.items l.attributes.items (attributes (c.args.byte ∷ rest))) c.before_attribute_name.ensures
