use Rattle.std.proofs.Common.{◌∙◌, sym}
use Rattle.html_links.specs.Lexing.{in_attribute_value_unquoted, before_attribute_name}
use Rattle.html_links.proofs.Tagging.{handed, bare_ended}
use Rattle.html_links.proofs.lexer.Lexer.attribute_value_unquoted.Goals as goal

pub returns-then-ends_bare_value : goal.returns-then-ends_bare_value
returns-then-ends_bare_value c =
    handed (in_attribute_value_unquoted c.args.self.now) (before_attribute_name c.end_attribute.new.self) c.args.byte c.before_attribute_name.new.self c.before_attribute_name.result
    (λ rest. bare_ended c.args.self.now c.end_attribute.new.self c.args.byte rest (sym c.ends_bare_value.ensures ∙ c.if-ends_bare_value.true) c.in_ok-end_attribute.ensures) c.before_attribute_name.ensures
