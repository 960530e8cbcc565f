use Rattle.std.proofs.Common.{◌∷◌, sym, ◌∙◌, refl}
use Rattle.html_links.specs.declared.lexer.TokenizerState.TheVariants.{TagName}
use Rattle.html_links.specs.Lexing.{in_tag_name, before_attribute_name}
use Rattle.html_links.proofs.Tagging.{handed, tag_name_ended, tag_name_goes_on}
use Rattle.html_links.proofs.lexer.Lexer.tag_name.Goals as goal

pub returns-then-ends_tag_name : goal.returns-then-ends_tag_name
returns-then-ends_tag_name c =
    handed (in_tag_name c.args.self.now) (before_attribute_name c.begin_attributes.new.self) c.args.byte c.before_attribute_name.new.self c.before_attribute_name.result
    (λ rest. tag_name_ended c.args.self.now c.args.byte rest (sym c.ends_tag_name.ensures ∙ c.if-ends_tag_name.true) ∙ c.begin_attributes.ensures (c.args.byte ∷ rest)) c.before_attribute_name.ensures

pub returns : goal.returns
returns c = λ rest.
    tag_name_goes_on c.args.self.now (record c.args.self.now { mode = TagName; name = c.push.new.self }) c.args.byte c.to_ascii_lowercase.result rest
    (sym c.ends_tag_name.ensures ∙ c.if-ends_tag_name.false) c.to_ascii_lowercase.ensures.value c.in_ok-push.ensures.items refl
