use Rattle.std.proofs.Common.{true}
use Rattle.html_links.specs.Lexing.{between_attributes, before_attribute_name}
use Rattle.html_links.proofs.Tagging.{handed, slash_passed}
use Rattle.html_links.proofs.lexer.Lexer.self_closing_start_tag.Goals as goal

pub returns : goal.returns
returns c =
    handed (between_attributes true c.args.self.now) (before_attribute_name c.args.self.now) c.args.byte c.before_attribute_name.new.self c.before_attribute_name.result
    (λ rest. slash_passed c.args.self.now c.args.byte rest c.if-byte-eq62.false) c.before_attribute_name.ensures
