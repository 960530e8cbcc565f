use Rattle.std.proofs.Common.{◌∷◌, sym, ◌∙◌, ap}
use Rattle.html_links.specs.Lexing.{in_end_tag_name, in_raw_end}
use Rattle.html_links.proofs.Tagging.{handed, end_name_ended, end_name_goes_on}
use Rattle.html_links.proofs.lexer.Lexer.end_tag_name.Goals as goal

pub returns-then-ends_tag_name : goal.returns-then-ends_tag_name
returns-then-ends_tag_name c =
    let left = rw c.deref.ensures.value at c.leave.ensures in
    handed (in_end_tag_name c.args.self.now) (in_raw_end c.leave.new.self) c.args.byte c.end_tag_attributes.new.self c.end_tag_attributes.result
    (λ rest. end_name_ended c.args.self.now c.args.byte rest (sym c.ends_tag_name.ensures ∙ c.if-ends_tag_name.true) ∙ ap (λ k. in_raw_end k (c.args.byte ∷ rest)) (sym left)) c.end_tag_attributes.ensures

pub returns : goal.returns
returns c = λ rest.
    end_name_goes_on c.args.self.now c.push_end_name.new.self c.args.byte rest (sym c.ends_tag_name.ensures ∙ c.if-ends_tag_name.false) c.in_ok-push_end_name.ensures.same c.in_ok-push_end_name.ensures.named
