use Rattle.std.proofs.Common.{◌∙◌, [], ◌∷◌, sym, ap}
use Rattle.html_links.specs.Lexing.{in_text}
use Rattle.html_links.specs.declared.lexer.Lexer.{Lexer}
use Rattle.html_links.proofs.Stepping.{less_ends}
use Rattle.html_links.proofs.Tagging.{handed_end}
use Rattle.html_links.proofs.lexer.Lexer.end_text_with_less.Goals as goal

pub returns-clause-ends : goal.returns-clause-ends
returns-clause-ends c =
    let l = c.args.self.now in
    handed_end (in_text l (60 ∷ [])) (in_text c.hold.new.self []) c.end_text.new.self c.end_text.result
    (less_ends l ∙ sym (c.in_ok-hold.ensures.held l.sheet.front l.context []) ∙ ap (λ (to : Lexer). in_text to []) (sym c.in_ok-hold.ensures.same)) c.end_text.ensures.ends
