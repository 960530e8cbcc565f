use Rattle.std.proofs.Common.{◌∙◌, sym, ap}
use Rattle.html_links.specs.Lexing.{in_text}
use Rattle.html_links.specs.declared.lexer.Lexer.{Lexer}
use Rattle.html_links.proofs.Stepping.{text_other}
use Rattle.html_links.proofs.lexer.Lexer.text.Goals as goal

pub returns : goal.returns
returns c =
    let l = c.args.self.now in
    λ rest. text_other l.styled l.sheet.front l.held.items l.context c.args.byte rest c.if-byte-eq60.false
    ∙ sym (c.in_ok-hold.ensures.held l.sheet.front l.context rest) ∙ ap (λ (to : Lexer). in_text to rest) (sym c.in_ok-hold.ensures.same)
