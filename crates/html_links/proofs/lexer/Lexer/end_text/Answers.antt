use Rattle.std.proofs.Common.{◌≡◌, ◌∙◌, [], sym, ap}
use Rattle.html_links.specs.Lexing.{in_text, sheet_if}
use Rattle.html_links.specs.declared.lexer.Lexer.{Lexer}
use Rattle.html_links.proofs.Stepping.{text_ends}
use Rattle.html_links.proofs.Tagging.{body_ended}
use Rattle.html_links.proofs.lexer.Lexer.end_text.Goals as goal

pub returns-clause-ends : goal.returns-clause-ends
returns-clause-ends c =
    let l = c.args.self.now in
    let new = c.settle.new.self in
    let styled : new.styled ≡ l.styled = ap (λ (l : Lexer). l.styled) c.in_ok-settle.ensures.same in
    body_ended (in_text l []) (sheet_if new.styled new.sheet.front []) c.end_styled.new.self c.end_styled.result
    (text_ends l new.sheet.front c.in_ok-settle.ensures.sheet ∙ ap (λ t. sheet_if t new.sheet.front []) (sym styled)) c.end_styled.ensures.ends
