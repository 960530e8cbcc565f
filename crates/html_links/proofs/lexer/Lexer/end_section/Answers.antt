use Rattle.std.proofs.Common.{◌≡◌, ◌∙◌, [], sym, ap}
use Rattle.html_links.specs.Lexing.{with_section, sheet_if}
use Rattle.html_links.specs.declared.lexer.Lexer.{Lexer}
use Rattle.html_links.proofs.Stepping.{section_ends_body}
use Rattle.html_links.proofs.Tagging.{body_ended}
use Rattle.html_links.proofs.lexer.Lexer.end_section.Goals as goal

pub returns-clause-ends : goal.returns-clause-ends
returns-clause-ends c =
    let l = c.args.self.now in
    let put = c.put_section.new.self in
    let styled : put.styled ≡ l.styled = ap (λ (l : Lexer). l.styled) c.in_ok-put_section.ensures.same in
    body_ended (with_section l c.args.section c.args.marks.now []) (sheet_if put.styled put.sheet.front []) c.end_styled.new.self c.end_styled.result
    (section_ends_body l c.args.section c.args.marks.now ∙ sym (c.in_ok-put_section.ensures.sheet []) ∙ ap (λ t. sheet_if t put.sheet.front []) (sym styled)) c.end_styled.ensures.ends
