use Rattle.std.proofs.Common.{[]}
use Rattle.html_links.specs.Lexing.{in_markup, sheet_if}
use Rattle.html_links.proofs.Stepping.{markup_ends}
use Rattle.html_links.proofs.Tagging.{body_ended}
use Rattle.html_links.proofs.lexer.Lexer.end_markup.Goals as goal

pub returns-clause-ends : goal.returns-clause-ends
returns-clause-ends c =
    let l = c.args.self.now in
    body_ended (in_markup l []) (sheet_if l.styled l.sheet.front []) c.end_styled.new.self c.end_styled.result (markup_ends l) c.end_styled.ensures.ends
