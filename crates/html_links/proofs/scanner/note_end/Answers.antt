use Rattle.std.proofs.Common.{subst}
use Rattle.html_links.specs.Lexing.{ends_sheet}
use Rattle.html_links.specs.inner.Lexing.{EndsOnly}
use Rattle.html_links.proofs.Scanning.{on_err}
use Rattle.html_links.proofs.scanner.note_end.Goals as goal

pub returns-in-Sheet-clause-err : goal.returns-in-Sheet-clause-err
returns-in-Sheet-clause-err c =
    on_err c.note_sheet.result (subst (EndsOnly (ends_sheet c.args.lexer.now.mode c.args.lexer.now.styled)) c.in-Sheet.is c.in_ok-finish.ensures.only)
