use Rattle.std.proofs.Common.{◌∷◌, ◌∙◌, ap}
use Rattle.html_links.specs.Pieces.Source.{FromSheet}
use Rattle.html_links.specs.Links.{with_tags}
use Rattle.html_links.specs.Lexing.{remaining}
use Rattle.html_links.specs.Scanning.{ScanProgress, scanned}
use Rattle.html_links.proofs.Scanning.{sheet_taken}
use Rattle.html_links.proofs.scanner.HtmlScanner.note_sheet.Goals as goal

pub returns-clause-ok : goal.returns-clause-ok
returns-clause-ok c = λ rest.
    sheet_taken (scanned c.note_sheet.new.self) (scanned c.self.inside.found) c.self.inside.lexer c.take_shown-shown.new.self c.take_shown-shown.result.items rest
    c.take_shown-shown.ensures.same c.take_shown-shown.ensures.shown c.in_ok-note_sheet.ensures
    ∙ ap (λ (s : ScanProgress). with_tags s.found (FromSheet s.lexer.shown.items ∷ remaining s.lexer rest)) c.self.view_is
