use Rattle.std.proofs.Common.{◌∙◌, [], ◌∷◌, sym, ap}
use Rattle.html_links.specs.Pieces.Source.{FromSheet}
use Rattle.html_links.proofs.Sheets.{sheet_at_end}
use Rattle.html_links.proofs.lexer.Lexer.end_raw_sheet.Goals as goal

pub returns : goal.returns
returns c = sheet_at_end c.args.self.now.context c.args.self.now.sheet.front ∙ ap (λ shown. FromSheet shown ∷ []) (sym c.in_ok-end_sheet.ensures.shown)
