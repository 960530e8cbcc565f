use Rattle.std.proofs.Common.{◌∙◌, [], ◌∷◌, sym, ap}
use Rattle.css_links.specs.References.{ended}
use Rattle.html_links.specs.Pieces.Source.{FromSheet}
use Rattle.html_links.proofs.Sheets.{held_at_end}
use Rattle.html_links.proofs.lexer.Lexer.end_held_sheet.Goals as goal

pub returns : goal.returns
returns c =
    held_at_end c.args.self.now.context c.args.self.now.sheet.front c.args.self.now.held.items c.args.matched
    ∙ ap (λ front. FromSheet (ended front) ∷ []) (sym c.in_ok-put_held.ensures.sheet) ∙ ap (λ shown. FromSheet shown ∷ []) (sym c.in_ok-end_sheet.ensures.shown)
