use Rattle.std.proofs.Common.{◌≡◌, ◌∙◌, ap}
use Rattle.css_links.specs.References.{fed}
use Rattle.html_links.specs.References.{referenced}
use Rattle.html_links.proofs.Sheets.{sheet_put}
use Rattle.html_links.proofs.lexer.Lexer.settle.Goals as goal

pub returns-in_ok-put_sheet-clause-sheet : goal.returns-in_ok-put_sheet-clause-sheet
returns-in_ok-put_sheet-clause-sheet c =
    let l = c.args.self.now in
    let text : c.deref-then-self.result.now ≡ referenced l.held.items = c.deref-then-self.ensures.value ∙ c.in_ok-text.ensures ∙ ap referenced c.deref.ensures.value in
    λ more. sheet_put l.styled l.sheet.front c.put_sheet.new.self.sheet.front (referenced l.held.items) more (c.in_ok-put_sheet.ensures.sheet ∙ ap (fed l.sheet.front) text)
