use Rattle.std.proofs.Common.{◌≡◌, ◌++◌, ◌∙◌, sym, ap, ap₂}
use Rattle.css_links.specs.References.{fed}
use Rattle.html_links.specs.Pieces.{from, is}
use Rattle.html_links.specs.Lexing.{in_sheet}
use Rattle.html_links.specs.declared.lexer.Lexer.{Lexer}
use Rattle.html_links.proofs.Sheets.{sheet_over}
use Rattle.html_links.proofs.lexer.Lexer.sheet_run.Goals as goal

pub returns-clause-gives : goal.returns-clause-gives
returns-clause-gives c =
    let old = c.args.self.now in
    let context : c.put_sheet.new.self.context ≡ old.context = ap (λ (l : Lexer). l.context) c.in_ok-put_sheet.ensures.same in
    let front = c.in_ok-put_sheet.ensures.sheet ∙ ap (λ xs. fed old.sheet.front xs) c.split_at_byte.ensures.front in
    λ rest. sheet_over old.context old.sheet.front c.args.text.now rest
    ∙ ap₂ (λ k s. in_sheet k s (from (is 60) c.args.text.now ++ rest)) (sym context) (sym front)
    ∙ ap (λ left. in_sheet c.put_sheet.new.self.context c.put_sheet.new.self.sheet.front (left ++ rest)) (sym c.split_at_byte.ensures.left)
