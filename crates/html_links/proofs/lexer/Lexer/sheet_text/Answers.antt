use Rattle.std.proofs.Common.{◌≡◌, ◌∙◌, sym, ap, ap₂}
use Rattle.html_links.specs.Lexing.{in_sheet}
use Rattle.html_links.specs.declared.lexer.Lexer.{Lexer}
use Rattle.html_links.proofs.Sheets.{sheet_less, sheet_other}
use Rattle.html_links.proofs.lexer.Lexer.sheet_text.Goals as goal

pub returns-then-byte-eq60 : goal.returns-then-byte-eq60
returns-then-byte-eq60 c = λ rest. rw (c.in_ok-push.ensures.items, c.clear.ensures.items, c.if-byte-eq60.true) (sheet_less c.args.self.now.context c.args.self.now.sheet.front rest)

pub returns : goal.returns
returns c =
    let context : c.put_sheet.new.self.context ≡ c.args.self.now.context = ap (λ (l : Lexer). l.context) c.in_ok-put_sheet.ensures.same in
    λ rest. sheet_other c.args.self.now.context c.args.self.now.sheet.front c.args.byte rest c.if-byte-eq60.false
    ∙ ap₂ (λ k s. in_sheet k s rest) (sym context) (sym c.in_ok-put_sheet.ensures.sheet)
