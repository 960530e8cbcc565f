use Rattle.html_links.proofs.Sheets.{sheet_put}
use Rattle.html_links.proofs.lexer.Lexer.put_styled.Goals as goal

pub returns-in_ok-put_sheet-clause-sheet : goal.returns-in_ok-put_sheet-clause-sheet
returns-in_ok-put_sheet-clause-sheet c = λ text.
    sheet_put c.args.self.now.styled c.args.self.now.sheet.front c.put_sheet.new.self.sheet.front c.args.bytes.now text c.in_ok-put_sheet.ensures.sheet
