use Rattle.std.proofs.Common.{◌≡◌, ◌∷◌, sym, ap, ap₂}
use Rattle.css_links.specs.References.{fed}
use Rattle.html_links.specs.Lexing.{in_sheet}
use Rattle.html_links.specs.declared.lexer.Lexer.{Lexer}
use Rattle.html_links.proofs.Tagging.{handed}
use Rattle.html_links.proofs.lexer.Lexer.sheet_again.Goals as goal

pub returns : goal.returns
returns c =
    let old = c.args.self.now in
    let l = c.put_held.new.self in
    let context : l.context ≡ old.context = ap (λ (l : Lexer). l.context) c.in_ok-put_held.ensures.same in
    handed (in_sheet old.context (fed old.sheet.front old.held.items)) (in_sheet l.context l.sheet.front) c.args.byte c.sheet_text.new.self c.sheet_text.result
    (λ rest. ap₂ (λ k s. in_sheet k s (c.args.byte ∷ rest)) (sym context) (sym c.in_ok-put_held.ensures.sheet)) c.sheet_text.ensures
