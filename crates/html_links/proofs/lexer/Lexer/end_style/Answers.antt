use Rattle.std.proofs.Common.{◌≡◌, ◌∷◌, ◌∙◌, sym, ap, ap₂}
use Rattle.html_links.specs.Pieces.Source.{FromSheet}
use Rattle.html_links.specs.Lexing.{in_raw_end}
use Rattle.html_links.specs.declared.lexer.Lexer.{Lexer}
use Rattle.html_links.proofs.lexer.Lexer.end_style.Goals as goal

pub returns : goal.returns
returns c =
    let old = c.args.self.now in
    let l = c.end_sheet.new.self in
    let context : l.context ≡ old.context = ap (λ (l : Lexer). l.context) c.in_ok-end_sheet.ensures.same in
    let shown = c.behind_style.ensures.shown ∙ c.in_ok-end_sheet.ensures.shown in
    λ rest. ap₂ (λ refs more. FromSheet refs ∷ more) (sym shown) (ap (λ k. in_raw_end k (c.args.byte ∷ rest)) (sym context) ∙ c.behind_style.ensures.rest rest)
