use Rattle.std.proofs.Common.{◌≡◌, [], ◌∷◌, ◌∙◌, sym, ap, ap₂, ◌++◌, refl}
use Rattle.html_links.specs.Lexing.{in_markup, in_end_tag_name, sheet_if}
use Rattle.html_links.specs.declared.lexer.Lexer.{Lexer}
use Rattle.html_links.specs.declared.lexer.TokenizerState.TheVariants.{EndTagName}
use Rattle.html_links.proofs.Tagging.{styled_ended, end_tag_begun}
use Rattle.html_links.proofs.lexer.Lexer.begin_end_tag.Goals as goal

pub returns : goal.returns
returns c =
    let l = c.args.self.now in
    let none = record l { name = c.clear.new.self } in
    let named = c.push_end_name.new.self in
    let middle = record named { mode = EndTagName } in
    let new = c.end_styled.new.self in
    let same = c.in_ok-push_end_name.ensures.same in
    let styled : middle.styled ≡ l.styled = ap (λ (to : Lexer). to.styled) same in
    let front : middle.sheet.front ≡ l.sheet.front = ap (λ (to : Lexer). to.sheet.front) same in
    let named_last = record middle { sheet = new.sheet; shown = new.shown } in
    styled_ended (λ rest. in_markup l (60 ∷ 47 ∷ rest)) c.args.byte (sheet_if middle.styled middle.sheet.front []) middle new c.end_styled.result c.end_styled.ensures.same
    (λ rest. end_tag_begun l none named c.args.byte rest c.requires c.clear.ensures.items refl same c.in_ok-push_end_name.ensures.named
    ∙ ap₂ (λ t f. sheet_if t f [] ++ in_end_tag_name named_last rest) (sym styled) (sym front)) c.end_styled.ensures.ends
