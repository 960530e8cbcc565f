use Rattle.std.proofs.Common.{◌≡◌, [], ◌∷◌, ◌∙◌, sym, ap, ◌++◌}
use Rattle.html_links.specs.Lexing.{in_text, in_tag_name, sheet_if}
use Rattle.html_links.specs.declared.lexer.Lexer.{Lexer}
use Rattle.html_links.specs.declared.lexer.TokenizerState.TheVariants.{TagName}
use Rattle.html_links.proofs.Tagging.{styled_ended, start_tag_begun}
use Rattle.html_links.proofs.lexer.Lexer.begin_tag.Goals as goal

pub returns : goal.returns
returns c =
    let l = c.args.self.now in
    let settled = c.settle.new.self in
    let middle = record settled { mode = TagName; name = c.push.new.self } in
    let new = c.end_styled.new.self in
    let last = record middle { sheet = new.sheet; shown = new.shown } in
    let same = c.in_ok-settle.ensures.same in
    let styled : settled.styled ≡ l.styled = ap (λ (to : Lexer). to.styled) same in
    let context : settled.context ≡ l.context = ap (λ (to : Lexer). to.context) same in
    let named : c.push.new.self.items ≡ c.to_ascii_lowercase.result ∷ [] = rw c.clear.ensures.items at c.in_ok-push.ensures.items in
    styled_ended (λ rest. in_text l (60 ∷ rest)) c.args.byte (sheet_if middle.styled middle.sheet.front []) middle new c.end_styled.result c.end_styled.ensures.same
    (λ rest. start_tag_begun l last settled.sheet.front c.args.byte c.to_ascii_lowercase.result rest c.requires c.to_ascii_lowercase.ensures.value c.in_ok-settle.ensures.sheet named context
    ∙ ap (λ t. sheet_if t settled.sheet.front [] ++ in_tag_name last rest) (sym styled)) c.end_styled.ensures.ends
