use Rattle.std.proofs.Common.{◌∙◌, sym, ap, Some}
use Rattle.html_links.specs.Lexing.{behind_tag, in_raw_text}
use Rattle.html_links.specs.declared.raw_element.RawElement.TheVariants.{Script, Title, Textarea, Xmp}
use Rattle.html_links.proofs.RawText.{raw_content}
use Rattle.html_links.proofs.lexer.Lexer.begin_raw_text.Goals as goal

pub returns-in-Script-clause-rest : goal.returns-in-Script-clause-rest
returns-in-Script-clause-rest c =
    let k = c.args.self.now.context in
    λ rest. ap (λ e. behind_tag k (Some e) c.args.self.now.styled rest) c.in-Script.is ∙ raw_content k Script rest ∙ ap (λ e. in_raw_text k e 0 rest) (sym c.in-Script.is)

pub returns-in-Title-clause-rest : goal.returns-in-Title-clause-rest
returns-in-Title-clause-rest c =
    let k = c.args.self.now.context in
    λ rest. ap (λ e. behind_tag k (Some e) c.args.self.now.styled rest) c.in-Title.is ∙ raw_content k Title rest ∙ ap (λ e. in_raw_text k e 0 rest) (sym c.in-Title.is)

pub returns-in-Textarea-clause-rest : goal.returns-in-Textarea-clause-rest
returns-in-Textarea-clause-rest c =
    let k = c.args.self.now.context in
    λ rest. ap (λ e. behind_tag k (Some e) c.args.self.now.styled rest) c.in-Textarea.is ∙ raw_content k Textarea rest ∙ ap (λ e. in_raw_text k e 0 rest) (sym c.in-Textarea.is)

pub returns-in-Xmp-clause-rest : goal.returns-in-Xmp-clause-rest
returns-in-Xmp-clause-rest c =
    let k = c.args.self.now.context in
    λ rest. ap (λ e. behind_tag k (Some e) c.args.self.now.styled rest) c.in-Xmp.is ∙ raw_content k Xmp rest ∙ ap (λ e. in_raw_text k e 0 rest) (sym c.in-Xmp.is)
