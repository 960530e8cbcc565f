use Rattle.std.proofs.Common.{◌∷◌, ◌∙◌, sym}
use Rattle.html_links.specs.Lexing.{in_markup, in_markup_declaration_cdata}
use Rattle.html_links.proofs.Tagging.{handed}
use Rattle.html_links.proofs.Stepping.{declaration_other, declaration_foreign}
use Rattle.html_links.proofs.lexer.Lexer.markup_declaration_open.Goals as goal

pub returns-then-reads_html : goal.returns-then-reads_html
returns-then-reads_html c =
    λ rest. declaration_other c.args.self.now c.args.byte rest c.if-byte-eq45.false (sym c.reads_html.ensures ∙ c.if-reads_html.true) ∙ c.bogus_comment.ensures rest

pub returns-else-reads_html : goal.returns-else-reads_html
returns-else-reads_html c =
    let l = c.args.self.now in
    handed (λ rest. in_markup l (60 ∷ 33 ∷ rest)) (in_markup_declaration_cdata l 0) c.args.byte c.markup_declaration_cdata.new.self c.markup_declaration_cdata.result
    (λ rest. declaration_foreign l c.args.byte rest c.if-byte-eq45.false (sym c.reads_html.ensures ∙ c.if-reads_html.false)) c.markup_declaration_cdata.ensures
