use Rattle.std.proofs.Common.{◌∙◌, [], ◌∷◌}
use Rattle.html_links.specs.Markup.{until_section, beyond_section}
use Rattle.html_links.proofs.Stepping.{section_put, in_section_other}
use Rattle.html_links.proofs.lexer.Lexer.section.Goals as goal

pub returns : goal.returns
returns c =
    let l = c.args.self.now in
    let s = c.args.section in
    let other = rw c.mark.ensures at c.if-byte-mark.false in
    λ rest. in_section_other l s c.args.byte rest other
    ∙ section_put l c.put_section.new.self s (c.args.byte ∷ []) (until_section s rest) (beyond_section s rest) c.in_ok-put_section.ensures.same c.in_ok-put_section.ensures.sheet
