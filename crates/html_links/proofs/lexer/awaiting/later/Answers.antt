use Rattle.std.proofs.Common.{◌∙◌}
use Rattle.html_links.proofs.Later.{later_cut}
use Rattle.html_links.proofs.lexer.awaiting.later.Goals as goal

pub returns-else-branch : goal.returns-else-branch
returns-else-branch c =
    let at = c.at_value-lexer.ensures in
    c.new.ensures.items
    ∙ later_cut c.at_value-lexer.result c.args.wanted c.args.attribute c.args.text.now c.requires at.mode at.wanted at.keeps at.attributes (c.in_ok-read_tag.ensures.none c.if-branch.false)
