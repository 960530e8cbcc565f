use Rattle.std.proofs.Common.{◌∙◌, sym, ap, add-one}
use Rattle.html_links.specs.Markup.{style, is_close}
use Rattle.html_links.proofs.Referencing.{rest_whole}
use Rattle.page_links.proofs.Closing.{passed}
use Rattle.page_links.proofs.sheet.split_sheet.Goals as goal

pub loop-i-preserved : goal.loop-i-preserved
loop-i-preserved c =
    rw add-one
    (passed c.args.text.now c.loop-i.i c.loop-i-test.true
    (ap (is_close style) (sym (rest_whole c.loop-i.i c.args.text.now)) ∙ (sym c.is_close.ensures ∙ c.if-is_close.false)) c.loop-i.invariant)
