use Rattle.std.proofs.Common.{ℕ, List, ◌++◌, ◌∙◌, sym, ap, subst}
use Rattle.html_links.specs.Markup.{style, raw_text}
use Rattle.page_links.specs.Places.{IsSheetText}
use Rattle.page_links.proofs.Placing.{copied, sheet_anew}
use Rattle.page_links.proofs.writer.Writer.write_sheet.Goals as goal

pub returns-then-not-fits-clause-at : goal.returns-then-not-fits-clause-at
returns-then-not-fits-clause-at g c = λ syntax page at.
    copied (g.P.PageChange.becomes c.args.changes.now) syntax page c.args.self.now.scanner c.put.new.self.scanner c.args.self.now.out.items c.put.new.self.out.items c.args.left.now
    c.split_sheet.result.0.now c.split_sheet.result.1.now c.split_sheet.ensures.bytes c.in_ok-put.ensures.out (c.in_ok-put.ensures.stands syntax) at

pub returns-clause-at : goal.returns-clause-at
returns-clause-at g c = λ syntax page at.
    sheet_anew (g.P.PageChange.becomes c.args.changes.now) syntax page c.args.self.now.scanner c.put-2.new.self.scanner c.args.self.now.out.items c.put-2.new.self.out.items c.args.left.now
    c.split_sheet.result.0.now c.split_sheet.result.1.now c.in_ok-anew.anew.items c.requires c.split_sheet.ensures.bytes
    (ap (raw_text style) (sym c.split_sheet.ensures.bytes) ∙ sym c.split_sheet.ensures.sheet) c.in_ok-anew.ensures
    (subst (λ (text : List ℕ). IsSheetText text c.split_sheet.result.1.now) c.deref.ensures.value (c.fits.ensures c.if-not-fits.false))
    (c.in_ok-put-2.ensures.out ∙ ap (λ (xs : List ℕ). c.args.self.now.out.items ++ xs) c.deref-2.ensures.value) (c.in_ok-put-2.ensures.stands syntax) at
