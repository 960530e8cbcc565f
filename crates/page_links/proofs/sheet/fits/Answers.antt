use Rattle.std.proofs.Common.{◌∙◌, sym}
use Rattle.page_links.proofs.Closing.{empty_is, fits_too}
use Rattle.page_links.proofs.sheet.fits.Goals as goal

pub returns : goal.returns
returns c = λ yes.
    fits_too c.args.sheet.now c.args.end.now c.args.text.now c.split_sheet.result.0.now c.split_sheet.result.1.now c.requires c.split_sheet.ensures.bytes c.split_sheet.ensures.sheet
    (empty_is c.split_sheet.result.1.now (sym c.is_empty.ensures ∙ yes))
