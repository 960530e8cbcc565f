-- Digits that no number holds count as the greatest.
use Rattle.std.proofs.Common.{◌≡◌, ◌∙◌, true, sym}
use Rattle.site_records.specs.EntryLines.{is_length}
use Rattle.site_records.proofs.FormLaws.{long_length}
use Rattle.site_records.proofs.entry_line.length_of.Goals as goal

pub returns-in-Err : goal.returns-in-Err
returns-in-Err c =
    let yes : is_length c.args.text.now ≡ true = sym c.is_length.ensures ∙ c.if-not-is_length.false in
    long_length c.args.text.now c.in-Err.field-0 yes c.in-Err.ensures.value.0
