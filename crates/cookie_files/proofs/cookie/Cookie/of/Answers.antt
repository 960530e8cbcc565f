use Rattle.std.proofs.Common.{◌∙◌, ap}
use Rattle.std.specs.List.{list_any}
use Rattle.cookie_files.specs.Lines.{is_bad, is_bad_in_name}
use Rattle.cookie_files.specs.inner.FieldsView.{fields_value}
use Rattle.cookie_files.proofs.CleanLemmas.{good_fields}
use Rattle.cookie_files.proofs.cookie.Cookie.of.Goals as goal

pub invariant_of-result : goal.invariant_of-result
invariant_of-result c =
    let good = good_fields (fields_value c.args.fields.now) c.requires in
    (ap (list_any is_bad_in_name) c.in_ok-from_slice-2.ensures.items ∙ good.0, ap (list_any is_bad) c.in_ok-from_slice-3.ensures.items ∙ good.1)
