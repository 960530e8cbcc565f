use Rattle.std.proofs.Common.{◌++◌, map, ap, ◌∙◌}
use Rattle.std.proofs.lemmas.Result.{IfOk-equal}
use Rattle.std.specs.String.{string_bytes}
use Rattle.local_names.specs.PlainNames.{cut_in}
use Rattle.local_names.specs.inner.Units.{unit_text, started, is_new}
use Rattle.local_names.proofs.unit.push_within.Goals as goal

pub returns : goal.returns
returns c =
    let old = string_bytes c.args.name.now in
    IfOk-equal _ _ _ _ c.push_escaped.ensures
    (ap (λ us. started old ++ cut_in (is_new old) c.args.room (map unit_text us)) c.deref.ensures.value ∙ ap (λ us. started old ++ cut_in (is_new old) c.args.room us) c.escape_dots.ensures)
