use Rattle.std.proofs.Common.{◌++◌, map, ap, ◌∙◌}
use Rattle.std.proofs.lemmas.Result.{IfOk-equal}
use Rattle.std.specs.String.{string_bytes}
use Rattle.local_names.specs.PlainNames.{cut_in}
use Rattle.local_names.specs.inner.Units.{unit_text, started, is_new}
use Rattle.local_names.proofs.UnitLaws.{started_new}
use Rattle.local_names.proofs.unit.push_escaped.Goals as goal

pub returns : goal.returns
returns c =
    let old = string_bytes c.args.name.now in
    let units = map unit_text c.args.units.now in
    IfOk-equal _ _ _ _ c.push_apart.ensures
    (ap (λ n. n ++ cut_in (is_new n) c.args.room units) c.in_ok-push_slash.ensures ∙ ap (λ new. started old ++ cut_in new c.args.room units) (started_new old))
