use Rattle.std.proofs.Common.{ap, ◌∙◌}
use Rattle.std.specs.List.{slice_split, list_any}
use Rattle.local_names.specs.PlainNames.{is_slash}
use Rattle.local_names.specs.inner.LocalNames.{is_outer}
use Rattle.local_names.proofs.LocalLaws.{local_name}
use Rattle.local_names.proofs.local_name.is_local_name.Goals as goal

pub returns : goal.returns
returns c =
    local_name c.has_outer.result (slice_split is_slash c.args.name.now) (c.has_outer.ensures ∙ ap (λ name. list_any is_outer (slice_split is_slash name)) c.as_bytes.ensures.value)
