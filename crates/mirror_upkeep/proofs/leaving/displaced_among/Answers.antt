-- One more name, if it goes, before those of the rest.
use Rattle.std.proofs.Common.{◌∙◌, ◌++◌, map, ap, string_bytes}
use Rattle.std.specs.List.{filter}
use Rattle.mirror_index.specs.Entries.{Text}
use Rattle.mirror_upkeep.specs.Leaving.{displaced_name, is_displaced}
use Rattle.mirror_upkeep.specs.inner.Lent.{lent_text}
use Rattle.mirror_upkeep.proofs.LeavingLaws.{one_more_name}
use Rattle.mirror_upkeep.proofs.leaving.displaced_among.Goals as goal

pub names-preserved : goal.names-preserved
names-preserved c =
    let goes = is_displaced (map lent_text c.args.names.now) in
    one_more_name goes (string_bytes c.in-Some.name.now) (map string_bytes c.in-Some.later.now) (map string_bytes c.names.rest.now)
    (map string_bytes c.names.leaving.items) (map string_bytes c.push_displaced.new.leaving.items) (filter goes (map string_bytes c.args.alone.now))
    (ap (map string_bytes) c.in-Some.ensures.cases.0)
    (c.in_ok-push_displaced.ensures ∙ ap (λ (name : Text). map string_bytes c.names.leaving.items ++ displaced_name (map lent_text c.args.names.now) name) c.as_str.ensures.value)
    c.names.invariant
