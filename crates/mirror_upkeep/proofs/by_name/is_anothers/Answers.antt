-- The first place whose name isn't before this one.
use Rattle.std.proofs.Common.{rules}
use Rattle.std.proofs.lemmas.Fn.{always_returns_same}
use Rattle.mirror_upkeep.specs.inner.NamedPlaces.{is_before}
use Rattle.mirror_upkeep.proofs.ByNameLaws.{parted, partitioned}
use Rattle.mirror_upkeep.proofs.by_name.is_anothers.Goals as goal

pub returns : goal.returns
returns c by =
    let entries = c.args.entries.now in
    let places = c.args.by_name.now in
    let name = c.args.name.now in
    let point = c.partition_point-first.ensures.partitioned (is_before entries name) (always_returns_same _ _ _ (λ a r f k. search rules)) (partitioned entries places name by) in
    c.is_anothers_from.ensures by (parted entries places name c.partition_point-first.result point)
