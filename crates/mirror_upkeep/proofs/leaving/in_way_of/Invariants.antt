-- The files so far, and those of the rest.
use Rattle.std.proofs.Common.{◌≡◌, ◌++◌, map, length}
use Rattle.std.specs.List.{filter}
use Rattle.std.specs.String.{string_bytes}
use Rattle.mirror_upkeep.specs.Leaving.{files, is_to_go}
use Rattle.mirror_upkeep.specs.inner.Lent.{lent_text}
use Rattle.mirror_upkeep.proofs.leaving.in_way_of.Given as goal

abbrev pub invariant-entries : goal.invariant-entries
invariant-entries l =
    map string_bytes l.leaving.items ++ files l.backs_up (map lent_text l.names) (filter (is_to_go (map lent_text l.names) l.kept) l.rest)
    ≡ files l.backs_up (map lent_text l.names) (filter (is_to_go (map lent_text l.names) l.kept) l.earlier)

abbrev pub decreases-entries : goal.decreases-entries
decreases-entries l = length l.rest
