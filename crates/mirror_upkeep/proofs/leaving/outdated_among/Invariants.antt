-- The copies so far, and those of the rest.
use Rattle.std.proofs.Common.{◌≡◌, ◌++◌, map, length}
use Rattle.std.specs.List.{filter}
use Rattle.std.specs.String.{string_bytes}
use Rattle.mirror_upkeep.specs.Leaving.{is_renewed, originals}
use Rattle.mirror_upkeep.specs.inner.Lent.{lent_text}
use Rattle.mirror_upkeep.proofs.leaving.outdated_among.Given as goal

abbrev pub invariant-entries : goal.invariant-entries
invariant-entries l =
    map string_bytes l.leaving.items ++ originals l.backs_up (map lent_text l.names) (filter (is_renewed (map lent_text l.renewed)) l.rest)
    ≡ originals l.backs_up (map lent_text l.names) (filter (is_renewed (map lent_text l.renewed)) l.earlier)

abbrev pub decreases-entries : goal.decreases-entries
decreases-entries l = length l.rest
