-- The names so far, and those of the rest.
use Rattle.std.proofs.Common.{◌≡◌, ◌++◌, map, length}
use Rattle.std.specs.List.{filter}
use Rattle.std.specs.String.{string_bytes}
use Rattle.mirror_upkeep.specs.Leaving.{is_displaced}
use Rattle.mirror_upkeep.specs.inner.Lent.{lent_text}
use Rattle.mirror_upkeep.proofs.leaving.displaced_among.Given as goal

abbrev pub invariant-names : goal.invariant-names
invariant-names l =
    map string_bytes l.leaving.items ++ filter (is_displaced (map lent_text l.names)) (map string_bytes l.rest)
    ≡ filter (is_displaced (map lent_text l.names)) (map string_bytes l.alone)

abbrev pub decreases-names : goal.decreases-names
decreases-names l = length l.rest
