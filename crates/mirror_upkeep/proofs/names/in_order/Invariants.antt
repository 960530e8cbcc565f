-- The names so far, and the rest.
use Rattle.std.proofs.Common.{◌≡◌, ◌++◌, map, length}
use Rattle.std.specs.String.{string_bytes}
use Rattle.mirror_upkeep.specs.inner.Lent.{lent_text}
use Rattle.mirror_upkeep.proofs.names.in_order.Given as goal

abbrev pub invariant-names : goal.invariant-names
invariant-names l = map lent_text l.sorted.items ++ map string_bytes l.rest ≡ map string_bytes l.names

abbrev pub decreases-names : goal.decreases-names
decreases-names l = length l.rest
