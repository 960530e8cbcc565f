-- The names so far, and the rest.
use Rattle.std.proofs.Common.{◌≡◌, ◌++◌, map, length}
use Rattle.mirror_upkeep.specs.Joined.{names}
use Rattle.mirror_upkeep.specs.inner.Lent.{lent_text}
use Rattle.mirror_upkeep.proofs.names.entry_names.Given as goal

abbrev pub invariant-entries : goal.invariant-entries
invariant-entries l = map lent_text l.sorted.items ++ names l.rest ≡ names l.entries

abbrev pub decreases-entries : goal.decreases-entries
decreases-entries l = length l.rest
