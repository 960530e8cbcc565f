-- The names so far.
use Rattle.mirror_upkeep.specs.inner.NamedPlaces.{AreNamed}
use Rattle.mirror_upkeep.proofs.by_name.named_places.Given as goal

abbrev pub invariant-loop-place : goal.invariant-loop-place
invariant-loop-place l = AreNamed l.entries l.named.items l.place
