-- Those so far are of this name and address.
use Rattle.mirror_upkeep.proofs.ByNameLaws.{AreThis}
use Rattle.mirror_upkeep.proofs.by_name.is_anothers_from.Given as goal

abbrev pub invariant-loop-k : goal.invariant-loop-k
invariant-loop-k l = AreThis l.entries l.by_name l.name l.at l.first l.k
