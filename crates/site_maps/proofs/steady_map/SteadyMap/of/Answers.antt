-- The map has no fault line.
use Rattle.site_maps.proofs.SteadyLaws.{never_fails}
use Rattle.site_maps.proofs.steady_map.SteadyMap.of.Goals as goal

pub invariant_of-result : goal.invariant_of-result
invariant_of-result c = never_fails c.args.map.answers c.requires
