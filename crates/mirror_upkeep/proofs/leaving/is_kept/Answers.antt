-- What the search by halves finds.
use Rattle.std.proofs.Common.{◌∙◌}
use Rattle.mirror_upkeep.proofs.NameLaws.{ascending_found}
use Rattle.mirror_upkeep.proofs.leaving.is_kept.Goals as goal

pub returns : goal.returns
returns c = c.is_ok.ensures.value ∙ ascending_found c.args.kept.now c.args.at.now c.binary_search.result c.requires c.binary_search.ensures.bound c.binary_search.ensures.position
