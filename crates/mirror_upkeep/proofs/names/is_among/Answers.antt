-- What the search by halves finds.
use Rattle.std.proofs.Common.{◌∙◌}
use Rattle.mirror_upkeep.proofs.NameLaws.{lent_found}
use Rattle.mirror_upkeep.proofs.names.is_among.Goals as goal

pub returns : goal.returns
returns c = c.is_ok.ensures.value ∙ lent_found c.args.names.now c.args.name.now c.binary_search.result c.requires c.binary_search.ensures.bound c.binary_search.ensures.position
