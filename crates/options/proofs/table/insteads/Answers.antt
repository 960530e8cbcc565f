-- The texts that the code has are those of the table.
use Rattle.std.proofs.Common.{refl}
use Rattle.options.specs.Table.{instead}
use Rattle.options.proofs.table.insteads.Goals as goal

pub returns : goal.returns
unfolding instead
returns c = refl
