-- The texts that the code has are those of the table.
use Rattle.std.proofs.Common.{refl}
use Rattle.options.specs.Table.{commands}
use Rattle.options.proofs.table.commands.Goals as goal

pub returns : goal.returns
unfolding commands
returns c = refl
