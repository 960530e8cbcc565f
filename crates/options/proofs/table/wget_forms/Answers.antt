-- The texts that the code has are those of the table.
use Rattle.std.proofs.Common.{refl}
use Rattle.options.specs.Table.{wget}
use Rattle.options.proofs.table.wget_forms.Goals as goal

pub returns : goal.returns
unfolding wget
returns c = refl
