-- The texts that the code has are those of the table.
use Rattle.std.proofs.Common.{refl}
use Rattle.options.specs.Table.{own}
use Rattle.options.proofs.table.own_forms.Goals as goal

pub returns : goal.returns
unfolding own
returns c = refl
