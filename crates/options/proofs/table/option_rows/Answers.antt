-- The rows that the code has are the table.
use Rattle.std.proofs.Common.{refl}
use Rattle.options.specs.Table.{table}
use Rattle.options.proofs.table.option_rows.Goals as goal

pub returns : goal.returns
unfolding table
returns c = refl
