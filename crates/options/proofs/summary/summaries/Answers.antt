-- The texts that the code has are those of the table.
use Rattle.std.proofs.Common.{refl}
use Rattle.options.specs.Table.{summaries}
use Rattle.options.proofs.summary.summaries.Goals as goal

pub returns : goal.returns
unfolding summaries
returns c = refl
