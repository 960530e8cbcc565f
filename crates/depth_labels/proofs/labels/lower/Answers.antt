use Rattle.indexmap.proofs.CallerLemmas.{index_map_len-with_value_at}
use Rattle.depth_labels.proofs.labels.lower.Goals as goal

pub returns-then-depth-index-clause-len : goal.returns-then-depth-index-clause-len
returns-then-depth-index-clause-len c = index_map_len-with_value_at c.args.table.now c.args.number c.args.depth
