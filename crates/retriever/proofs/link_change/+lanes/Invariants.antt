-- A closure is between a call and the one for a thread less.
use Rattle.std.proofs.Common.{◌+◌, ◌*◌}
use Rattle.retriever.proofs.link_change.+lanes.Given as goal

abbrev pub decreases-join+arg3 : goal.decreases-join+arg3
decreases-join+arg3 g l = 2 * l.others + 2

abbrev pub decreases-change_in : goal.decreases-change_in
decreases-change_in g l = 2 * l.threads + 1
