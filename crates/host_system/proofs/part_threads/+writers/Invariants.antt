-- A closure is between a call and the one for a writer less.
use Rattle.std.proofs.Common.{◌+◌, ◌*◌}
use Rattle.host_system.proofs.part_threads.+writers.Given as goal

abbrev pub decreases-join+arg3 : goal.decreases-join+arg3
decreases-join+arg3 g l = 2 * l.others + 2

abbrev pub decreases-write_in : goal.decreases-write_in
decreases-write_in g l = 2 * l.writers + 1
