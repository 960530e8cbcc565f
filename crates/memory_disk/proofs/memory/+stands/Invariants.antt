use Rattle.std.proofs.Common.{length}
use Rattle.memory_disk.proofs.memory.+stands.Given as goal

abbrev pub decreases-stands : goal.decreases-stands
decreases-stands l = length l.acts.now
