use Rattle.std.proofs.Common.{◌≡◌, drop}
use Rattle.memory_disk.proofs.memory.MemoryDisk.go_back.Given as goal

abbrev pub invariant-loop-rest : goal.invariant-loop-rest
invariant-loop-rest l = drop l.rest l.self.acts.items ≡ drop l.ago l.fn.self.acts.items

abbrev pub decreases-loop-rest : goal.decreases-loop-rest
decreases-loop-rest l = l.rest
