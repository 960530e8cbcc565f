use Rattle.std.proofs.Common.{◌≡◌}
use Rattle.host_system.proofs.disk.PageFolder.take_back.Given as goal

abbrev pub invariant-loop-i : goal.invariant-loop-i
invariant-loop-i g l = l.self.inner ≡ l.initial.self.inner
