-- No put failed.
use Rattle.std.proofs.Common.{◌≡◌}
use Rattle.local_tree.proofs.disk_folder.DiskFolder.put_all_by.Given as goal

abbrev pub invariant-loop-i : goal.invariant-loop-i
invariant-loop-i g l = l.self.failed ≡ l.initial.self.failed
