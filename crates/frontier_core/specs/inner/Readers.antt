-- What proofs alone need beside `Readers`.
use Rattle.std.specs.Prelude.{ℕ}
use Rattle.std.specs.Borrow.{Bor}
use Rattle.frontier_core.specs.Tables.{Text}
use Rattle.frontier_core.specs.Machine.{Slot, slot}
use Rattle.frontier_core.specs.declared.progress.Progress.{Progress}
use Rattle.address.specs.declared.address.Address.{Address}

-- what an item of the table shows
abbrev pub item_slot : Bor Address × ℕ × Bor Progress → Text × Slot
item_slot (address, depth, progress) = (address.now, slot depth progress.now)
