-- What is listed so far and what is left are all of it.
use Rattle.std.proofs.Common.{◌≡◌, ◌++◌, length, map}
use Rattle.frontier_core.specs.Readers.{item_entry}
use Rattle.harvest.proofs.gathering.list_held.Given as goal

abbrev pub invariant-entries : goal.invariant-entries
invariant-entries l = map item_entry l.held.items ++ l.entries ≡ l.initial.entries

abbrev pub decreases-entries : goal.decreases-entries
decreases-entries l = length l.entries
