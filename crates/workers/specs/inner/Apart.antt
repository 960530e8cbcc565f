-- Notes of several workers that are put in order in place.
use Rattle.std.specs.Prelude.{◌≡◌, List, Contains, IsPermutation}
use Rattle.frontier_core.specs.Tables.{Text}
use Rattle.workers.specs.declared.note.Notes.{Notes}
use Rattle.workers.specs.declared.worker.Seat.{Seat}
use Rattle.workers.specs.inner.Notes.{addresses, origins}
use Rattle.address.specs.AddressOrder.{IsAscending}

-- the notes are in the order of addresses and origins, and none occurs twice
pub record AreInOrder {B : Type 0} (notes : Notes B) : Type 0 where
  pub pages : IsAscending (addresses notes.pages.items)
  pub rules : IsAscending (origins notes.rules.items)

-- the same fetcher sits there, and what was noted is noted in some order
pub record IsOrdered {F B : Type 0} (old new : Seat F B) : Type 0 where
  pub fetcher : new.fetcher ≡ old.fetcher
  pub pages : IsPermutation old.notes.pages.items new.notes.pages.items
  pub rules : IsPermutation old.notes.rules.items new.notes.rules.items

-- no name is in both lists
pub record AreNotedApart (names others : List Text) : Type 0 where
  pub apart : (u : Text) → Contains names u → ¬ Contains others u
