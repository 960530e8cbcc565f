-- What workers do at their seats.
use Rattle.std.specs.Prelude.{◌≡◌, ◌<◌, ℕ, List, map, length, get_or}
use Rattle.std.specs.List.{AllZip, flat_map}
use Rattle.follow_filters.specs.declared.plan.Plan.{Plan}
use Rattle.fetcher.specs.declared.fetcher.Fetcher.{Ghosts as Meaning}
use Rattle.workers.specs.declared.note.PageNote.{PageNote}
use Rattle.workers.specs.declared.note.RulesNote.{RulesNote}
use Rattle.workers.specs.declared.worker.Seat.{Seat}
use Rattle.workers.specs.inner.Notes.{Goes}

-- what a worker did at its seat, under the seat's number
abbrev pub SeatGoes : {F B : Type 0} → Meaning F B → Plan → Seat F B → Seat F B → Type 0
SeatGoes m plan old new = Goes m plan old.number (old.fetcher, old.notes) (new.fetcher, new.notes)

-- what the workers did, each at its own seat
abbrev pub AllGo : {F B : Type 0} → Meaning F B → Plan → List (Seat F B) → List (Seat F B) → Type 0
AllGo m plan olds news = AllZip (SeatGoes m plan) olds news

-- who sits there, in order
abbrev pub fetchers_of : {F B : Type 0} → List (Seat F B) → List F
fetchers_of seats = map (λ seat. seat.fetcher) seats

-- each seat has its place's number, from 0
abbrev pub AreNumbered : {F B : Type 0} → List (Seat F B) → Type 0
AreNumbered {F = F} {B = B} seats = (k : ℕ) (d : Seat F B) → k < length seats → (get_or seats k d).number ≡ k

-- all notes, seat by seat
abbrev pub page_notes : {F B : Type 0} → List (Seat F B) → List (PageNote B)
page_notes seats = flat_map (λ seat. seat.notes.pages.items) seats

abbrev pub rules_notes : {F B : Type 0} → List (Seat F B) → List RulesNote
rules_notes seats = flat_map (λ seat. seat.notes.rules.items) seats
