-- What a harvest says of each address that was found.
use Rattle.std.specs.Prelude.{◌≡◌, ℕ, Bool, true, false, List, map, Option, Some, Contains, MatchOption, slice_get}
use Rattle.fetcher.specs.declared.outcome.Outcome.{Outcome}
use Rattle.frontier_core.specs.Tables.{Text}
use Rattle.frontier_core.specs.Machine.{State}
use Rattle.frontier_core.specs.Readers.{HeldEntry, Recorded, Ruled, entry_of}
use Rattle.frontier_core.specs.declared.condition.AddressState.{AddressState}
use Rattle.frontier_core.specs.declared.condition.AddressState.TheVariants.{Parked, Waiting, Out, Answered, Refused}
use Rattle.harvest.specs.declared.entry.HarvestEntry.{HarvestEntry}

-- an address with its label, and whether robots rules refuse it
abbrev pub Seen : Type 0
Seen = Text × ℕ × Bool

-- robots rules refuse it (RFC 9309, section 2.2.2)
abbrev pub is_refused : AddressState → Bool
is_refused Parked = false
is_refused Waiting = false
is_refused (Out holder) = false
is_refused Answered = false
is_refused Refused = true

-- what is to be said of a held address
abbrev pub seen_of : HeldEntry → Seen
seen_of held = (held.0, held.1, is_refused held.2)

-- what is to be said of the addresses that a state holds, in order of discovery
abbrev pub seen_in : State → List Seen
seen_in s = map (λ entry. seen_of (entry_of entry)) s.entries

-- what an entry says
abbrev pub said_by : HarvestEntry → Seen
said_by entry = (entry.address, entry.depth, entry.refused)

-- the addresses of records
abbrev pub recorded_addresses : List Recorded → List Text
recorded_addresses records = map (λ recorded. recorded.0) records

-- the origins of known rules
abbrev pub ruled_origins : List Ruled → List Text
ruled_origins rules = map (λ ruled. ruled.0) rules

-- the place of an address's outcome in the records, or none if they have no outcome of it
abbrev pub IsPlaceOf : List Recorded → Text → Option ℕ → Type 0
IsPlaceOf records u place = MatchOption place (¬ Contains (recorded_addresses records) u) (λ i. (x : Outcome) × (slice_get records i ≡ Some (u, x)))
