-- What a run kept, under which names, and where it was redirected.
use Rattle.std.specs.Prelude.{◌≡◌, ℕ, List, [], ◌∷◌, Option, Some, None, length, map, if◌then◌else◌}
use Rattle.std.specs.Option.{option_and_then}
use Rattle.std.specs.Str.{bytes_eq}
use Rattle.address.specs.Address.{AddressText}
use Rattle.address.specs.AddressOrder.{IsAscending}
use Rattle.fetcher.specs.declared.outcome.Outcome.{Outcome}
use Rattle.fetcher.specs.declared.outcome.Outcome.TheVariants.{Page, Moved, Leaf, Fault}

-- an address with the outcome that is recorded of it
abbrev pub Recorded : Type 0
Recorded = AddressText × Outcome

-- the addresses of records
abbrev pub recorded_addresses : List Recorded → List AddressText
recorded_addresses records = map (λ recorded. recorded.0) records

-- the pages that a run kept, in address order, the name of each in its place, and the outcomes that it recorded
pub record Kept : Type 0 where
  pub kept : List AddressText
  pub names : List (List ℕ)
  pub records : List Recorded

-- each page has a name, and pages and outcomes are in address order
pub record IsOrdered (run : Kept) : Type 0 where
  pub named : length run.names ≡ length run.kept
  pub kept : IsAscending run.kept
  pub records : IsAscending (recorded_addresses run.records)

-- the name of a page among those that are kept, each of which has its name in its place
abbrev pub name_among : List AddressText → List (List ℕ) → AddressText → Option (List ℕ)
name_among [] names u = None
name_among (page ∷ kept) [] u = None
name_among (page ∷ kept) (name ∷ names) u = if bytes_eq page u then Some name else name_among kept names u

-- the outcome that these records have of an address
abbrev pub outcome_among : List Recorded → AddressText → Option Outcome
outcome_among [] u = None
outcome_among (recorded ∷ records) u = if bytes_eq recorded.0 u then Some recorded.1 else outcome_among records u

-- where an outcome redirects
abbrev pub target : Outcome → Option AddressText
target (Page status edges) = None
target (Moved status to) = Some to
target (Leaf status) = None
target (Fault kind) = None

-- the name of the page that the run kept of an address
abbrev pub name_in : Kept → AddressText → Option (List ℕ)
name_in run u = name_among run.kept run.names u

-- the address to which the run was redirected from another
abbrev pub target_in : Kept → AddressText → Option AddressText
target_in run u = option_and_then target (outcome_among run.records u)
