-- What a retrieval brings in, as contracts see it.
use Rattle.std.specs.Prelude.{List, [], Option, Some, None}
use Rattle.follow_filters.specs.declared.plan.Plan.{Plan}
use Rattle.frontier_core.specs.Tables.{Text}
use Rattle.frontier_core.specs.Machine.{State}
use Rattle.frontier_core.specs.Traced.{Traced}
use Rattle.frontier_core.specs.Readers.{Recorded, Ruled}
use Rattle.harvest.specs.declared.entry.HarvestEntry.{HarvestEntry}
use Rattle.frontier_core.specs.declared.event.Event.{Event}

-- a harvest: the plan by which it went, the state in which its frontier was left and the lines of what happened to it;
-- its entries, its records and the pages that are kept in address order, the body of each of these, and the known rules in
-- origin order. If memory was short there is no plan, and nothing else.
pub record Harvested (B : Type 0) : Type 0 where
  pub plan : Option Plan
  pub state : State
  pub trace : List Event
  pub entries : List HarvestEntry
  pub records : List Recorded
  pub rules : List Ruled
  pub kept : List Text
  pub bodies : List B

-- a state in which nothing is held
abbrev pub nothing : State
nothing = record { entries = []; origins = []; cause = None }

-- the plan of a frontier, if there is one
abbrev pub plan_of : Option Traced → Option Plan
plan_of None = None
plan_of (Some frontier) = Some frontier.plan

-- its state, or one in which nothing is held
abbrev pub state_of : Option Traced → State
state_of None = nothing
state_of (Some frontier) = frontier.state

-- its trace, or no line
abbrev pub trace_of : Option Traced → List Event
trace_of None = []
trace_of (Some frontier) = frontier.trace
