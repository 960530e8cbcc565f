-- How the code's own parts are seen as a harvest.
use Rattle.std.specs.Prelude.{List, Option}
use Rattle.frontier_core.specs.Tables.{Text}
use Rattle.frontier_core.specs.Readers.{Recorded, Ruled}
use Rattle.frontier_core.specs.Traced.{Traced}
use Rattle.harvest.specs.declared.entry.HarvestEntry.{HarvestEntry}
use Rattle.harvest.specs.Harvests.{Harvested, plan_of, state_of, trace_of}

-- the harvest of a frontier, if there is one, with these entries, records, rules, kept pages and bodies
abbrev pub harvest_of : {B : Type 0} → Option Traced → List HarvestEntry → List Recorded → List Ruled → List Text → List B → Harvested B
harvest_of frontier entries records rules kept bodies = record {
  plan = plan_of frontier;
  state = state_of frontier;
  trace = trace_of frontier;
  entries = entries;
  records = records;
  rules = rules;
  kept = kept;
  bodies = bodies;
}
