-- The rejected links, as they are found: page by page, edge by edge.
use Rattle.std.specs.Prelude.{List, Option, None, bytes_eq, option_map, if◌then◌else◌}
use Rattle.std.specs.List.{filter_map, flat_map, list_any}
use Rattle.fetcher.specs.Outcomes.{edges}
use Rattle.fetcher.specs.declared.edge.Edge.{Edge}
use Rattle.fetcher.specs.declared.edge.EdgeKind.{EdgeKind}
use Rattle.follow_filters.specs.Rules.{first_unmet}
use Rattle.follow_filters.specs.declared.plan.Plan.{Plan}
use Rattle.frontier_core.specs.Tables.{Text}
use Rattle.frontier_core.specs.Readers.{Recorded}
use Rattle.rejected_links.specs.declared.reason.Reason.{Reason}
use Rattle.rejected_links.specs.Lines.{Rejected}
use Rattle.rejected_links.specs.Reasons.{reason_of}

-- why a page's edge is rejected, if these addresses were found
abbrev pub rejection : Plan → List Text → Text → EdgeKind → Text → Option Reason
rejection plan found page kind target = if list_any (bytes_eq target) found then None else option_map reason_of (first_unmet plan page kind target)

-- the rejected link of an edge, if it is rejected
abbrev pub rejected_edge : Plan → List Text → Text → Edge → Option Rejected
rejected_edge plan found page edge =
    option_map (λ why. record { reason = why; target = edge.target; page = page }) (rejection plan found page edge.kind edge.target)

-- those of all records
abbrev pub rejected_in : Plan → List Text → List Recorded → List Rejected
rejected_in plan found records = flat_map (λ recorded. filter_map (rejected_edge plan found recorded.0) (edges recorded.1)) records
