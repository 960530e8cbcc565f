-- Which links of a harvest are rejected, and the log of them.
use Rattle.std.specs.Prelude.{◌≡◌, ◌↔◌, ◌++◌, ℕ, List, Some, Contains, map}
use Rattle.std.specs.List.{flat_map}
use Rattle.address.specs.AddressOrder.{IsAscending}
use Rattle.fetcher.specs.Outcomes.{edges}
use Rattle.fetcher.specs.declared.edge.EdgeKind.{EdgeKind}
use Rattle.fetcher.specs.declared.outcome.Outcome.{Outcome}
use Rattle.follow_filters.specs.Rules.{IsFirstUnmetBy}
use Rattle.follow_filters.specs.declared.plan.Plan.{Plan}
use Rattle.follow_filters.specs.declared.rule.FollowRule.{FollowRule}
use Rattle.frontier_core.specs.Tables.{Text}
use Rattle.harvest.specs.Harvests.{Harvested}
use Rattle.harvest.specs.declared.entry.HarvestEntry.{HarvestEntry}
use Rattle.rejected_links.specs.Lines.{Rejected, line_text, header}
use Rattle.rejected_links.specs.Reasons.{reason_of}

-- the addresses of entries
abbrev pub found_addresses : List HarvestEntry → List Text
found_addresses entries = map (λ entry. entry.address) entries

-- the link is rejected: an answered page has it, as a link, as something that it shows or as a redirect; where it leads wasn't found,
-- and the reason is that of the first rule that it doesn't meet
pub record IsRejected {B : Type 0} (h : Harvested B) (link : Rejected) : Type 0 where
  pub plan : Plan
  pub outcome : Outcome
  pub kind : EdgeKind
  pub rule : FollowRule
  pub planned : h.plan ≡ Some plan
  pub answered : Contains h.records (link.page, outcome)
  pub edge : Contains (edges outcome) (record { target = link.target; kind = kind })
  pub unfound : ¬ Contains (found_addresses h.entries) link.target
  pub unmet : IsFirstUnmetBy plan link.page kind link.target rule
  pub reason : link.reason ≡ reason_of rule

-- the text is the log of the harvest: the line of the columns' names and one for each rejected link, in the order of their bytes,
-- so that no line is there twice
pub record IsLogOf {B : Type 0} (h : Harvested B) (text : List ℕ) : Type 0 where
  pub links : List Rejected
  pub whole : text ≡ header ++ flat_map line_text links
  pub rejected : (link : Rejected) → Contains links link ↔ IsRejected h link
  pub ascending : IsAscending (map line_text links)
