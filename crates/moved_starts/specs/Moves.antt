-- What a person reads of starts that moved away: where their redirects lead that isn't followed, and the words that would go there.
use Rattle.std.specs.Prelude.{◌&&◌, ◌++◌, ℕ, Bool, true, false, is_some, List, [], Option, None, Some, Result, Ok, Err, bytes_eq, codes, nat_eq, option_map, suc, zero, if◌then◌else◌}
use Rattle.std.specs.List.{find, flat_map, list_any, starts_with}
use Rattle.std.specs.Option.{option_map_or}
use Rattle.address.specs.Address.{authority_of, host_of, path_query_of, scheme_of}
use Rattle.address.specs.declared.scheme.Scheme.{Scheme}
use Rattle.address.specs.declared.scheme.Scheme.TheVariants as scheme
use Rattle.fetcher.specs.declared.edge.EdgeKind.TheVariants.{Redirect}
use Rattle.fetcher.specs.declared.outcome.Outcome.{Outcome}
use Rattle.fetcher.specs.declared.outcome.Outcome.TheVariants.{Page, Moved, Leaf, Fault}
use Rattle.fetcher.specs.Statuses.{is_redirect}
use Rattle.follow_filters.specs.declared.plan.Plan.{Plan}
use Rattle.follow_filters.specs.declared.rule.FollowRule.{FollowRule}
use Rattle.follow_filters.specs.declared.rule.FollowRule.TheVariants as rule
use Rattle.follow_filters.specs.Plans.{starts}
use Rattle.follow_filters.specs.Rules.{edge_verdict}
use Rattle.moved_starts.specs.declared.moves.TheConstants.{MAX_MOVES}

-- bytes of a text
abbrev pub Text : Type 0
Text = List ℕ

-- an address with the outcome that is recorded of it
abbrev pub Recorded : Type 0
Recorded = Text × Outcome

-- ---- where redirects end

-- what is recorded of an address
abbrev pub outcome_in : List Recorded → Text → Option Outcome
outcome_in records at = option_map (λ recorded. recorded.1) (find (λ recorded. bytes_eq recorded.0 at) records)

-- the target of a redirect that is recorded too
abbrev pub if_recorded : List Recorded → Text → Option Text
if_recorded records target = if is_some (outcome_in records target) then Some target else None

-- where an outcome redirects, if what is there is recorded
abbrev pub next_of : List Recorded → Option Outcome → Option Text
next_of records (Some (Moved status target)) = if_recorded records target
next_of records (Some (Page status links)) = None
next_of records (Some (Leaf status)) = None
next_of records (Some (Fault kind)) = None
next_of records None = None

-- where what is recorded of an address redirects, if what is there is recorded
abbrev pub next_in : List Recorded → Text → Option Text
next_in records at = next_of records (outcome_in records at)

-- the end of the redirects from an address that were followed, of which at most so many are looked at
abbrev pub end_of : List Recorded → ℕ → Text → Text
end_of records zero at = at
end_of records (suc most) at = option_map_or (λ target. end_of records most target) (next_in records at) at

-- ---- what is said

-- the words by which a link to this host is followed; a host that is written in brackets is no domain
abbrev pub words_to : Text → Text
words_to host = if starts_with nat_eq host (codes "[") then codes "-H" else codes "-D " ++ host ++ codes " -H"

-- the option that leaves an address out
abbrev pub option_of : FollowRule → Text
option_of rule.RobotsFile = []
option_of rule.Host = []
option_of rule.Parent = codes "-np"
option_of rule.Domain = codes "-D"
option_of rule.ExcludedDomain = codes "--exclude-domains"
option_of rule.NotIncluded = codes "-I"
option_of rule.Excluded = codes "-X"
option_of rule.NotAccepted = codes "-A"
option_of rule.Rejected = codes "-R"
option_of rule.ExpressionMissing = codes "--accept-regex"
option_of rule.ExpressionFound = codes "--reject-regex"

-- why a redirect isn't followed to this target, and what would go there: each start is requested, whatever filters say
abbrev pub advice_on : FollowRule → Text → Text
advice_on rule.RobotsFile target = codes ", which is a robots file"
advice_on rule.Host target = codes ": give that as START, or " ++ words_to (host_of target)
advice_on other target = codes ": give that as START, since " ++ option_of other ++ codes " leaves it out"

-- of a start whose redirects lead to a target, by the rule that this doesn't meet
abbrev pub stopped_line : Text → Text → Result (Unit {0}) FollowRule → Text
stopped_line start target (Ok followed) = []
stopped_line start target (Err unmet) = start ++ codes " moved to " ++ target ++ advice_on unmet target ++ codes "\n"

-- the address with https in place of http; with a port of its own it isn't known
abbrev pub secure_text : Text → Text
secure_text at = if bytes_eq (authority_of at) (host_of at) then codes "https://" ++ host_of at ++ path_query_of at else codes "the https address"

-- what would go on from this address
unfoldable pub secure_advice : Text → Text
secure_advice at = codes " to no http address: if to https, give " ++ secure_text at ++ codes " as START, with --https-proxy=URL (docs/HTTPS.md)"

-- the end of redirects, if that isn't the start itself
unfoldable pub by_way_of : Text → Text → Text
by_way_of start end = if bytes_eq start end then codes " moved" else codes " moved to " ++ end ++ codes ", and from there"

-- of a start whose redirects lead from this http address to none that is http
abbrev pub insecure_line : Text → Text → Text
insecure_line start end = start ++ by_way_of start end ++ secure_advice end ++ codes "\n"

-- of a start whose redirects lead from this address to none, by its scheme
abbrev pub unread_line : Text → Text → Scheme → Text
unread_line start end scheme.Https = []
unread_line start end scheme.Http = insecure_line start end

-- of a start whose redirects end at this address, by what is recorded of that
abbrev pub end_line : Plan → Text → Text → Option Outcome → Text
end_line plan start end (Some (Moved status target)) = stopped_line start target (edge_verdict plan end Redirect target)
end_line plan start end (Some (Leaf status)) = if is_redirect status then unread_line start end (scheme_of end) else []
end_line plan start end other = []

-- of a start
abbrev pub start_line : Plan → List Recorded → Text → Text
start_line plan records start = end_line plan start (end_of records MAX_MOVES start) (outcome_in records (end_of records MAX_MOVES start))

-- the outcome redirects, whether or not to an address
abbrev pub is_moved : Outcome → Bool
is_moved (Moved status target) = true
is_moved (Leaf status) = is_redirect status
is_moved other = false

-- the address is a start of the plan
abbrev pub is_start : Plan → Text → Bool
is_start plan at = list_any (λ start. bytes_eq at start) (starts plan)

-- of what is recorded of an address: nothing unless it is a start that redirects
unfoldable pub move_line : Plan → List Recorded → Recorded → Text
move_line plan records recorded = if is_moved recorded.1 && is_start plan recorded.0 then start_line plan records recorded.0 else []

-- of what is recorded: a line for each start that moved away
abbrev pub moves_text : Plan → List Recorded → Text
moves_text plan records = flat_map (move_line plan records) records
