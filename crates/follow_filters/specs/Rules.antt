-- The rules of following: each is a statement on an edge, that is a page and the address to which it leads, and a plan (GNU Wget manual, chapter Following Links).
use Rattle.std.specs.Prelude.{◌≡◌, ◌≢◌, ◌⊎◌, ⊤, ℕ, Bool, true, false, not, ◌&&◌, ◌||◌, ◌==◌, length, if◌then◌else◌, List, [], ◌∷◌, ◌++◌, codes, nat_eq, bytes_eq, Option, Some, None, Result, Ok, Err}
use Rattle.std.specs.List.{All, Any, starts_with, list_any, list_all, find}
use Rattle.fetcher.specs.declared.edge.EdgeKind.{EdgeKind}
use Rattle.fetcher.specs.declared.edge.EdgeKind.TheVariants.{Link, Inline, Redirect}
use Rattle.address.specs.Address.{host_of, dir_of, file_of, query_of, path_query_of, is_robots_file}
use Rattle.follow_filters.specs.declared.plan.Plan.{Plan}
use Rattle.follow_filters.specs.declared.rule.FollowRule.{FollowRule}
use Rattle.follow_filters.specs.declared.rule.FollowRule.TheVariants as rule
use Rattle.follow_filters.specs.Plans.{starts}
use Rattle.follow_filters.specs.Texts.{BeginsWith}
use Rattle.follow_filters.specs.Domains.{IsInDomain, is_in_domain}
use Rattle.follow_filters.specs.Directories.{IsInDirectory, is_in_directory}
use Rattle.follow_filters.specs.Exempt.{IsExempt, is_exempt_file}
use Rattle.follow_filters.specs.Patterns.{MatchesFile, is_file_match}
use Rattle.expressions.specs.Expressions.{IsFoundIn, is_found}

-- the rules, in the order in which they are asked
abbrev pub rules : List FollowRule
rules =
    rule.RobotsFile ∷ rule.Host ∷ rule.Parent ∷ rule.Domain ∷ rule.ExcludedDomain
    ∷ rule.NotIncluded ∷ rule.Excluded ∷ rule.NotAccepted ∷ rule.Rejected
    ∷ rule.ExpressionMissing ∷ rule.ExpressionFound ∷ []

-- ---- what the rules mean

-- the addresses have one host; the port isn't compared
abbrev pub HasHostOf : List ℕ → List ℕ → Type 0
HasHostOf address other = host_of address ≡ host_of other

-- the address is on the start's host, and its directory is the start's or below it
abbrev pub IsBelow : List ℕ → List ℕ → Type 0
IsBelow address start = HasHostOf address start × BeginsWith (dir_of address) (dir_of start)

-- a start of the plan has the address's host
abbrev pub HasStartHost : Plan → List ℕ → Type 0
HasStartHost plan address = Any (λ start. HasHostOf address start) (starts plan)

-- the address is below a start of its host
abbrev pub IsBelowStart : Plan → List ℕ → Type 0
IsBelowStart plan address = Any (λ start. IsBelow address start) (starts plan)

-- the edge shows its target in the page, or redirects from a page that is on no start's host: no one else leads there
abbrev pub IsShown : Plan → List ℕ → EdgeKind → Type 0
IsShown plan page Link = ⊥
IsShown plan page Inline = ⊤
IsShown plan page Redirect = ¬ HasStartHost plan page

-- the rules on host, parent and domains don't hold for the edge: requisites are spanned, and it is one of those
abbrev pub LeadsAnywhere : Plan → List ℕ → EdgeKind → Type 0
LeadsAnywhere plan page kind = IsShown plan page kind × (plan.span_requisites ≡ true)

-- the address is on the page's host; if requisites are spanned, that is a start's too: links stay at home
abbrev pub StaysHome : Plan → List ℕ → List ℕ → Type 0
StaysHome plan page address = HasHostOf address page × (plan.span_requisites ≡ true → HasStartHost plan page)

-- the address, to which an edge of the page leads, meets the rule
abbrev pub Meets : FollowRule → Plan → List ℕ → EdgeKind → List ℕ → Type 0
Meets rule.RobotsFile plan page kind address = path_query_of address ≢ codes "/robots.txt"
Meets rule.Host plan page kind address = ¬ LeadsAnywhere plan page kind → plan.span_hosts ≡ false → StaysHome plan page address
Meets rule.Parent plan page kind address =
    ¬ LeadsAnywhere plan page kind → plan.no_parent ≡ true → HasStartHost plan address → IsBelowStart plan address
Meets rule.Domain plan page kind address =
    ¬ LeadsAnywhere plan page kind → plan.domains ≢ [] → Any (λ d. IsInDomain d (host_of address)) plan.domains
Meets rule.ExcludedDomain plan page kind address =
    ¬ LeadsAnywhere plan page kind → ¬ Any (λ d. IsInDomain d (host_of address)) plan.exclude_domains
Meets rule.NotIncluded plan page kind address =
    plan.include_dirs ≢ [] → Any (λ d. IsInDirectory plan.ignore_case d (dir_of address)) plan.include_dirs
Meets rule.Excluded plan page kind address = ¬ Any (λ d. IsInDirectory plan.ignore_case d (dir_of address)) plan.exclude_dirs
Meets rule.NotAccepted plan page kind address =
    ¬ IsExempt (file_of address) → plan.accept ≢ [] → Any (λ p. MatchesFile plan.ignore_case p (file_of address)) plan.accept
Meets rule.Rejected plan page kind address =
    ¬ IsExempt (file_of address) → ¬ Any (λ p. MatchesFile plan.ignore_case p (file_of address)) plan.reject
Meets rule.ExpressionMissing plan page kind address =
    plan.accept_expressions ≢ [] → Any (λ expression. IsFoundIn expression address) plan.accept_expressions
Meets rule.ExpressionFound plan page kind address = ¬ Any (λ expression. IsFoundIn expression address) plan.reject_expressions

-- the page's edge of the kind that leads to the address is followed: it meets each rule
abbrev pub Follows : Plan → List ℕ → EdgeKind → List ℕ → Type 0
Follows plan page kind address = (rule : FollowRule) → Meets rule plan page kind address

-- the first rule that the edge doesn't meet: it meets those before it
abbrev pub IsFirstUnmetBy : Plan → List ℕ → EdgeKind → List ℕ → FollowRule → Type 0
IsFirstUnmetBy plan page kind address unmet =
    (before after : List FollowRule) × (rules ≡ before ++ unmet ∷ after)
    × All (λ rule. Meets rule plan page kind address) before × (¬ Meets unmet plan page kind address)

-- the address passes the filters: a link of the start is followed to it
abbrev pub Passes : Plan → List ℕ → Type 0
Passes plan address = Follows plan plan.start Link address

-- the first rule that the address doesn't meet, if a link of the start leads to it
abbrev pub IsFirstUnmet : Plan → List ℕ → FollowRule → Type 0
IsFirstUnmet plan address unmet = IsFirstUnmetBy plan plan.start Link address unmet

-- ---- the same as tests

-- the addresses have one host
abbrev pub has_host_of : List ℕ → List ℕ → Bool
has_host_of address other = bytes_eq (host_of address) (host_of other)

-- the address is on the start's host, and its directory is the start's or below it
abbrev pub is_below : List ℕ → List ℕ → Bool
is_below address start = has_host_of address start && starts_with nat_eq (dir_of address) (dir_of start)

-- a start of the plan has the address's host
abbrev pub has_start_host : Plan → List ℕ → Bool
has_start_host plan address = list_any (λ start. has_host_of address start) (starts plan)

-- the address is below a start of its host
abbrev pub is_below_start : Plan → List ℕ → Bool
is_below_start plan address = list_any (λ start. is_below address start) (starts plan)

-- a domain of the list has the host
abbrev pub is_in_some_domain : List (List ℕ) → List ℕ → Bool
is_in_some_domain domains host = list_any (λ d. is_in_domain d host) domains

-- the directory is one of the list or below one
abbrev pub is_in_some_directory : Bool → List (List ℕ) → List ℕ → Bool
is_in_some_directory ignores_case directories dir = list_any (λ d. is_in_directory ignores_case d dir) directories

-- a pattern of the list matches the file name
abbrev pub matches_some : Bool → List (List ℕ) → List ℕ → Bool
matches_some ignores_case patterns file = list_any (λ p. is_file_match ignores_case p file) patterns

-- an expression of the list is found in the address's text
abbrev pub finds_some : List (List ℕ) → List ℕ → Bool
finds_some expressions address = list_any (λ expression. is_found expression address) expressions

-- the list wasn't given
abbrev pub is_absent : List (List ℕ) → Bool
is_absent [] = true
is_absent (first ∷ others) = false

-- the edge shows its target in the page, or redirects from a page that is on no start's host
abbrev pub is_shown : Plan → List ℕ → EdgeKind → Bool
is_shown plan page Link = false
is_shown plan page Inline = true
is_shown plan page Redirect = not (has_start_host plan page)

-- the rules on host, parent and domains don't hold for the edge
abbrev pub leads_anywhere : Plan → List ℕ → EdgeKind → Bool
leads_anywhere plan page kind = is_shown plan page kind && plan.span_requisites

-- the address is on the page's host, and if requisites are spanned that is a start's
abbrev pub stays_home : Plan → List ℕ → List ℕ → Bool
stays_home plan page address = has_host_of address page && (not plan.span_requisites || has_start_host plan page)

-- the address, to which an edge of the page leads, meets the rule
unfoldable pub meets : FollowRule → Plan → List ℕ → EdgeKind → List ℕ → Bool
meets rule.RobotsFile plan page kind address = not (is_robots_file address)
meets rule.Host plan page kind address = leads_anywhere plan page kind || (plan.span_hosts || stays_home plan page address)
meets rule.Parent plan page kind address =
    leads_anywhere plan page kind || (not plan.no_parent || not (has_start_host plan address) || is_below_start plan address)
meets rule.Domain plan page kind address =
    leads_anywhere plan page kind || (is_absent plan.domains || is_in_some_domain plan.domains (host_of address))
meets rule.ExcludedDomain plan page kind address =
    leads_anywhere plan page kind || not (is_in_some_domain plan.exclude_domains (host_of address))
meets rule.NotIncluded plan page kind address =
    is_absent plan.include_dirs || is_in_some_directory plan.ignore_case plan.include_dirs (dir_of address)
meets rule.Excluded plan page kind address = not (is_in_some_directory plan.ignore_case plan.exclude_dirs (dir_of address))
meets rule.NotAccepted plan page kind address =
    is_exempt_file (file_of address) || is_absent plan.accept || matches_some plan.ignore_case plan.accept (file_of address)
meets rule.Rejected plan page kind address =
    is_exempt_file (file_of address) || not (matches_some plan.ignore_case plan.reject (file_of address))
meets rule.ExpressionMissing plan page kind address = is_absent plan.accept_expressions || finds_some plan.accept_expressions address
meets rule.ExpressionFound plan page kind address = not (finds_some plan.reject_expressions address)

-- the first rule that the edge doesn't meet
unfoldable pub first_unmet : Plan → List ℕ → EdgeKind → List ℕ → Option FollowRule
first_unmet plan page kind address = find (λ r. not (meets r plan page kind address)) rules

-- the page's edge of the kind that leads to the address is followed
unfoldable pub follows_of : Plan → List ℕ → EdgeKind → List ℕ → Bool
follows_of plan page kind address = list_all (λ r. meets r plan page kind address) rules

-- the address passes the filters
abbrev pub passes_of : Plan → List ℕ → Bool
passes_of plan address = follows_of plan plan.start Link address

-- nothing if the edge is followed, else the first rule that it doesn't meet
abbrev pub verdict_from : Option FollowRule → Result (Unit {0}) FollowRule
verdict_from None = Ok tt
verdict_from (Some unmet) = Err unmet

-- what `Plan::follows` answers
abbrev pub edge_verdict : Plan → List ℕ → EdgeKind → List ℕ → Result (Unit {0}) FollowRule
edge_verdict plan page kind address = verdict_from (first_unmet plan page kind address)

-- what `Plan::passes` answers
abbrev pub verdict_of : Plan → List ℕ → Result (Unit {0}) FollowRule
verdict_of plan address = edge_verdict plan plan.start Link address

-- ---- which pages are kept

-- the name of a page: its file name, or `index.html` if that is empty
abbrev pub kept_name : List ℕ → List ℕ
kept_name address = if length (file_of address) == 0 then codes "index.html" else file_of address

-- the name with the query after it
abbrev pub full_name : List ℕ → List ℕ
full_name address = kept_name address ++ query_of address

-- a pattern of the list matches the page's name, with its query or without
abbrev pub IsNamedBy : Bool → List (List ℕ) → List ℕ → Type 0
IsNamedBy ignores_case patterns address =
    Any (λ p. MatchesFile ignores_case p (kept_name address) ⊎ MatchesFile ignores_case p (full_name address)) patterns

-- a page of this address is kept: its name meets the accept and the reject list; no name is exempt
abbrev pub KeepsPage : Plan → List ℕ → Type 0
KeepsPage plan address = (plan.accept ≢ [] → IsNamedBy plan.ignore_case plan.accept address) × (¬ IsNamedBy plan.ignore_case plan.reject address)

-- a pattern of the list matches the one name or the other
abbrev pub names_some : Bool → List (List ℕ) → List ℕ → List ℕ → Bool
names_some ignores_case patterns name full = list_any (λ p. is_file_match ignores_case p name || is_file_match ignores_case p full) patterns

-- the name, without its query and with it, meets the accept and the reject list
abbrev pub keeps_name : Plan → List ℕ → List ℕ → Bool
keeps_name plan name full = (is_absent plan.accept || names_some plan.ignore_case plan.accept name full) && not (names_some plan.ignore_case plan.reject name full)

-- a page of this address is kept, as a test
unfoldable pub keeps_of : Plan → List ℕ → Bool
keeps_of plan address = keeps_name plan (kept_name address) (full_name address)
