-- Groups, read from the front.
use Rattle.std.proofs.Common.{◌≡◌, ℕ, ◌≤◌, map, length, arith, Bool, true, false, not, cond, ◌&&◌, ◌||◌, List, [], ◌∷◌, ◌++◌, sym, refl, ap, ◌∙◌}
use Rattle.std.specs.List.{list_any, flat_map, filter}
use Rattle.robots_rules.specs.Lines.{LineValue, agent, rule, RuleLine}
use Rattle.robots_rules.specs.Groups.{Group, Groups, agent_joined, with_agent, groups_of, rules_naming, lines_of_group, EachStands, AreGroups}

-- the rules after a user agent that passes: whether one did in this group, and whether a rule came since
unfoldable pub collect : (List ℕ → Bool) → Bool → Bool → List LineValue → List RuleLine
collect names ours behind [] = []
collect names ours behind (agent name ∷ lines) = collect names (names name || (not behind && ours)) false lines
collect names ours behind (rule stated ∷ lines) = cond ours (stated ∷ []) [] ++ collect names ours true lines

-- the rules of the first group if it is ours already, and of those that name us
first_ours : (List ℕ → Bool) → Bool → List Group → List RuleLine
first_ours names ours [] = []
first_ours names ours (group ∷ groups) = cond (ours || list_any names group.agents) group.rules [] ++ rules_naming names groups

naming-cons : (names : List ℕ → Bool) (group : Group) (groups : List Group) → rules_naming names (group ∷ groups) ≡ cond (list_any names group.agents) group.rules [] ++ rules_naming names groups
naming-cons names group groups = by_test (list_any names group.agents)
  where
    by_test : (b : Bool) → flat_map (λ g. g.rules) (cond b (group ∷ filter (λ g. list_any names g.agents) groups) (filter (λ g. list_any names g.agents) groups)) ≡ cond b group.rules [] ++ flat_map (λ g. g.rules) (filter (λ g. list_any names g.agents) groups)
    by_test true = refl
    by_test false = refl

-- as if a rule came since the last user agent
open_rest : (List ℕ → Bool) → Bool → List LineValue → List RuleLine
open_rest names ours lines = cond ours (groups_of lines).strays [] ++ rules_naming names (groups_of lines).groups

or_assoc : (a b c : Bool) → (a || (b || c)) ≡ ((b || a) || c)
or_assoc true true c = refl
or_assoc true false c = refl
or_assoc false true c = refl
or_assoc false false c = refl

or_false : (a : Bool) → (a || false) ≡ a
or_false true = refl
or_false false = refl

none_left : (b : Bool) → cond {A = List RuleLine} b [] [] ++ [] ≡ []
none_left true = refl
none_left false = refl

first_joined : (names : List ℕ → Bool) (ours : Bool) (name next : List ℕ) (lines : List LineValue) (rest : Groups) → first_ours names ours (with_agent name (agent next ∷ lines) rest).groups ≡ first_ours names (names name || ours) rest.groups
unfolding first_ours with_agent agent_joined
first_joined names ours name next lines rest = by_groups rest.groups
  where
    by_groups : (groups : List Group) → first_ours names ours (agent_joined name groups) ≡ first_ours names (names name || ours) groups
    by_groups [] = none_left (ours || (names name || false))
    by_groups (group ∷ groups) = ap (λ b. cond b group.rules [] ++ rules_naming names groups) (or_assoc ours (names name) (list_any names group.agents))

-- the rest if an agent is just before
agent_rest : (List ℕ → Bool) → Bool → List LineValue → List RuleLine
agent_rest names ours [] = open_rest names ours []
agent_rest names ours (agent name ∷ lines) = first_ours names ours (groups_of (agent name ∷ lines)).groups
agent_rest names ours (rule stated ∷ lines) = open_rest names ours (rule stated ∷ lines)

first_ours-false : (names : List ℕ → Bool) (groups : List Group) → first_ours names false groups ≡ rules_naming names groups
unfolding first_ours
first_ours-false names [] = refl
first_ours-false names (group ∷ groups) = sym (naming-cons names group groups)

first_alone : (names : List ℕ → Bool) (ours : Bool) (name : List ℕ) (strays : List RuleLine) (groups : List Group) → first_ours names ours (record { agents = name ∷ []; rules = strays } ∷ groups) ≡ cond (names name || ours) strays [] ++ rules_naming names groups
unfolding first_ours
first_alone names ours name strays groups = ap (λ b. cond b strays [] ++ rules_naming names groups) (or_assoc ours (names name) false ∙ or_false (names name || ours))

step_agent : (names : List ℕ → Bool) (ours : Bool) (name : List ℕ) (lines : List LineValue) → first_ours names ours (groups_of (agent name ∷ lines)).groups ≡ agent_rest names (names name || ours) lines
unfolding groups_of agent_rest open_rest with_agent
step_agent names ours name [] = first_alone names ours name [] []
step_agent names ours name (agent next ∷ lines) = first_joined names ours name next lines (groups_of (agent next ∷ lines))
step_agent names ours name (rule stated ∷ lines) = first_alone names ours name (groups_of (rule stated ∷ lines)).strays (groups_of (rule stated ∷ lines)).groups

strays_of_agent : (name : List ℕ) (lines : List LineValue) → (groups_of (agent name ∷ lines)).strays ≡ []
unfolding groups_of with_agent
strays_of_agent name [] = refl
strays_of_agent name (agent next ∷ lines) = refl
strays_of_agent name (rule stated ∷ lines) = refl

open_agent : (names : List ℕ → Bool) (ours : Bool) (name : List ℕ) (lines : List LineValue) → open_rest names ours (agent name ∷ lines) ≡ first_ours names false (groups_of (agent name ∷ lines)).groups
unfolding open_rest
open_agent names ours name lines = ap (λ strays. cond ours strays [] ++ rules_naming names (groups_of (agent name ∷ lines)).groups) (strays_of_agent name lines) ∙ nothing ours (rules_naming names (groups_of (agent name ∷ lines)).groups) ∙ sym (first_ours-false names (groups_of (agent name ∷ lines)).groups)
  where
    nothing : (b : Bool) (rs : List RuleLine) → cond b [] [] ++ rs ≡ rs
    nothing true rs = refl
    nothing false rs = refl

open_rule : (names : List ℕ → Bool) (ours : Bool) (stated : RuleLine) (lines : List LineValue) → cond ours (stated ∷ []) [] ++ open_rest names ours lines ≡ open_rest names ours (rule stated ∷ lines)
unfolding open_rest groups_of
open_rule names true stated lines = refl
open_rule names false stated lines = refl

open_nil : (names : List ℕ → Bool) (b : Bool) → open_rest names b [] ≡ []
unfolding open_rest groups_of
open_nil names true = refl
open_nil names false = refl

collect_agent : (names : List ℕ → Bool) (ours : Bool) (lines : List LineValue) → (collect names ours true lines ≡ open_rest names ours lines) × (collect names ours false lines ≡ agent_rest names ours lines)
unfolding collect agent_rest
collect_agent names ours [] = (sym (open_nil names ours), sym (open_nil names ours))
collect_agent names ours (agent name ∷ lines) = (
  (collect_agent names (names name || false) lines).1 ∙ sym (step_agent names false name lines) ∙ sym (open_agent names ours name lines),
  (collect_agent names (names name || ours) lines).1 ∙ sym (step_agent names ours name lines),
)
collect_agent names ours (rule stated ∷ lines) =
    let later = ap (λ rs. cond ours (stated ∷ []) [] ++ rs) (collect_agent names ours lines).0 ∙ open_rule names ours stated lines in
    (later, later)

-- the rules of the groups that name us, from the front
pub collect-rules_naming : (names : List ℕ → Bool) (lines : List LineValue) → collect names false true lines ≡ rules_naming names (groups_of lines).groups
unfolding open_rest
collect-rules_naming names lines = (collect_agent names false lines).0

pub collect-agent : (names : List ℕ → Bool) (ours behind : Bool) (name : List ℕ) (lines : List LineValue) → collect names ours behind (agent name ∷ lines) ≡ collect names (names name || (not behind && ours)) false lines
unfolding collect
collect-agent names ours behind name lines = refl

pub collect-rule : (names : List ℕ → Bool) (ours behind : Bool) (stated : RuleLine) (lines : List LineValue) → collect names ours behind (rule stated ∷ lines) ≡ cond ours (stated ∷ []) [] ++ collect names ours true lines
unfolding collect
collect-rule names ours behind stated lines = refl

pub collect-nil : (names : List ℕ → Bool) (ours behind : Bool) → collect names ours behind [] ≡ []
unfolding collect
collect-nil names ours behind = refl

-- ---- whether a group names someone

-- a user-agent line passes
unfoldable pub some_agent : (List ℕ → Bool) → List LineValue → Bool
some_agent names [] = false
some_agent names (agent name ∷ lines) = names name || some_agent names lines
some_agent names (rule stated ∷ lines) = some_agent names lines

-- a group with a user agent that passes
abbrev pub some_group : (List ℕ → Bool) → List Group → Bool
some_group names groups = list_any (λ group. list_any names group.agents) groups

some_joined : (names : List ℕ → Bool) (name : List ℕ) (groups : List Group) → some_group names (agent_joined name groups) ≡ (names name || some_group names groups)
unfolding agent_joined
some_joined names name [] = or_false (names name || false) ∙ refl
some_joined names name (group ∷ groups) = or_parts_of (names name) (list_any names group.agents) (some_group names groups)
  where
    or_parts_of : (a b c : Bool) → ((a || b) || c) ≡ (a || (b || c))
    or_parts_of true b c = refl
    or_parts_of false b c = refl

pub some_agent-groups : (names : List ℕ → Bool) (lines : List LineValue) → some_agent names lines ≡ some_group names (groups_of lines).groups
unfolding some_agent groups_of with_agent
some_agent-groups names [] = refl
some_agent-groups names (agent name ∷ []) = sym (or_false (names name || false))
some_agent-groups names (agent name ∷ agent next ∷ lines) =
    ap (λ b. names name || b) (some_agent-groups names (agent next ∷ lines)) ∙ sym (some_joined names name (groups_of (agent next ∷ lines)).groups)
some_agent-groups names (agent name ∷ rule stated ∷ lines) =
    ap (λ b. names name || b) (some_agent-groups names (rule stated ∷ lines)) ∙ ap (λ b. b || some_group names (groups_of (rule stated ∷ lines)).groups) (sym (or_false (names name)))
some_agent-groups names (rule stated ∷ lines) = some_agent-groups names lines

-- ---- the groups are the lines

agent_joined-lines : (name : List ℕ) (groups : List Group) → flat_map lines_of_group (agent_joined name groups) ≡ agent name ∷ flat_map lines_of_group groups
unfolding agent_joined
agent_joined-lines name [] = refl
agent_joined-lines name (group ∷ groups) = refl

agent_joined-stands : (name : List ℕ) (groups : List Group) → EachStands groups → EachStands (agent_joined name groups)
unfolding agent_joined
agent_joined-stands name [] stand = omega arith
agent_joined-stands name (group ∷ []) stand = omega arith
agent_joined-stands name (group ∷ next ∷ groups) stand = (omega arith, stand.1, stand.2)

one_more_stands : (group : Group) (groups : List Group) → 1 ≤ length group.agents → 1 ≤ length group.rules → EachStands groups → EachStands (group ∷ groups)
one_more_stands group [] named ruled stand = named
one_more_stands group (next ∷ groups) named ruled stand = (named, ruled, stand)

-- every list of lines is read into its groups
pub groups_read : (lines : List LineValue) → AreGroups lines (groups_of lines)
unfolding groups_of with_agent
groups_read [] = record { whole = refl; stand = tt }
groups_read (rule stated ∷ lines) = let rest = groups_read lines in record { whole = ap (λ ls. rule stated ∷ ls) rest.whole; stand = rest.stand }
groups_read (agent name ∷ []) = record { whole = refl; stand = omega arith }
groups_read (agent name ∷ agent next ∷ lines) =
    let rest = groups_read (agent next ∷ lines) in
    let groups = (groups_of (agent next ∷ lines)).groups in
    let alone : agent next ∷ lines ≡ flat_map lines_of_group groups = rest.whole ∙ ap (λ strays. map rule strays ++ flat_map lines_of_group groups) (strays_of_agent next lines) in
    record { whole = ap (λ ls. agent name ∷ ls) alone ∙ sym (agent_joined-lines name groups); stand = agent_joined-stands name groups rest.stand }
groups_read (agent name ∷ rule stated ∷ lines) =
    let rest = groups_read (rule stated ∷ lines) in
    let read = groups_of (rule stated ∷ lines) in
    let group : Group = record { agents = name ∷ []; rules = read.strays } in
    record { whole = ap (λ ls. agent name ∷ ls) rest.whole; stand = one_more_stands group read.groups (omega arith) (omega arith) rest.stand }
