-- Which groups of a robots file speak to this agent (RFC 9309, section 2.2.1).
use Rattle.std.specs.Prelude.{◌≡◌, ⊤, ◌≤◌, ◌++◌, length, ℕ, Bool, false, not, ◌&&◌, ◌||◌, ◌==◌, List, [], ◌∷◌, map, filter, fold, codes, if◌then◌else◌}
use Rattle.std.specs.List.{before_first, list_any, flat_map}
use Rattle.std.specs.Bool.{beq}
use Rattle.std.specs.Str.{bytes_eq}
use Rattle.std.specs.Char.{is_ascii_alphabetic}
use Rattle.robots_rules.specs.Lines.{LineValue, agent, rule, RuleLine, lines_in, is_blank, is_word}
use Rattle.robots_rules.specs.Patterns.{normal_of}
use Rattle.robots_rules.specs.Access.{RuleValue, RuleSetValue}

-- ---- groups

-- the user agents of a group, and its rules
pub record Group : Type 0 where
  pub agents : List (List ℕ)
  pub rules : List RuleLine

-- the rules at the front that are in no group, and the groups
pub record Groups : Type 0 where
  pub strays : List RuleLine
  pub groups : List Group

-- the user agent added to the first group
unfoldable pub agent_joined : List ℕ → List Group → List Group
agent_joined name [] = record { agents = name ∷ []; rules = [] } ∷ []
agent_joined name (first ∷ others) = record { agents = name ∷ first.agents; rules = first.rules } ∷ others

-- a user agent before the rest: it joins the first group if there is no rule between, else it begins a group
unfoldable pub with_agent : List ℕ → List LineValue → Groups → Groups
with_agent name (agent next ∷ lines) rest = record { strays = []; groups = agent_joined name rest.groups }
with_agent name lines rest = record { strays = []; groups = record { agents = name ∷ []; rules = rest.strays } ∷ rest.groups }

-- the groups of a file's lines, read from the last line
unfoldable pub groups_of : List LineValue → Groups
groups_of [] = record { strays = []; groups = [] }
groups_of (agent name ∷ lines) = with_agent name lines (groups_of lines)
groups_of (rule stated ∷ lines) = let rest = groups_of lines in record { strays = stated ∷ rest.strays; groups = rest.groups }

-- the lines of a group: its user agents, and then its rules
abbrev pub lines_of_group : Group → List LineValue
lines_of_group group = map agent group.agents ++ map rule group.rules

-- each group has a user agent, and each but the last has a rule
abbrev pub EachStands : List Group → Type 0
EachStands [] = ⊤
EachStands (group ∷ []) = 1 ≤ length group.agents
EachStands (group ∷ next ∷ groups) = (1 ≤ length group.agents) × (1 ≤ length group.rules) × EachStands (next ∷ groups)

-- the lines are rules in no group, and then one group after another (section 2.2, robotstxt)
pub record AreGroups (lines : List LineValue) (read : Groups) : Type 0 where
  pub whole : lines ≡ map rule read.strays ++ flat_map lines_of_group read.groups
  pub stand : EachStands read.groups

-- ---- this agent

-- a letter, `-` or `_` (section 2.2.1, product token)
abbrev pub is_in_token : ℕ → Bool
is_in_token octet = is_ascii_alphabetic octet || octet == 45 || octet == 95

-- the product token at the front of a value
abbrev pub token_of : List ℕ → List ℕ
token_of value = before_first (λ octet. not (is_in_token octet)) value

-- the value's first word is `*`: it names every agent
abbrev pub names_all : List ℕ → Bool
names_all value = bytes_eq (before_first is_blank value) (codes "*")

-- the value's token is `wget`, without regard to case: it names this agent
abbrev pub names_us : List ℕ → Bool
names_us value = not (names_all value) && is_word (codes "wget") (token_of value)

-- the rules of all groups with a user agent that passes
abbrev pub rules_naming : (List ℕ → Bool) → List Group → List RuleLine
rules_naming names groups = flat_map (λ group. group.rules) (filter (λ group. list_any names group.agents) groups)

-- those of all groups that name this agent, or if there is none, of all that name every agent
unfoldable pub rules_for_us : List Group → List RuleLine
rules_for_us groups =
    if list_any (λ group. list_any names_us group.agents) groups
    then rules_naming names_us groups
    else rules_naming names_all groups

-- ---- the rules that are kept

-- the rule that a line states, its pattern in normal form
abbrev pub rule_of : RuleLine → RuleValue
rule_of stated = record { allows = stated.allows; pattern = normal_of stated.pattern }

-- the rules that the lines of a file state for this agent
unfoldable pub stated_in : List ℕ → List RuleValue
stated_in file = map rule_of (rules_for_us (groups_of (lines_in file)).groups)

-- whether both are the same rule
abbrev pub is_same_rule : RuleValue → RuleValue → Bool
is_same_rule this other = beq this.allows other.allows && bytes_eq this.pattern other.pattern

-- the rule goes last, unless it has no octets and so speaks of no path, or it is there already
abbrev pub with_rule : List RuleValue → RuleValue → List RuleValue
with_rule kept new = if length new.pattern == 0 || list_any (is_same_rule new) kept then kept else kept ++ new ∷ []

-- what a file says to this agent: the rules stated, without those that change no answer
unfoldable pub rules_in : List ℕ → RuleSetValue
rules_in file = record { closed = false; rules = fold with_rule [] (stated_in file) }
