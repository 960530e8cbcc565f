-- Which user-agent lines count for an audience.
use Rattle.std.specs.Prelude.{ℕ, Bool, List, if◌then◌else◌}
use Rattle.std.specs.List.{list_any}
use Rattle.robots_rules.specs.Groups.{Group, names_us, names_all}
use Rattle.robots_rules.specs.declared.groups.Audience.{Audience}
use Rattle.robots_rules.specs.declared.groups.Audience.TheVariants as audience

-- the value names this agent, or it names every agent
abbrev pub names_one : Audience → List ℕ → Bool
names_one audience.ThisAgent value = names_us value
names_one audience.EveryAgent value = names_all value

-- this agent, if a group names it, or every agent
abbrev pub audience_by : List Group → Audience
audience_by groups = if list_any (λ group. list_any names_us group.agents) groups then audience.ThisAgent else audience.EveryAgent
