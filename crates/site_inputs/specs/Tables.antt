-- Tables by address or origin, as maps and records keep them.
use Rattle.std.specs.Prelude.{ℕ, List, [], false, unwrap_or}
use Rattle.std.specs.Str.{bytes_eq}
use Rattle.std.specs.Map.{lookup}
use Rattle.robots_rules.specs.Access.{RuleSetValue}

-- what a table of these rule sets says of an origin: what it states, and that everything is allowed at one that it doesn't name
abbrev pub rules_at : List (List ℕ × RuleSetValue) → List ℕ → RuleSetValue
rules_at rules of = unwrap_or (lookup (bytes_eq of) rules) (record { closed = false; rules = [] })
