-- What the code's own form of a rule set represents.
use Rattle.std.specs.Prelude.{true, false, []}
use Rattle.robots_rules.specs.Access.{RuleSetValue}
use Rattle.robots_rules.specs.declared.rule_set.KeptRules.{KeptRules}
use Rattle.robots_rules.specs.declared.rule_set.KeptRules.TheVariants as kept

-- the rule set as the definitions have it
abbrev pub rule_set_value_of : KeptRules → RuleSetValue
rule_set_value_of kept.All = record { closed = false; rules = [] }
rule_set_value_of kept.Nothing = record { closed = true; rules = [] }
rule_set_value_of (kept.Rules rules) = record { closed = false; rules = rules.items }
