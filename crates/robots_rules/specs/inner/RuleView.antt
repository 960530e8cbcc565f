-- What the code's own form of a rule represents.
use Rattle.std.specs.Prelude.{◌≡◌, ℕ, Bool, List, [], ◌∷◌, ◌++◌, if◌then◌else◌, Vec}
use Rattle.robots_rules.specs.Access.{RuleValue}
use Rattle.robots_rules.specs.Patterns.{ends_text, front, matching_parts}

-- the pattern that has these parts and a last `$` or not
abbrev pub pattern_with : Bool → List ℕ → List ℕ
pattern_with ends parts = if ends then parts ++ 36 ∷ [] else front parts

-- these are the parts of that pattern, and it ends so
pub record AreParts (ends : Bool) (parts : List ℕ) : Type 0 where
  pub ending : ends_text (pattern_with ends parts) ≡ ends
  pub whole : matching_parts (pattern_with ends parts) ≡ parts

-- the rule of a key
abbrev pub rule_by : {Z : Type 0} → Bool × Vec ℕ Z → RuleValue
rule_by key = record { allows = key.0; pattern = key.1.items }
