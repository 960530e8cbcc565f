-- The rule lines of a map as lines of a robots file (RFC 9309, section 2.2).
use Rattle.std.specs.Prelude.{ℕ, List, [], ◌∷◌, ◌++◌, codes}
use Rattle.site_maps.specs.declared.rule_kind.RuleKind.{RuleKind}
use Rattle.site_maps.specs.declared.rule_kind.RuleKind.TheVariants.{Allow, Disallow}

-- the word that begins a rule's line
abbrev pub rule_word : RuleKind → List ℕ
rule_word Allow = codes "allow"
rule_word Disallow = codes "disallow"

-- the first line of each such file: its rules are for every agent
abbrev pub file_head : List ℕ
file_head = codes "user-agent: *" ++ 10 ∷ []

-- a rule's line with a `:` after its word, of which the rest is what follows it
abbrev pub file_line : RuleKind → List ℕ → List ℕ
file_line kind rest = rule_word kind ++ codes ":" ++ rest ++ 10 ∷ []
