-- Which rule decides: the longest that matches, an allow at a tie (RFC 9309, section 2.2.2).
use Rattle.std.specs.Prelude.{◌≡◌, ℕ, ◌≤◌, ◌⊎◌, Bool, true, false, not, ◌&&◌, ◌||◌, nat_le, List, length, Contains}
use Rattle.std.specs.List.{list_any, list_all}
use Rattle.part_match.specs.Cuts.{Matches, is_match}
use Rattle.robots_rules.specs.Octets.{normal_path}
use Rattle.robots_rules.specs.Patterns.{is_run, takes, matching_parts}

-- a rule: whether it allows, and its pattern in normal form
pub record RuleValue : Type 0 where
  pub allows : Bool
  pub pattern : List ℕ

-- what is known of an origin: nothing is allowed there, or what the rules say
pub record RuleSetValue : Type 0 where
  pub closed : Bool
  pub rules : List RuleValue

-- the rule speaks of the text: the parts of its pattern match it; an empty pattern speaks of none
pub record Applies (text : List ℕ) (rule : RuleValue) : Type 0 where
  pub nonempty : 1 ≤ length rule.pattern
  pub matches : Matches is_run takes (matching_parts rule.pattern) text

-- the rule applies, and no rule that applies has more octets
pub record IsLongest (rules : List RuleValue) (text : List ℕ) (rule : RuleValue) : Type 0 where
  pub listed : Contains rules rule
  pub applies : Applies text rule
  pub longest : (other : RuleValue) → Contains rules other → Applies text other → length other.pattern ≤ length rule.pattern

-- no rule applies, or an allow is among the longest that do
abbrev pub RulesAllow : List RuleValue → List ℕ → Type 0
RulesAllow rules text =
    ((rule : RuleValue) → Contains rules rule → ¬ Applies text rule)
    ⊎ ((rule : RuleValue) × IsLongest rules text rule × (rule.allows ≡ true))

-- access to the path with its query is allowed
abbrev pub IsAllowed : RuleSetValue → List ℕ → Type 0
IsAllowed set path = (set.closed ≡ false) × RulesAllow set.rules (normal_path path)

-- ---- the same as values, for definitions that choose by them; `is_allowed-is` of `proofs/AccessLemmas.antt` says that they are the same

-- whether the rule applies
abbrev pub applies : List ℕ → RuleValue → Bool
applies text rule = nat_le 1 (length rule.pattern) && is_match is_run takes (matching_parts rule.pattern) text

-- whether the rule applies and none that does has more octets
abbrev pub is_longest : List RuleValue → List ℕ → RuleValue → Bool
is_longest rules text rule =
    applies text rule && list_all (λ other. not (applies text other) || nat_le (length other.pattern) (length rule.pattern)) rules

-- whether no rule applies, or an allow is among the longest that do
unfoldable pub rules_allow : List RuleValue → List ℕ → Bool
rules_allow rules text =
    not (list_any (applies text) rules) || list_any (λ rule. is_longest rules text rule && rule.allows) rules

-- whether access to the path with its query is allowed
abbrev pub is_allowed : RuleSetValue → List ℕ → Bool
is_allowed set path = not set.closed && rules_allow set.rules (normal_path path)
