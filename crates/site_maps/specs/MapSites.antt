-- Sites that are read from a map, as contracts see them.
use Rattle.std.specs.Prelude.{◌≡◌, ℕ, Bool, false, List}
use Rattle.std.specs.List.{list_any}
use Rattle.std.specs.Map.{values_of}
use Rattle.robots_rules.specs.Access.{RuleSetValue}
use Rattle.fetcher.specs.declared.fetcher.Ask.{Ask}
use Rattle.fetcher.specs.declared.outcome.Outcome.{Outcome}
use Rattle.fetcher.specs.Outcomes.{is_fault}
use Rattle.fetcher.specs.Sites.{SiteAnswers}

-- the answers and the rule sets that the map states, each in its order, and what was asked
pub record MapValue : Type 0 where
  pub answers : List (List ℕ × Outcome)
  pub rules : List (List ℕ × RuleSetValue)
  pub asks : List Ask

-- whether one of these answers is a fault
abbrev pub has_fault : List (List ℕ × Outcome) → Bool
has_fault answers = list_any is_fault (values_of answers)

-- no address has a fault there
abbrev pub NeverFails : SiteAnswers → Type 0
NeverFails site = (at : List ℕ) → is_fault (site.outcome at) ≡ false
