-- What a worker notes of its asks.
use Rattle.std.specs.Prelude.{◌≡◌, ◌++◌, ℕ, List, map, Option, Some, None, All, IfSome, MatchOption, ◌&&◌, if◌then◌else◌}
use Rattle.follow_filters.specs.Rules.{keeps_of}
use Rattle.follow_filters.specs.declared.plan.Plan.{Plan}
use Rattle.robots_rules.specs.Access.{RuleSetValue}
use Rattle.fetcher.specs.declared.fetcher.Ask.{Ask}
use Rattle.fetcher.specs.declared.fetcher.Fetcher.{Ghosts as Meaning}
use Rattle.fetcher.specs.declared.outcome.Outcome.{Outcome}
use Rattle.frontier_core.specs.Tables.{Text}
use Rattle.workers.specs.Asks.{pages_asked, origins_asked}
use Rattle.harvest.specs.Pages.{is_success}
use Rattle.workers.specs.declared.note.PageNote.{PageNote}
use Rattle.workers.specs.declared.note.RulesNote.{RulesNote}
use Rattle.workers.specs.declared.note.Notes.{Notes}

-- the body that is kept with an outcome, if the page is kept
abbrev pub body_of : {B : Type 0} → Plan → Text → Outcome → B → Option B
body_of plan u x body = if keeps_of plan u && is_success x then Some body else None

-- what was noted of a page is what may be said of it: the outcome goes with some body, which is noted if
-- the page is kept
abbrev pub IsPageOfSite : {B : Type 0} → (Text → Outcome → B → Type 0) → Plan → PageNote B → Type 0
IsPageOfSite {B = B} may_say plan note = MatchOption note.outcome (note.body ≡ None) (λ x. (body : B) × may_say note.address x body × (note.body ≡ body_of plan note.address x body))

-- the rules that were noted of an origin are some that it may have
abbrev pub AreRulesOfSite : (Text → RuleSetValue → Type 0) → RulesNote → Type 0
AreRulesOfSite may_rule note = IfSome note.rules (λ rules. may_rule note.origin rules)

-- the addresses of notes, and the origins
abbrev pub addresses : {B : Type 0} → List (PageNote B) → List Text
addresses notes = map (λ note. note.address) notes

abbrev pub origins : List RulesNote → List Text
origins notes = map (λ note. note.origin) notes

-- What a worker does with its fetcher and its notes, which are in a pair before it and after it: the site stays what it is;
-- each ask that the log gains has its note, in order, under the worker's number, and what was noted of an answer is what the
-- site may give.
pub record Goes {F B : Type 0} (m : Meaning F B) (plan : Plan) (worker : ℕ) (old new : F × Notes B) : Type 0 where
  pub asks : List Ask
  pub pages : List (PageNote B)
  pub sets : List RulesNote
  pub site_is : m.site new.0 ≡ m.site old.0
  pub log_is : m.log new.0 ≡ m.log old.0 ++ asks
  pub pages_are : new.1.pages.items ≡ old.1.pages.items ++ pages
  pub sets_are : new.1.rules.items ≡ old.1.rules.items ++ sets
  pub pages_noted : pages_asked asks ≡ addresses pages
  pub rules_noted : origins_asked asks ≡ origins sets
  pub told : All (IsPageOfSite (m.says (m.site old.0)) plan) pages
  pub ruled : All (AreRulesOfSite (m.rules (m.site old.0))) sets
  pub own : All (λ note. note.worker ≡ worker) pages
  pub own_sets : All (λ note. note.worker ≡ worker) sets
