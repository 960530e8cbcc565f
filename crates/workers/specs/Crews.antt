-- Several fetchers together: what was requested of them in the course of a retrieval, and what they may have answered.
use Rattle.std.specs.Prelude.{◌≡◌, ◌⊎◌, ℕ, List, [], ◌∷◌, ◌++◌, All, Contains}
use Rattle.std.specs.List.{AllZip}
use Rattle.robots_rules.specs.Access.{RuleSetValue}
use Rattle.fetcher.specs.declared.fetcher.Ask.{Ask}
use Rattle.fetcher.specs.declared.fetcher.Ask.TheVariants as ask
use Rattle.fetcher.specs.declared.fetcher.Fetcher.{Ghosts as Meaning}
use Rattle.fetcher.specs.declared.outcome.Outcome.{Outcome}
use Rattle.frontier_core.specs.Tables.{Text}
use Rattle.frontier_core.specs.Routes.{Answers}
use Rattle.workers.specs.Asks.{gained}
use Rattle.workers.specs.Sites.{Fits}

-- what a fetcher means: its site, what the site may answer, and what was asked of it
module _ {F B : Type 0} (m : Meaning F B) where
  -- a fetcher after some asks: its site is the same, and its log begins with what it was
  pub record IsLater (old new : F) : Type 0 where
    pub site_is : m.site new ≡ m.site old
    pub log_is : m.log new ≡ m.log old ++ gained (m.log old) (m.log new)

  -- the fetchers are in their order, each after some asks
  abbrev pub AreLater : List F → List F → Type 0
  AreLater old new = AllZip IsLater old new

  -- what the logs of the fetchers gained, all together
  abbrev pub all_gained : List F → List F → List Ask
  all_gained [] news = []
  all_gained (old ∷ olds) [] = []
  all_gained (old ∷ olds) (new ∷ news) = gained (m.log old) (m.log new) ++ all_gained olds news

  -- some fetcher that was to request the address may say this of it
  abbrev pub SomeSays : List F → List F → Text → Outcome → B → Type 0
  SomeSays [] news u x body = ⊥
  SomeSays (old ∷ olds) [] u x body = ⊥
  SomeSays (old ∷ olds) (new ∷ news) u x body =
      (Contains (gained (m.log old) (m.log new)) (ask.Page u) × m.says (m.site old) u x body) ⊎ SomeSays olds news u x body

  -- some fetcher that was to request the origin's rules may say that they are these
  abbrev pub SomeRules : List F → List F → Text → RuleSetValue → Type 0
  SomeRules [] news o set = ⊥
  SomeRules (old ∷ olds) [] o set = ⊥
  SomeRules (old ∷ olds) (new ∷ news) o set =
      (Contains (gained (m.log old) (m.log new)) (ask.Rules o) × m.rules (m.site old) o set) ⊎ SomeRules olds news o set

  -- whatever the site of any of the fetchers may give is what these answers name
  abbrev pub AllFit : List F → Answers → Type 0
  AllFit fetchers whole = All (λ fetcher. Fits (m.says (m.site fetcher)) (m.rules (m.site fetcher)) whole) fetchers
