-- Runs that one site answers alike, whether it sends a page or says that the page is as it was: the report and the files of a mirror of it.
use Rattle.std.specs.Prelude.{◌≡◌, ◌↔◌, Bool, List, Some, map}
use Rattle.std.specs.List.{AllZip}
use Rattle.kept_bodies.specs.Bodies.{BodyValue}
use Rattle.robots_rules.specs.Access.{RuleSetValue}
use Rattle.fetcher.specs.declared.outcome.Outcome.{Outcome}
use Rattle.follow_filters.specs.declared.plan.Plan.{Plan}
use Rattle.frontier_core.specs.Plans.{policy}
use Rattle.frontier_core.specs.Routes.{Answers, IsWanted}
use Rattle.frontier_core.specs.Tables.{Text}
use Rattle.local_tree.specs.Folders.{Holding}
use Rattle.options.specs.declared.order.Order.{Order}
use Rattle.report.specs.Named.{named_pages}
use Rattle.report.specs.Report.{Line}
use Rattle.site_records.specs.Records.{RecordedAnswers}
use Rattle.retriever.specs.Found.{Crew, IsPutAt, MaySay, MaySayRules}
use Rattle.retriever.specs.Keeping.{Keeping, in_memory}
use Rattle.retriever.specs.Site.{AreLines, AreNamed, kind_at, whole_of}

-- ---- a run that the site answered

-- a page's kept body is of the kind that the site's has, and may be that
abbrev pub IsKeptOf : {B : Type 0} → Keeping B → RecordedAnswers → Text → B → Type 0
IsKeptOf keeps site u kept = (keeps.kind_of kept ≡ kind_at site u) × keeps.holds kept (site.answer u).body

-- what was recorded is what the site answers, and so is the body of each page with a name
pub record IsOfSite {B : Type 0} (keeps : Keeping B) (site : RecordedAnswers) (m : Answers) (lines : List Line) (bodies : List B) : Type 0 where
  pub outcomes : (u : Text) (x : Outcome) → m.outcome u ≡ Some x → x ≡ (site.answer u).outcome
  pub rules : (o : Text) (set : RuleSetValue) → m.rules o ≡ Some set → set ≡ site.rules o
  pub kept : AllZip (IsKeptOf keeps site) (named_pages lines) bodies

-- all that the fetchers may say is what the site answers
pub record SaysSite {F B : Type 0} (crew : Crew F B) (site : RecordedAnswers) : Type 0 where
  pub answers : (u : Text) (x : Outcome) (kept : B) → MaySay crew u x kept → (x ≡ (site.answer u).outcome) × IsKeptOf crew.keeps site u kept
  pub rules : (o : Text) (set : RuleSetValue) → MaySayRules crew o set → set ≡ site.rules o

-- ---- a mirror

-- the site's bodies of these pages
abbrev pub bodies_at : RecordedAnswers → List Text → List BodyValue
bodies_at site pages = map (λ u. (site.answer u).body) pages

-- the outcomes are those of the addresses that are wanted of the whole site, and no others
abbrev pub AreWantedOf : Plan → RecordedAnswers → Answers → Type 0
AreWantedOf plan site m = (u : Text) (x : Outcome) → (m.outcome u ≡ Some x) ↔ (IsWanted (policy plan) (whole_of site) u × (x ≡ (site.answer u).outcome))

-- The lines are those of the breadth-first retrieval of the whole site, whose pages have their names by the kinds of the site's bodies. Each page
-- with a name has a file with the site's body, with its links changed if the order says so, and if all could be, and nothing else changed.
pub record IsMirror (order : Order) (all : Bool) (site : RecordedAnswers) (lines : List Line) (old new : Holding) : Type 0 where
  pub reported : AreLines (policy order.plan) (whole_of site) lines
  pub named : AreNamed order.plan order.names (map (kind_at site) (named_pages lines)) lines
  pub wanted : Answers
  pub are_wanted : AreWantedOf order.plan site wanted
  pub put : IsPutAt order.converts all in_memory wanted lines (bodies_at site (named_pages lines)) old new
