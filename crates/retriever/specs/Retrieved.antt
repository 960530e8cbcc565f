-- What a retrieval of a site results in, with what is shown of its trace.
use Rattle.std.specs.Prelude.{◌≡◌, ◌≢◌, ◌⊎◌, ℕ, Bool, true, false, List, [], map, Some}
use Rattle.follow_filters.specs.declared.plan.Plan.{Plan}
use Rattle.options.specs.declared.order.Order.{Order}
use Rattle.fetcher.specs.declared.outcome.Outcome.{Outcome}
use Rattle.robots_rules.specs.Access.{RuleSetValue}
use Rattle.frontier_core.specs.Tables.{Text}
use Rattle.frontier_core.specs.Routes.{Answers, HasTooMany}
use Rattle.frontier_core.specs.Machine.{State, answers, IsQuiet}
use Rattle.frontier_core.specs.Lines.{IsReplay}
use Rattle.frontier_core.specs.Plans.{policy}
use Rattle.frontier_core.specs.declared.event.Cause.{Cause}
use Rattle.frontier_core.specs.declared.event.Cause.TheVariants as cause
use Rattle.frontier_core.specs.declared.event.Event.{Event}
use Rattle.workers.specs.OneWorker.{AreByCrew}
use Rattle.report.specs.Named.{named_pages}
use Rattle.report.specs.Report.{Line}
use Rattle.site_records.specs.Records.{RecordedAnswers}
use Rattle.retriever.specs.Site.{AreLines, AreNamed, kind_at, whole_of}

-- what is recorded is what the whole site has
pub record IsPartOf (m whole : Answers) : Type 0 where
  pub outcomes : (u : Text) (x : Outcome) → m.outcome u ≡ Some x → whole.outcome u ≡ Some x
  pub rules : (o : Text) (rules : RuleSetValue) → m.rules o ≡ Some rules → whole.rules o ≡ Some rules

-- the events are those of a frontier that goes by the plan, receives what the site has, and is left in such a state; this many
-- workers drive it, which are counted from 0, and several may come in any order
abbrev pub AreEventsOf : ℕ → Plan → Answers → (State → Type 0) → List Event → Type 0
AreEventsOf workers plan whole IsSuch events =
    AreByCrew workers events × (s : State) × IsReplay (policy plan) events s × IsPartOf (answers s) whole × IsSuch s

-- what is shown are such events, if they are to be shown, else none
abbrev pub AreShown : Bool → (List Event → Type 0) → List Event → Type 0
AreShown true AreSuch shown = AreSuch shown
AreShown false AreSuch shown = shown ≡ []

-- the state stopped for this cause
abbrev pub HasStopped : Cause → State → Type 0
HasStopped why s = s.cause ≡ Some why

-- what a retrieval results in: the lines of a report, or the cause for which it stopped
pub data Finish : Type 0 where
  Retrieved : List Line → Finish
  Stopped : Cause → Finish

-- the retrieval that is ordered of a site results in this, and this is shown of its trace; if memory was short there
-- may be nothing to show. A check of several workers may fail; one worker has none. No quota counts
abbrev pub Finishes : Order → RecordedAnswers → List Event → Finish → Type 0
Finishes order site shown (Retrieved lines) =
    AreLines (policy order.plan) (whole_of site) lines × AreNamed order.plan order.names (map (kind_at site) (named_pages lines)) lines
    × AreShown order.trace (AreEventsOf order.workers order.plan (whole_of site) IsQuiet) shown
Finishes order site shown (Stopped cause.Full) =
    HasTooMany (policy order.plan) (whole_of site) × AreShown order.trace (AreEventsOf order.workers order.plan (whole_of site) (HasStopped cause.Full)) shown
Finishes order site shown (Stopped cause.Memory) =
    (shown ≡ []) ⊎ AreShown order.trace (AreEventsOf order.workers order.plan (whole_of site) (HasStopped cause.Memory)) shown
Finishes order site shown (Stopped cause.Mismatch) = (order.workers ≢ 1) × (shown ≡ [])
Finishes order site shown (Stopped cause.Quota) = ⊥
