-- How a live retrieval arrived at what it found: the events that led there, and what is shown of them.
use Rattle.std.specs.Prelude.{◌≡◌, ◌≢◌, ◌⊎◌, ℕ, List, [], ◌++◌, length, Some, true, false}
use Rattle.std.specs.List.{sum_by}
use Rattle.follow_filters.specs.declared.plan.Plan.{Plan}
use Rattle.options.specs.declared.naming.PageNames.{PageNames}
use Rattle.options.specs.declared.order.Order.{Order}
use Rattle.fetcher.specs.declared.fetcher.Fetcher.{Ghosts as Meaning}
use Rattle.frontier_core.specs.Routes.{Answers, HasTooMany}
use Rattle.frontier_core.specs.Machine.{State, answers, IsQuiet}
use Rattle.frontier_core.specs.Lines.{IsReplay}
use Rattle.frontier_core.specs.Plans.{policy}
use Rattle.frontier_core.specs.declared.event.Cause.{Cause}
use Rattle.frontier_core.specs.declared.event.Cause.TheVariants as cause
use Rattle.frontier_core.specs.declared.event.Event.{Event}
use Rattle.workers.specs.Asks.{AreRecordedOrLost}
use Rattle.workers.specs.Crews.{AreLater}
use Rattle.workers.specs.Found.{AreMadeOnce}
use Rattle.workers.specs.OneWorker.{AreByCrew}
use Rattle.workers.specs.Quotas.{IsPassed}
use Rattle.workers.specs.Takers.{AreOwn}
use Rattle.local_tree.specs.Folders.{Holding}
use Rattle.report.specs.Report.{Line}
use Rattle.retriever.specs.Found.{Crew, crew_of, asks_of, IsFound, IsFrontFound, IsPartFound, Outside, LiveEnd, Finished, Torn, Unchanged, IsTornAt, IsPutAt, live_text, live_status}
use Rattle.retriever.specs.Keeping.{Keeping}
use Rattle.retriever.specs.Parts.{IsDelivered, shown_of}
use Rattle.retriever.specs.Retrieved.{Retrieved, Stopped}
use Rattle.report.specs.Trace.{trace_text}

-- ---- what was retrieved

-- the lines name the fetchers' workers, which are counted from 0 in the fetchers' order, and by them each fetcher got requests
-- for what its own worker took
abbrev pub AreOfCrew : {F B : Type 0} → Crew F B → List Event → Type 0
AreOfCrew crew events = AreByCrew (length crew.first) events × AreOwn crew.means 0 crew.first crew.left events

-- The fetchers were asked, and these events of their workers happened, until nothing was left to do, and this was found.
pub record IsRetrievedLive {F B : Type 0} (crew : Crew F B) (plan : Plan) (naming : PageNames) (events : List Event) (lines : List Line) (bodies : List B) : Type 0 where
  pub state : State
  pub replay : IsReplay (policy plan) events state
  pub by : AreOfCrew crew events
  pub quiet : IsQuiet state
  pub found : IsFound crew plan naming (answers state) lines bodies

-- The fetchers were asked, and these events of their workers happened, until the retrieval stopped for the cause: what was
-- requested is recorded or was given up. The table is full only if what is recorded has more candidates than the plan lets be
-- held.
pub record IsStoppedLive {F B : Type 0} (crew : Crew F B) (plan : Plan) (why : Cause) (events : List Event) : Type 0 where
  pub state : State
  pub replay : IsReplay (policy plan) events state
  pub by : AreOfCrew crew events
  pub stopped : state.cause ≡ Some why
  pub recorded : AreRecordedOrLost (asks_of crew) state
  pub found : IsPartFound crew plan (answers state)
  pub full : why ≡ cause.Full → HasTooMany (policy plan) (answers state)

-- The fetchers were asked, and these events of their workers happened, until the kept bodies passed the quota: what was
-- requested is recorded or was given up, and this front was found.
pub record IsFrontLive {F B : Type 0} (crew : Crew F B) (plan : Plan) (naming : PageNames) (events : List Event) (lines : List Line) (bodies : List B) : Type 0 where
  pub state : State
  pub replay : IsReplay (policy plan) events state
  pub by : AreOfCrew crew events
  pub stopped : state.cause ≡ Some cause.Quota
  pub recorded : AreRecordedOrLost (asks_of crew) state
  pub found : IsFrontFound crew plan naming (answers state) lines bodies

-- The events of a report, by which this is recorded: it says all that is to be found, if the bodies have no more bytes than the quota, else
-- a front of it.
abbrev pub IsReportLive : {F B : Type 0} → Crew F B → Order → Answers → List Event → List Line → List B → Type 0
IsReportLive crew order m events lines bodies =
    ((¬ IsPassed order.quota (sum_by crew.keeps.len_of bodies)) × (r : IsRetrievedLive crew order.plan order.names events lines bodies) × (answers r.state ≡ m))
    ⊎ (IsPassed order.quota (sum_by crew.keeps.len_of bodies) × (r : IsFrontLive crew order.plan order.names events lines bodies) × (answers r.state ≡ m))

-- ---- what it results in

-- The retrieval that is ordered results in this, with this shown of its trace. Before its end nothing is put into the
-- folder. Memory may run out at any time, and may do so when a put has failed. A check of several workers may fail; then
-- nothing more is said.
abbrev pub EndsLive : {F B : Type 0} → Crew F B → Order → Holding → Holding → List Event → LiveEnd → Type 0
EndsLive {B = B} crew order old new shown (Finished (Retrieved lines)) =
    (events : List Event) × (m : Answers) × (bodies : List B) × IsReportLive crew order m events lines bodies × (shown ≡ shown_of order.trace events)
    × IsPutAt order.converts true crew.keeps m lines bodies old new
EndsLive {B = B} crew order old new shown (Torn lines whole) =
    (events : List Event) × (m : Answers) × (bodies : List B) × IsReportLive crew order m events lines bodies × (shown ≡ shown_of order.trace events)
    × IsTornAt order.converts crew.keeps m lines bodies old new whole
EndsLive {B = B} crew order old new shown (Unchanged lines) =
    (events : List Event) × (m : Answers) × (bodies : List B) × IsReportLive crew order m events lines bodies × (shown ≡ shown_of order.trace events)
    × IsPutAt order.converts false crew.keeps m lines bodies old new
EndsLive crew order old new shown (Finished (Stopped cause.Full)) =
    (events : List Event) × IsStoppedLive crew order.plan cause.Full events × (shown ≡ shown_of order.trace events) × (new ≡ old)
EndsLive {B = B} crew order old new shown (Finished (Stopped cause.Memory)) =
    AreMadeOnce (asks_of crew) × ((shown ≡ []) ⊎ ((events : List Event) × IsStoppedLive crew order.plan cause.Memory events × (shown ≡ shown_of order.trace events)))
    × ((new ≡ old) ⊎ ((events : List Event) × (m : Answers) × (lines : List Line) × (bodies : List B) × (whole : ℕ) × IsReportLive crew order m events lines bodies
    × IsTornAt order.converts crew.keeps m lines bodies old new whole))
EndsLive crew order old new shown (Finished (Stopped cause.Mismatch)) = (length crew.first ≢ 1) × (shown ≡ []) × (new ≡ old)
EndsLive crew order old new shown (Finished (Stopped cause.Quota)) = ⊥

-- A live retrieval with these fetchers, one for each worker: it has an end, by what the fetchers were asked and may
-- have answered until then. Either the writer gained that end's text, after what is shown of the trace, and the status is
-- the end's, or the writer failed after a front of it, and the status is 1.
pub record LiveRun {F B : Type 0} (m : Meaning F B) (keeps : Keeping B) (order : Order) (fetchers : List F) (before after : Outside) (status : ℕ) : Type 0 where
  pub left : List F
  pub later : AreLater m fetchers left
  pub shown : List Event
  pub ending : LiveEnd
  pub ends : EndsLive (crew_of m keeps fetchers left) order before.folder after.folder shown ending
  pub written : IsDelivered before.written after.written (trace_text shown ++ live_text ending) (live_status ending) status
