-- What proofs alone need beside `Parts`.
use Rattle.std.specs.Prelude.{◌≡◌, ◌≢◌, ◌⊎◌, ◌++◌, ◌&&◌, ℕ, Bool, true, false, List, map, Option, Result, Ok, Err, IfSome}
use Rattle.std.specs.Io.KnownBytes.{Appends}
use Rattle.kept_bodies.specs.Bodies.{BodyValue}
use Rattle.options.specs.declared.naming.PageNames.{PageNames}
use Rattle.options.specs.declared.order.Order.{Order}
use Rattle.options.specs.declared.order.Source.TheVariants as source
use Rattle.frontier_core.specs.Invariants.{IsSound}
use Rattle.frontier_core.specs.Plans.{policy}
use Rattle.frontier_core.specs.Tables.{Text}
use Rattle.fetcher.specs.declared.outcome.Outcome.{Outcome}
use Rattle.frontier_core.specs.declared.event.Cause.{Cause}
use Rattle.frontier_core.specs.declared.event.Cause.TheVariants as cause
use Rattle.frontier_core.specs.declared.event.Event.{Event}
use Rattle.harvest.specs.Gathered.{AreEntries, AreRecords, ArePages}
use Rattle.harvest.specs.Harvests.{Harvested}
use Rattle.workers.specs.declared.retrieval.Halt.{Halt}
use Rattle.report.specs.Entries.{harvest_lines_of}
use Rattle.report.specs.ExitStatus.{exit_status}
use Rattle.report.specs.Report.{report_text}
use Rattle.retriever.specs.Keeping.{kind_in, kinds_of}
use Rattle.retriever.specs.InputFound.{DescribesSite, EndsInFault}
use Rattle.retriever.specs.Retrieved.{Finish, Stopped, Finishes}
use Rattle.retriever.specs.Run.{finish_text, finish_status}
use Rattle.site_records.specs.Records.{RecordedAnswers}
use Rattle.retriever.specs.Site.{AreNamesOf, IsWrongBy, kind_at}
use Rattle.streams.specs.Streams.{AppendsFront}
use Rattle.report.specs.Trace.{trace_text}
use Rattle.retriever.specs.declared.fault.Fault.{Fault}
use Rattle.retriever.specs.declared.fault.Fault.TheVariants as fault
use Rattle.retriever.specs.Parts.{shown_of}

-- whatever body the site may give of an address is of the kind that is given
abbrev pub HasKinds : (Text → Outcome → BodyValue → Type 0) → RecordedAnswers → Type 0
HasKinds may_say told = (u : Text) (x : Outcome) (body : BodyValue) → may_say u x body → body.kind ≡ kind_at told u

-- the retrieval of a site results in this text and this status
pub record IsOutputOf (order : Order) (site : RecordedAnswers) (text : List ℕ) (status : ℕ) : Type 0 where
  pub shown : List Event
  pub finish : Finish
  pub finishes : Finishes order site shown finish
  pub text_is : text ≡ trace_text shown ++ finish_text finish
  pub status_is : status ≡ finish_status finish

-- what the reader has left describes a site, and its retrieval results in this text and this status
abbrev pub IsOutput : (List ℕ → RecordedAnswers → Type 0) → Order → Option (List ℕ) → List ℕ → ℕ → Type 0
IsOutput IsOf order known text status = (site : RecordedAnswers) × DescribesSite IsOf known site × IsOutputOf order site text status

-- what the order and the reader result in instead of a retrieval: a site on the network isn't one that an input describes
abbrev pub IsUnfit : Order → Option (List ℕ) → Fault → Type 0
IsUnfit order known wrong =
    ((order.source ≡ source.Live) × (wrong ≡ fault.NoSite)) ⊎ ((order.source ≢ source.Live) × EndsInFault (IsWrongBy order.source order.links) known wrong)

-- the writer gained the text, after which the run has this status unless more is written, or the writer failed
abbrev pub IsWrittenAs : {E : Type 0} → Option (List ℕ) → Option (List ℕ) → Result ℕ E → List ℕ → ℕ → Type 0
IsWrittenAs old new (Ok status) text wanted = (status ≡ wanted) × Appends old new text
IsWrittenAs old new (Err failed) text wanted = AppendsFront old new text

-- the status of a run that has nothing more to write
abbrev pub last_status : {E : Type 0} → Result ℕ E → ℕ
last_status (Ok status) = status
last_status (Err failed) = 1

-- whether the checks of a retrieval that stopped for this cause bear out what it found
abbrev pub is_borne_out : Cause → Bool
is_borne_out cause.Full = true
is_borne_out cause.Memory = true
is_borne_out cause.Mismatch = false
is_borne_out cause.Quota = true

-- what is said of a harvest beside its contents: the entries, the records and the kept pages say what its state holds,
-- which is sound
abbrev pub IsRead : {B : Type 0} → Harvested B → Type 0
IsRead h = AreEntries h × AreRecords h × ArePages h × IfSome h.plan (λ plan. IsSound (policy plan) h.state)

-- what is written of a retrieval: its report, in which the kept pages have their names by these rules, and the status of its records, of a
-- harvest that was read, or the cause for which it stopped; before either what is shown of its trace, which is nothing if a
-- check failed
abbrev pub IsRetrievalWritten : PageNames → Bool → Result (Harvested BodyValue) (Halt BodyValue) → List ℕ → ℕ → Type 0
IsRetrievalWritten naming with_trace (Ok h) text status =
    IsRead h × (names : List (List ℕ)) × AreNamesOf naming h.kept (kinds_of kind_in h.bodies) names × (text ≡ trace_text (shown_of with_trace h.trace) ++ report_text (harvest_lines_of h names))
    × (status ≡ exit_status (map (λ recorded. recorded.1) h.records))
IsRetrievalWritten naming with_trace (Err halt) text status =
    (text ≡ trace_text (shown_of (is_borne_out halt.cause && with_trace) halt.harvest.trace) ++ finish_text (Stopped halt.cause)) × (status ≡ 1)
