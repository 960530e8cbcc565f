-- What a run by an order found of the site that its input describes, and what it writes of that. It mentions neither the events
-- that led there nor the words that order it: those are in `Run`.
use Rattle.std.specs.Prelude.{◌≡◌, ◌≢◌, ◌≤◌, ◌<◌, ℕ, false, List, [], length, map, Option}
use Rattle.frontier_core.specs.Plans.{policy}
use Rattle.frontier_core.specs.Routes.{HasTooMany}
use Rattle.frontier_core.specs.declared.event.Cause.TheVariants as cause
use Rattle.options.specs.declared.order.Order.{Order}
use Rattle.site_inputs.specs.declared.input_fault.InputFault.{InputFault}
use Rattle.site_maps.specs.Maps.{IsFault as IsFaultOfMap}
use Rattle.report.specs.Named.{named_pages}
use Rattle.html_links.specs.declared.rules.LinkRules.{LinkRules}
use Rattle.site_records.specs.Records.{RecordedAnswers, IsFault as IsFaultOfRecord}
use Rattle.streams.specs.Streams.{IsInput}
use Rattle.streams.specs.declared.input.ReadInputFault.TheVariants as reading
use Rattle.retriever.specs.declared.fault.Fault.{Fault}
use Rattle.retriever.specs.declared.fault.Fault.TheVariants as fault
use Rattle.retriever.specs.declared.input_run.TheConstants.{MAX_INPUT}
use Rattle.retriever.specs.Parts.{IsDelivered}
use Rattle.retriever.specs.Retrieved.{Finish, Retrieved, Stopped}
use Rattle.retriever.specs.Run.{Ending, Failed, Ended, ending_text, ending_status}
use Rattle.retriever.specs.Site.{IsMapOf, IsRecordOf, AreLines, AreNamed, kind_at, whole_of}

-- a form of inputs: the site that an input describes, and the faults that it has
pub record Form : Type 1 where
  pub describes : List ℕ → RecordedAnswers → Type 0
  pub has_fault : List ℕ → InputFault → Type 0

-- the form of maps
abbrev pub map_form : Form
map_form = record { describes = IsMapOf; has_fault = IsFaultOfMap }

-- the form of records, by which links of pages are taken
abbrev pub record_form : LinkRules → Form
record_form links = record { describes = IsRecordOf links; has_fault = IsFaultOfRecord links }

-- what the reader has left describes this site
abbrev pub DescribesSite : (List ℕ → RecordedAnswers → Type 0) → Option (List ℕ) → RecordedAnswers → Type 0
DescribesSite IsOf known site = (input : List ℕ) × IsInput known input × (length input ≤ MAX_INPUT) × IsOf input site

-- what the reader has left results in this fault
abbrev pub EndsInFault : (List ℕ → InputFault → Type 0) → Option (List ℕ) → Fault → Type 0
EndsInFault IsWrong known (fault.Line wrong) = ⊥
EndsInFault IsWrong known fault.NotText = ⊥
EndsInFault IsWrong known fault.NoSite = ⊥
EndsInFault IsWrong known (fault.Read reading.Long) = (input : List ℕ) × IsInput known input × (MAX_INPUT < length input)
EndsInFault IsWrong known (fault.Read reading.Failed) = Unit {0}
EndsInFault IsWrong known (fault.Read reading.Memory) = Unit {0}
EndsInFault IsWrong known (fault.Input wrong) = (input : List ℕ) × IsInput known input × (length input ≤ MAX_INPUT) × IsWrong input wrong
EndsInFault IsWrong known fault.Memory = Unit {0}

-- This is found of a whole site: the lines of its report, or more addresses than the plan lets be held. Memory may run out at any
-- time, and a check of several workers may fail. No quota counts.
abbrev pub IsFoundOf : Order → RecordedAnswers → Finish → Type 0
IsFoundOf order site (Retrieved lines) =
    AreLines (policy order.plan) (whole_of site) lines × AreNamed order.plan order.names (map (kind_at site) (named_pages lines)) lines
IsFoundOf order site (Stopped cause.Full) = HasTooMany (policy order.plan) (whole_of site)
IsFoundOf order site (Stopped cause.Memory) = Unit {0}
IsFoundOf order site (Stopped cause.Mismatch) = order.workers ≢ 1
IsFoundOf order site (Stopped cause.Quota) = ⊥

-- what the reader has left results in this ending
abbrev pub EndsOn : Form → Order → Option (List ℕ) → Ending → Type 0
EndsOn form order known (Failed wrong) = EndsInFault form.has_fault known wrong
EndsOn form order known (Ended trace finish) =
    (order.trace ≡ false → trace ≡ []) × (site : RecordedAnswers) × DescribesSite form.describes known site × IsFoundOf order site finish

-- A run by an order, of an input of a form: it has an ending, whose text the writer gained, or a front of it if it failed.
pub record FindsIn (form : Form) (order : Order) (known old new : Option (List ℕ)) (status : ℕ) : Type 0 where
  pub ending : Ending
  pub ends : EndsOn form order known ending
  pub written : IsDelivered old new (ending_text ending) (ending_status ending) status
