-- What a run of the program writes for its words and its input, and the status with which it ends.
use Rattle.std.specs.Prelude.{◌≡◌, ◌≤◌, ◌<◌, ◌⊎◌, ℕ, true, List, [], ◌++◌, length, codes, Option, Err, if◌then◌else◌}
use Rattle.std.specs.Fmt.{decimal}
use Rattle.std.specs.Io.KnownBytes.{Appends}
use Rattle.address.specs.declared.fault.AddressFault.{AddressFault}
use Rattle.address.specs.declared.fault.AddressFault.TheVariants as refused
use Rattle.site_inputs.specs.declared.input_fault.InputFault.{InputFault}
use Rattle.site_records.specs.Records.{RecordedAnswers}
use Rattle.site_inputs.specs.declared.input_fault.InputFault.TheVariants as input
use Rattle.frontier_core.specs.declared.event.Event.{Event}
use Rattle.options.specs.Advice.{advice_text}
use Rattle.options.specs.Asked.{asks, without_kind}
use Rattle.options.specs.Order.{order_of, seeks_in}
use Rattle.options.specs.declared.fault.LineFault.{LineFault}
use Rattle.options.specs.declared.fault.LineFault.TheVariants as line
use Rattle.options.specs.declared.order.Order.{Order}
use Rattle.retriever.specs.declared.input_run.TheConstants.{MAX_INPUT}
use Rattle.retriever.specs.Order.{IsInputOrder, AreForInput, AreForLive}
use Rattle.report.specs.ExitStatus.{exit_status, outcomes_in}
use Rattle.report.specs.Report.{report_text}
use Rattle.retriever.specs.Retrieved.{Finish, Retrieved, Stopped, Finishes}
use Rattle.retriever.specs.Site.{IsDescribedBy, IsWrongBy}
use Rattle.streams.specs.Streams.{IsInput, AppendsFront}
use Rattle.report.specs.Trace.{cause_word, trace_text}
use Rattle.retriever.specs.declared.fault.Fault.{Fault}
use Rattle.retriever.specs.declared.fault.Fault.TheVariants as fault
use Rattle.streams.specs.declared.input.ReadInputFault.{ReadInputFault}
use Rattle.streams.specs.declared.input.ReadInputFault.TheVariants as reading

-- the words and the input result in this fault; memory may run out at any time, how large an expression may be no clause says, and a reader may fail once the words are read
abbrev pub Comes : List (List ℕ) → List ℕ → Fault → Type 0
Comes words input (fault.Line line.Memory) = Unit {0}
Comes words input (fault.Line line.LargeExpression) = (order_of words ≡ Err line.LargeExpression) ⊎ (seeks_in words ≡ true)
Comes words input (fault.Line wrong) = order_of words ≡ Err (without_kind wrong)
Comes words input fault.NotText = ⊥
Comes words input fault.NoSite = AreForLive words
Comes words input (fault.Read reading.Long) = AreForInput words × (MAX_INPUT < length input)
Comes words input (fault.Read reading.Failed) = AreForInput words
Comes words input (fault.Read reading.Memory) = Unit {0}
Comes words input (fault.Input wrong) =
    (order : Order) × IsInputOrder words order × (length input ≤ MAX_INPUT) × IsWrongBy order.source order.links input wrong
Comes words input fault.Memory = Unit {0}

-- ---- texts and statuses

-- the words for a start that is no address
abbrev pub start_words : AddressFault → List ℕ
start_words refused.TooLong = codes "line start too-long"
start_words refused.NotUrl = codes "line start not-url"
start_words refused.NotHttp = codes "line start not-http"
start_words refused.UserInfo = codes "line start user-info"
start_words refused.Memory = codes "stopped memory"

-- the words for what is wrong with a command line
abbrev pub line_words : LineFault → List ℕ
line_words (line.Words kind) = codes "line words"
line_words line.NoProxy = codes "line words"
line_words line.ProxyUser = codes "line words"
line_words line.Login = codes "line words"
line_words line.Agent = codes "line words"
line_words line.Referer = codes "line words"
line_words line.Header = codes "line words"
line_words line.Fields = codes "line words"
line_words line.FarProxy = codes "line words"
line_words line.Depth = codes "line depth"
line_words line.Pattern = codes "line pattern"
line_words (line.Expression at) = codes "line pattern"
line_words line.LargeExpression = codes "line pattern"
line_words line.Directory = codes "line directory"
line_words line.Domain = codes "line domain"
line_words line.Tags = codes "line tags"
line_words (line.Start refused) = start_words refused
line_words line.StartIsRobots = codes "line start-robots"
line_words line.Memory = codes "stopped memory"

-- the words for an input that can't be had
abbrev pub reading_words : ReadInputFault → List ℕ
reading_words reading.Long = codes "input long"
reading_words reading.Failed = codes "input read"
reading_words reading.Memory = codes "stopped memory"

-- the words for the first bad line of a map or a record
abbrev pub input_words : InputFault → List ℕ
input_words (input.Line n) = codes "input line " ++ decimal n
input_words (input.Address n) = codes "input address " ++ decimal n
input_words input.Memory = codes "stopped memory"

-- what is written for a fault, in words
abbrev pub fault_words : Fault → List ℕ
fault_words (fault.Line wrong) = line_words wrong
fault_words fault.NotText = codes "line words"
fault_words fault.NoSite = codes "line no-site"
fault_words (fault.Read wrong) = reading_words wrong
fault_words (fault.Input wrong) = input_words wrong
fault_words fault.Memory = codes "stopped memory"

-- what is written instead of a report: the help, or name and version, if the words request it, else the line of what is wrong
abbrev pub fault_text : Fault → List ℕ
fault_text (fault.Line wrong) = if asks wrong then advice_text [] wrong else line_words wrong ++ codes "\n"
fault_text wrong = fault_words wrong ++ codes "\n"

-- of words: 1 if memory ran out, else 2
abbrev pub wrong_status : LineFault → ℕ
wrong_status line.Memory = 1
wrong_status (line.Start refused.Memory) = 1
wrong_status _ = 2

-- 2 for what the words or the input say, 1 for what memory, a reader or a plan's bound stopped; 0 if the words request the help or the version
abbrev pub fault_status : Fault → ℕ
fault_status (fault.Line wrong) = if asks wrong then 0 else wrong_status wrong
fault_status fault.NotText = 2
fault_status fault.NoSite = 2
fault_status (fault.Read reading.Long) = 2
fault_status (fault.Read reading.Failed) = 1
fault_status (fault.Read reading.Memory) = 1
fault_status (fault.Input input.Memory) = 1
fault_status (fault.Input (input.Line n)) = 2
fault_status (fault.Input (input.Address n)) = 2
fault_status fault.Memory = 1

-- ---- a retrieval

-- the text of a retrieval's result: a report, or one line of words
abbrev pub finish_text : Finish → List ℕ
finish_text (Retrieved lines) = report_text lines
finish_text (Stopped why) = codes "stopped " ++ cause_word why ++ codes "\n"

-- its status: that of a report follows from its outcomes
abbrev pub finish_status : Finish → ℕ
finish_status (Retrieved lines) = exit_status (outcomes_in lines)
finish_status (Stopped why) = 1

-- ---- a run

-- what a run results in: a fault, or a retrieval's result, after the text of what is shown of its trace
pub data Ending : Type 0 where
  Failed : Fault → Ending
  Ended : List ℕ → Finish → Ending

-- the text of an ending
abbrev pub ending_text : Ending → List ℕ
ending_text (Failed wrong) = fault_text wrong
ending_text (Ended trace finish) = trace ++ finish_text finish

-- the status of an ending
abbrev pub ending_status : Ending → ℕ
ending_status (Failed wrong) = fault_status wrong
ending_status (Ended trace finish) = finish_status finish

-- the input describes a site of which the retrieval that is ordered results in this
abbrev pub FinishesOn : Order → List ℕ → List Event → Finish → Type 0
FinishesOn order input shown finish =
    (length input ≤ MAX_INPUT) × (site : RecordedAnswers) × IsDescribedBy order.source order.links input site × Finishes order site shown finish

-- the words and the input result in this ending
abbrev pub Ends : List (List ℕ) → List ℕ → Ending → Type 0
Ends words input (Failed wrong) = Comes words input wrong
Ends words input (Ended trace finish) = (order : Order) × IsInputOrder words order × (shown : List Event) × (trace ≡ trace_text shown) × FinishesOn order input shown finish

-- the words and what the reader has left result in this ending
abbrev pub EndsFor : List (List ℕ) → Option (List ℕ) → Ending → Type 0
EndsFor words known ending = (input : List ℕ) × IsInput known input × Ends words input ending

-- A run: its words and what its reader has left result in an ending. Either the writer gained that ending's text, and the
-- status is the ending's, or the writer failed after a front of the text, and the status is 1.
pub record Runs (words : List (List ℕ)) (known old new : Option (List ℕ)) (status : ℕ) : Type 0 where
  pub ending : Ending
  pub ends : EndsFor words known ending
  pub written : ((status ≡ ending_status ending) × Appends old new (ending_text ending)) ⊎ ((status ≡ 1) × AppendsFront old new (ending_text ending))
