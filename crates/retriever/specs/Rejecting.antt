-- The log of the links that filters reject: of what a run found.
use Rattle.std.specs.Prelude.{◌≡◌, ◌⊎◌, ℕ, Bool, false, List, Option, Some, None, Result, Ok, Err, All, IfSome, IfOk, length, map, String, string_bytes}
use Rattle.std.specs.declared.alloc.Global.{Global}
use Rattle.std.specs.declared.alloc.AllocError.{AllocError}
use Rattle.kept_bodies.specs.Bodies.{BodyValue}
use Rattle.fetcher.specs.declared.fetcher.Fetcher.{Ghosts as Meaning}
use Rattle.follow_filters.specs.declared.plan.Plan.{Plan}
use Rattle.frontier_core.specs.Machine.{IsQuiet}
use Rattle.frontier_core.specs.Plans.{policy}
use Rattle.harvest.specs.Gathered.{AreEntries, AreRecords}
use Rattle.harvest.specs.Harvests.{Harvested}
use Rattle.options.specs.Order.{order_of, ordered_by}
use Rattle.options.specs.declared.order.Order.{Order}
use Rattle.options.specs.declared.order.Source.TheVariants as source
use Rattle.rejected_links.specs.Rejections.{IsLogOf}
use Rattle.site_records.specs.RecordSites.{RecordValue}
use Rattle.site_records.specs.Records.{RecordedAnswers}
use Rattle.streams.specs.Streams.{AppendsFront}
use Rattle.workers.specs.Crews.{AreLater, all_gained, SomeSays, SomeRules}
use Rattle.workers.specs.Retrieval.{IsRetrieved}
use Rattle.workers.specs.Sites.{IsCompleteFor}
use Rattle.workers.specs.declared.retrieval.Halt.{Halt}
use Rattle.retriever.specs.InputFound.{DescribesSite}
use Rattle.retriever.specs.Saving.{resuming_means, resuming_of}
use Rattle.retriever.specs.Site.{IsDescribedBy, whole_of}
use Rattle.retriever.specs.Systems.{Means, IsResumed, settings_of}

-- a harvest that was read, and its log
pub record IsLogRead {B : Type 0} (harvest : Harvested B) (text : List ℕ) : Type 0 where
  pub entries : AreEntries harvest
  pub records : AreRecords harvest
  pub log : IsLogOf harvest text

-- nothing was taken, or such a log, or a front of it
abbrev pub IsLogTaken : (List ℕ → Type 0) → Option (List ℕ) → Option (List ℕ) → Type 0
IsLogTaken IsLog old new = (new ≡ old) ⊎ ((text : List ℕ) × IsLog text × AppendsFront old new text)

-- ---- of an input

-- the log of a whole site: of a harvest that has exactly what is to be found of it
pub record IsLogOfSite (order : Order) (site : RecordedAnswers) (text : List ℕ) : Type 0 where
  pub harvest : Harvested BodyValue
  pub follows : harvest.plan ≡ Some order.plan
  pub complete : IsCompleteFor (policy order.plan) (whole_of site) harvest.state
  pub quiet : IsQuiet harvest.state
  pub read : IsLogRead harvest text

-- the same of the site that what the reader has left is by this reading
abbrev pub IsLogDescribed : (List ℕ → RecordedAnswers → Type 0) → Order → Option (List ℕ) → List ℕ → Type 0
IsLogDescribed IsOf order known text = (site : RecordedAnswers) × DescribesSite IsOf known site × IsLogOfSite order site text

-- the same by the order's source
abbrev pub IsLogOfInput : Order → Option (List ℕ) → List ℕ → Type 0
IsLogOfInput order known text = IsLogDescribed (IsDescribedBy order.source order.links) order known text

-- ---- of a site on the network

-- these fetchers found by now what is to be found, and it is this harvest
pub record IsRetrievedBy {F B : Type 0} (m : Meaning F B) (plan : Plan) (fetchers : List F) (harvest : Harvested B) : Type 0 where
  pub left : List F
  pub later : AreLater m fetchers left
  pub retrieved : IsRetrieved (SomeSays m fetchers left) (SomeRules m fetchers left) plan (all_gained m fetchers left) harvest

-- the log of what these fetchers found
pub record IsLogOfCrew {F B : Type 0} (m : Meaning F B) (order : Order) (fetchers : List F) (text : List ℕ) : Type 0 where
  pub harvest : Harvested B
  pub retrieved : IsRetrievedBy m order.plan fetchers harvest
  pub read : IsLogRead harvest text

module _ {S B F K D V O : Type 0} (m : Means S B F K D V O) where
  -- the log of what fetchers of the system found, one for each worker
  pub record IsLogPlainly (order : Order) (text : List ℕ) : Type 0 where
    pub fetchers : List F
    pub made : All (m.gives.makes m.system (settings_of order false)) fetchers
    pub count : length fetchers ≡ order.workers
    pub log : IsLogOfCrew m.fetchers order fetchers text

  -- the same of fetchers that ask such as note for what the order doesn't resume
  pub record IsLogResumed (order : Order) (text : List ℕ) : Type 0 where
    pub recorded : RecordValue
    pub resumed : IsResumed m order recorded
    pub is_recording : Bool
    pub fetchers : List K
    pub made : All (m.gives.makes_recorder m.system (settings_of order is_recording)) fetchers
    pub count : length fetchers ≡ order.workers
    pub log : IsLogOfCrew (resuming_means m.recorders) order (map (resuming_of m.recorders.log recorded) fetchers) text

  -- one of the two
  abbrev pub IsLogLive : Order → List ℕ → Type 0
  IsLogLive order text = IsLogPlainly order text ⊎ IsLogResumed order text

  -- the log of what the order's source has, if the order has a file for it
  abbrev pub IsLogBy : Order → Option (List ℕ) → List ℕ → Type 0
  IsLogBy order known text = ((order.source ≡ source.Live) × IsLogLive order text) ⊎ IsLogOfInput order known text

  -- the same of what the words order
  abbrev pub IsLogFor : Option (List ℕ) → List (List ℕ) → List ℕ → Type 0
  IsLogFor known words text = (order : Order) × (order_of words ≡ Ok (ordered_by order)) × IsLogBy order known text

-- ---- a log that is made

-- the log of a retrieval that ended
abbrev pub IsLogOfEnd : {B : Type 0} → Result (Harvested B) (Halt B) → List ℕ → Type 0
IsLogOfEnd (Ok harvest) text = IsLogRead harvest text
IsLogOfEnd (Err halt) text = ⊥

-- if there is a log it is such a one, unless there was no memory for it
abbrev pub IfLog : (List ℕ → Type 0) → Option (Result (String Global) AllocError) → Type 0
IfLog IsLog log = IfSome log (λ made. IfOk made (λ text. IsLog (string_bytes text)))

-- the text of this log is taken, or a front of it, or nothing if there was no memory for it
abbrev pub TakesMade : Result (String Global) AllocError → Option (List ℕ) → Option (List ℕ) → Type 0
TakesMade (Ok text) old new = AppendsFront old new (string_bytes text)
TakesMade (Err short) old new = new ≡ old

-- the same if there is a log, and else nothing
abbrev pub TakesLog : Option (Result (String Global) AllocError) → Option (List ℕ) → Option (List ℕ) → Type 0
TakesLog None old new = new ≡ old
TakesLog (Some made) old new = TakesMade made old new
