-- Which log is handed over.
use Rattle.std.proofs.Common.{◌≡◌, ℕ, inl, inr, List, Option, Some, None, sym, subst}
use Rattle.std.specs.Prelude.{Result, Ok, Err, IfOk, String, string_bytes}
use Rattle.std.specs.declared.alloc.Global.{Global}
use Rattle.std.specs.declared.alloc.AllocError.{AllocError}
use Rattle.kept_bodies.specs.Bodies.{BodyValue}
use Rattle.fetcher.specs.declared.fetcher.Ask.{Ask}
use Rattle.fetcher.specs.declared.fetcher.Fetcher.{Ghosts as Meaning}
use Rattle.fetcher.specs.declared.outcome.Outcome.{Outcome}
use Rattle.follow_filters.specs.declared.plan.Plan.{Plan}
use Rattle.frontier_core.specs.Plans.{policy}
use Rattle.frontier_core.specs.Tables.{Text}
use Rattle.harvest.specs.Harvests.{Harvested}
use Rattle.options.specs.declared.order.Order.{Order}
use Rattle.robots_rules.specs.Access.{RuleSetValue}
use Rattle.site_records.specs.Records.{RecordedAnswers}
use Rattle.workers.specs.Crews.{AreLater, all_gained, SomeSays, SomeRules}
use Rattle.workers.specs.Retrieval.{IsRetrieved}
use Rattle.workers.specs.Sites.{IsCompleteFor}
use Rattle.workers.specs.declared.retrieval.Halt.{Halt}
use Rattle.retriever.specs.InputFound.{DescribesSite}
use Rattle.retriever.specs.Rejecting.{IfLog, IsLogOfCrew, IsLogOfEnd, IsLogOfSite, IsLogTaken, IsLogDescribed, IsRetrievedBy, TakesLog}
use Rattle.retriever.specs.Site.{whole_of}
use Rattle.retriever.specs.inner.Parts.{IsOutputOf}
use Rattle.retriever.specs.declared.render.RunOutput.{RunOutput}

-- what is said of a log is said of what is taken of it
pub logged_more : (IsLog IsMore : List ℕ → Type 0) (old new : Option (List ℕ)) → IsLogTaken IsLog old new → ((text : List ℕ) → IsLog text → IsMore text) → IsLogTaken IsMore old new
logged_more IsLog IsMore old new (inl same) more = inl same
logged_more IsLog IsMore old new (inr (text, is, taken)) more = inr (text, more text is, taken)

-- the same of equal words
pub logged_as : (IsLog : List (List ℕ) → List ℕ → Type 0) (old new : Option (List ℕ)) (given words : List (List ℕ)) → given ≡ words → IsLogTaken (IsLog given) old new → IsLogTaken (IsLog words) old new
logged_as IsLog old new given words same logged = subst (λ (w : List (List ℕ)). IsLogTaken (IsLog w) old new) same logged

-- what is taken is what the log is
pub taken : (IsLog : List ℕ → Type 0) (log : Option (Result (String Global) AllocError)) (old new : Option (List ℕ)) → IfLog IsLog log → TakesLog log old new → IsLogTaken IsLog old new
taken IsLog None old new is same = inl same
taken IsLog (Some (Ok text)) old new is takes = inr (string_bytes text, is, takes)
taken IsLog (Some (Err short)) old new is same = inl same

-- a log that may be made is one of such a kind
pub if_log : (IsLog IsMore : List ℕ → Type 0) (log : Option (Result (String Global) AllocError)) → ((text : List ℕ) → IsLog text → IsMore text) → IfLog IsLog log → IfLog IsMore log
if_log IsLog IsMore None more is = tt
if_log IsLog IsMore (Some (Ok text)) more is = more (string_bytes text) is
if_log IsLog IsMore (Some (Err short)) more is = tt

-- ---- of a site on the network

-- what these fetchers have retrieved by now
pub retrieved_by : {F B : Type 0} (m : Meaning F B) (plan : Plan) (fetchers left : List F) (r : Result (Harvested B) (Halt B)) → AreLater m fetchers left
    → IfOk r (IsRetrieved (SomeSays m fetchers left) (SomeRules m fetchers left) plan (all_gained m fetchers left)) → IfOk r (IsRetrievedBy m plan fetchers)
retrieved_by m plan fetchers left (Ok h) later is = record { left = left; later = later; retrieved = is }
retrieved_by m plan fetchers left (Err halt) later is = tt

-- the log of what a crew retrieved
of_crew : {F B : Type 0} (m : Meaning F B) (order : Order) (fetchers : List F) (r : Result (Harvested B) (Halt B)) → IfOk r (IsRetrievedBy m order.plan fetchers) → (text : List ℕ) → IsLogOfEnd r text
    → IsLogOfCrew m order fetchers text
of_crew m order fetchers (Ok h) retrieved text read = record { harvest = h; retrieved = retrieved; read = read }
of_crew m order fetchers (Err halt) retrieved text read = absurd read

-- what is taken of a log that is made of it
pub crew_taken : {F B : Type 0} (m : Meaning F B) (order : Order) (fetchers : List F) (r : Result (Harvested B) (Halt B)) (log : Option (Result (String Global) AllocError)) (old new : Option (List ℕ))
    → IfOk r (IsRetrievedBy m order.plan fetchers) → IfLog (IsLogOfEnd r) log → TakesLog log old new → IsLogTaken (IsLogOfCrew m order fetchers) old new
crew_taken m order fetchers r log old new retrieved is takes =
    logged_more (IsLogOfEnd r) (IsLogOfCrew m order fetchers) old new (taken (IsLogOfEnd r) log old new is takes) (of_crew m order fetchers r retrieved)

-- ---- of an input

-- the log of what was retrieved of a whole site
of_site : (order : Order) (site : RecordedAnswers) (may_say : Text → Outcome → BodyValue → Type 0) (may_rule : Text → RuleSetValue → Type 0) (asks : List Ask) (r : Result (Harvested BodyValue) (Halt BodyValue))
    → IfOk r (λ h. IsRetrieved may_say may_rule order.plan asks h) → IfOk r (λ h. IsCompleteFor (policy order.plan) (whole_of site) h.state) → (text : List ℕ) → IsLogOfEnd r text → IsLogOfSite order site text
of_site order site may_say may_rule asks (Ok h) is complete text read = record { harvest = h; follows = is.follows; complete = complete; quiet = is.quiet; read = read }
of_site order site may_say may_rule asks (Err halt) is complete text read = absurd read

-- an output has the log that was made
pub output_logged : (order : Order) (site : RecordedAnswers) (may_say : Text → Outcome → BodyValue → Type 0) (may_rule : Text → RuleSetValue → Type 0) (asks : List Ask) (r : Result (Harvested BodyValue) (Halt BodyValue))
    (log : Option (Result (String Global) AllocError)) (result : Result RunOutput AllocError) → IfLog (IsLogOfEnd r) log → IfOk r (λ h. IsRetrieved may_say may_rule order.plan asks h)
    → IfOk r (λ h. IsCompleteFor (policy order.plan) (whole_of site) h.state) → IfOk result (λ output. output.rejected ≡ log)
    → IfOk result (λ output. IsOutputOf order site (string_bytes output.text) output.status)
    → IfOk result (λ output. IsOutputOf order site (string_bytes output.text) output.status × IfLog (IsLogOfSite order site) output.rejected)
output_logged order site may_say may_rule asks r log (Ok output) made is complete same told =
    (told, subst (IfLog (IsLogOfSite order site)) (sym same) (if_log (IsLogOfEnd r) (IsLogOfSite order site) log (of_site order site may_say may_rule asks r is complete) made))
output_logged order site may_say may_rule asks r log (Err short) made is complete same told = tt

-- the same by what is read
pub log_told : (IsOf : List ℕ → RecordedAnswers → Type 0) (order : Order) (known : Option (List ℕ)) (site : RecordedAnswers) (log : Option (Result (String Global) AllocError)) → DescribesSite IsOf known site
    → IfLog (IsLogOfSite order site) log → IfLog (IsLogDescribed IsOf order known) log
log_told IsOf order known site log describes is = if_log (IsLogOfSite order site) (IsLogDescribed IsOf order known) log (λ text log. (site, describes, log)) is
