-- What a live retrieval found, what it writes of that and what it leaves in its folder, with no word of how it came there: which
-- events led to it says `Live`. What a live site answers isn't known beforehand, so all is said of what was recorded.
use Rattle.std.specs.Prelude.{◌≡◌, ◌≢◌, ◌⊎◌, ℕ, Bool, List, [], ◌++◌, length, codes, Option, Contains, true, false}
use Rattle.std.specs.Fmt.{decimal}
use Rattle.std.specs.List.{AllZip, sum_by}
use Rattle.follow_filters.specs.declared.plan.Plan.{Plan}
use Rattle.options.specs.declared.naming.PageNames.{PageNames}
use Rattle.options.specs.declared.order.Order.{Order}
use Rattle.fetcher.specs.declared.fetcher.Ask.{Ask}
use Rattle.fetcher.specs.declared.fetcher.Ask.TheVariants as ask
use Rattle.fetcher.specs.declared.fetcher.Fetcher.{Ghosts as Meaning}
use Rattle.fetcher.specs.declared.outcome.Outcome.{Outcome}
use Rattle.robots_rules.specs.Access.{RuleSetValue}
use Rattle.frontier_core.specs.Tables.{Text}
use Rattle.frontier_core.specs.Routes.{Answers, HasTooMany, IsWanted, IsNeeded}
use Rattle.frontier_core.specs.Plans.{policy}
use Rattle.frontier_core.specs.Readers.{Recorded}
use Rattle.frontier_core.specs.declared.event.Cause.TheVariants as cause
use Rattle.harvest.specs.Pages.{IsBodyOf}
use Rattle.workers.specs.Asks.{IsOfSite}
use Rattle.workers.specs.Crews.{AreLater, all_gained, SomeSays, SomeRules}
use Rattle.workers.specs.Found.{AreMadeOnce, AreAsked}
use Rattle.workers.specs.Quotas.{IsPassed}
use Rattle.local_tree.specs.Folders.{Holding}
use Rattle.local_tree.specs.Changes.{IsShelvedAs, IsHalfShelvedAs}
use Rattle.local_tree.specs.Shelves.{IsShelved, IsHalfShelved}
use Rattle.report.specs.Named.{named_pages, names_in}
use Rattle.report.specs.Report.{Line, report_text}
use Rattle.retriever.specs.Keeping.{Keeping, kinds_of}
use Rattle.retriever.specs.Mirrored.{AreRecordsOf, kept_by, links_become}
use Rattle.retriever.specs.Parts.{IsDelivered}
use Rattle.retriever.specs.Retrieved.{Finish, Retrieved, Stopped}
use Rattle.retriever.specs.Run.{finish_text, finish_status}
use Rattle.retriever.specs.Site.{AreLines, AreFrontLines, AreNamed}

-- ---- a crew

-- what the fetchers of a retrieval mean, how their bodies are kept, and what they are at its start and at its end, in their order
pub record Crew (F B : Type 0) : Type 1 where
  pub means : Meaning F B
  pub keeps : Keeping B
  pub first : List F
  pub left : List F

-- the fetchers of this meaning that were those and are these
abbrev pub crew_of : {F B : Type 0} → Meaning F B → Keeping B → List F → List F → Crew F B
crew_of m keeps first left = record { means = m; keeps = keeps; first = first; left = left }

-- some fetcher of which the address was requested may say this of it
abbrev pub MaySay : {F B : Type 0} → Crew F B → Text → Outcome → B → Type 0
MaySay crew = SomeSays crew.means crew.first crew.left

-- some fetcher of which the origin's rules were requested may say that they are these
abbrev pub MaySayRules : {F B : Type 0} → Crew F B → Text → RuleSetValue → Type 0
MaySayRules crew = SomeRules crew.means crew.first crew.left

-- what the fetchers were asked between, all together
abbrev pub asks_of : {F B : Type 0} → Crew F B → List Ask
asks_of crew = all_gained crew.means crew.first crew.left

-- ---- what was found

-- Exactly this is recorded of what the fetchers were asked, each ask made once. The lines are those of the breadth-first retrieval of
-- what is recorded, whose pages have their names by these rules and by the kinds of their bodies, and the bodies those of the pages with names, each one that the
-- fetchers may have answered.
pub record IsFound {F B : Type 0} (crew : Crew F B) (plan : Plan) (naming : PageNames) (recorded_as : Answers) (lines : List Line) (bodies : List B) : Type 0 where
  pub asked : AreAsked (MaySay crew) (MaySayRules crew) plan (asks_of crew) recorded_as
  pub reported : AreLines (policy plan) recorded_as lines
  pub named : AreNamed plan naming (kinds_of crew.keeps.kind_of bodies) lines
  pub kept : AllZip (IsBodyOf (MaySay crew) recorded_as) (named_pages lines) bodies

-- This is recorded of what the fetchers were asked before the retrieval stopped: what was requested, each once, is wanted by what
-- is recorded. Each outcome and rule set is one that the fetchers may have answered.
pub record IsPartFound {F B : Type 0} (crew : Crew F B) (plan : Plan) (recorded_as : Answers) : Type 0 where
  pub once : AreMadeOnce (asks_of crew)
  pub wanted : (u : Text) → Contains (asks_of crew) (ask.Page u) → IsWanted (policy plan) recorded_as u
  pub needed : (o : Text) → Contains (asks_of crew) (ask.Rules o) → IsNeeded (policy plan) recorded_as o
  pub told : IsOfSite (MaySay crew) (MaySayRules crew) recorded_as

-- A front of what is to be found: what is recorded of what the fetchers were asked before nothing more was requested. Each line is of an
-- address to which a route of what is recorded leads, and its page, if it has a name, has the body that the fetchers may have answered.
pub record IsFrontFound {F B : Type 0} (crew : Crew F B) (plan : Plan) (naming : PageNames) (recorded_as : Answers) (lines : List Line) (bodies : List B) : Type 0 where
  pub part : IsPartFound crew plan recorded_as
  pub reported : AreFrontLines (policy plan) recorded_as lines
  pub named : AreNamed plan naming (kinds_of crew.keeps.kind_of bodies) lines
  pub kept : AllZip (IsBodyOf (MaySay crew) recorded_as) (named_pages lines) bodies

-- What a report says: all that is to be found, if the bodies have no more bytes than the quota; a front of it, if they have more.
abbrev pub IsReportFound : {F B : Type 0} → Crew F B → Order → Answers → List Line → List B → Type 0
IsReportFound crew order m lines bodies =
    let passed = IsPassed order.quota (sum_by crew.keeps.len_of bodies) in ((¬ passed) × IsFound crew order.plan order.names m lines bodies) ⊎ (passed × IsFrontFound crew order.plan order.names m lines bodies)

-- ---- what it results in

-- what a live run has around it at one moment: what is known of its folder's contents, and what its writer got
pub record Outside : Type 0 where
  pub folder : Holding
  pub written : Option (List ℕ)

-- these around it
abbrev pub outside : Holding → Option (List ℕ) → Outside
outside folder written = record { folder = folder; written = written }

-- what the retrieval results in, if the files of its report are all whole; or a report's lines, of whose files this many are
-- whole since the next put failed; or a report's lines, of whose files some have the bodies as they came though links of them were to change
pub data LiveEnd : Type 0 where
  Finished : Finish → LiveEnd
  Torn : List Line → ℕ → LiveEnd
  Unchanged : List Line → LiveEnd

-- the line that says how many files are whole
abbrev pub torn_line : ℕ → List ℕ
torn_line whole = codes "files written " ++ decimal whole ++ codes "\n"

-- the line that says that links of some files weren't changed
abbrev pub unchanged_line : List ℕ
unchanged_line = codes "links not changed\n"

-- the text of an end
abbrev pub live_text : LiveEnd → List ℕ
live_text (Finished finish) = finish_text finish
live_text (Torn lines whole) = report_text lines ++ torn_line whole
live_text (Unchanged lines) = report_text lines ++ unchanged_line

-- its status
abbrev pub live_status : LiveEnd → ℕ
live_status (Finished finish) = finish_status finish
live_status (Torn lines whole) = 3
live_status (Unchanged lines) = 3

-- so many of the files of these lines are whole, the next may hold anything, and all else is as before; if links are changed, a file is
-- whole that has its body or that with its links changed
abbrev pub IsTornAt : {B : Type 0} → Bool → Keeping B → Answers → List Line → List B → Holding → Holding → ℕ → Type 0
IsTornAt false keeps m lines bodies old new whole = IsHalfShelved keeps.holds (names_in lines) bodies old new whole
IsTornAt true keeps m lines bodies old new whole =
    (records : List Recorded) × AreRecordsOf m records × IsHalfShelvedAs (links_become (kept_by lines records)) keeps.holds (names_in lines) bodies old new whole

-- all files of these lines are whole, and all else is as before; if links are changed, each has its body with its links changed, or, if not
-- all could be, some have their bodies
abbrev pub IsPutAt : {B : Type 0} → Bool → Bool → Keeping B → Answers → List Line → List B → Holding → Holding → Type 0
IsPutAt false false keeps m lines bodies old new = ⊥
IsPutAt false true keeps m lines bodies old new = IsShelved keeps.holds (names_in lines) bodies old.files new.files × (new.failed ≡ old.failed)
IsPutAt true all keeps m lines bodies old new =
    (records : List Recorded) × AreRecordsOf m records × IsShelvedAs (links_become (kept_by lines records)) all keeps.holds (names_in lines) bodies old new
    × (new.failed ≡ old.failed)

-- The retrieval that is ordered found what is to be found, or a front of it as large as the quota, and this is the result. Before its end nothing is
-- put into the folder. The table is full only if what is recorded has more candidates than the plan lets be held. Memory may run out at any time, and
-- may do so when a put has failed. A check of several workers may fail; then nothing more is promised.
abbrev pub EndsFound : {F B : Type 0} → Crew F B → Order → Holding → Holding → LiveEnd → Type 0
EndsFound {B = B} crew order old new (Finished (Retrieved lines)) =
    (m : Answers) × (bodies : List B) × IsReportFound crew order m lines bodies × IsPutAt order.converts true crew.keeps m lines bodies old new
EndsFound {B = B} crew order old new (Torn lines whole) =
    (m : Answers) × (bodies : List B) × IsReportFound crew order m lines bodies × IsTornAt order.converts crew.keeps m lines bodies old new whole
EndsFound {B = B} crew order old new (Unchanged lines) =
    (m : Answers) × (bodies : List B) × IsReportFound crew order m lines bodies × IsPutAt order.converts false crew.keeps m lines bodies old new
EndsFound crew order old new (Finished (Stopped cause.Full)) = (m : Answers) × IsPartFound crew order.plan m × HasTooMany (policy order.plan) m × (new ≡ old)
EndsFound {B = B} crew order old new (Finished (Stopped cause.Memory)) = AreMadeOnce (asks_of crew)
    × ((new ≡ old) ⊎ ((m : Answers) × (lines : List Line) × (bodies : List B) × (whole : ℕ) × IsReportFound crew order m lines bodies
    × IsTornAt order.converts crew.keeps m lines bodies old new whole))
EndsFound crew order old new (Finished (Stopped cause.Mismatch)) = (length crew.first ≢ 1) × (new ≡ old)
EndsFound crew order old new (Finished (Stopped cause.Quota)) = ⊥

-- A live retrieval with these fetchers, one for each worker: it found what is to be found, by what the fetchers were asked and
-- may have answered until its end. Either the writer gained that end's text, after a trace if one is ordered, and the
-- status is the end's, or the writer failed after a front of it, and the status is 1.
pub record Finds {F B : Type 0} (m : Meaning F B) (keeps : Keeping B) (order : Order) (fetchers : List F) (before after : Outside) (status : ℕ) : Type 0 where
  pub left : List F
  pub later : AreLater m fetchers left
  pub ending : LiveEnd
  pub ends : EndsFound (crew_of m keeps fetchers left) order before.folder after.folder ending
  pub trace : List ℕ
  pub untraced : order.trace ≡ false → trace ≡ []
  pub written : IsDelivered before.written after.written (trace ++ live_text ending) (live_status ending) status
