-- Which pages are kept, and with which bodies (GNU Wget manual, Types of Files; RFC 9110, section 15.3).
use Rattle.std.specs.Prelude.{◌≡◌, Bool, false, Some, IsTrue}
use Rattle.follow_filters.specs.Rules.{keeps_of}
use Rattle.follow_filters.specs.declared.plan.Plan.{Plan}
use Rattle.fetcher.specs.Statuses.{is_successful}
use Rattle.fetcher.specs.declared.outcome.Outcome.{Outcome}
use Rattle.fetcher.specs.declared.outcome.Outcome.TheVariants.{Page, Moved, Leaf, Fault}
use Rattle.frontier_core.specs.Tables.{Text}
use Rattle.frontier_core.specs.Routes.{Answers}

-- a response of a successful status
abbrev pub is_success : Outcome → Bool
is_success (Page status edges) = is_successful status
is_success (Moved status target) = is_successful status
is_success (Leaf status) = is_successful status
is_success (Fault kind) = false

-- the record has a successful response of the address, and its file name is one that the plan keeps
abbrev pub IsKept : Plan → Answers → Text → Type 0
IsKept plan m u = (x : Outcome) × (m.outcome u ≡ Some x) × IsTrue (is_success x) × IsTrue (keeps_of plan u)

-- the site may give this body, whatever represents bodies, with the outcome that the record has
abbrev pub IsBodyOf : {B : Type 0} → (Text → Outcome → B → Type 0) → Answers → Text → B → Type 0
IsBodyOf may_say m u body = (x : Outcome) × (m.outcome u ≡ Some x) × may_say u x body
