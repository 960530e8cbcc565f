-- Which lines of a report have a name.
use Rattle.std.specs.Prelude.{ℕ, Bool, false, ◌&&◌, List, Option, option_map}
use Rattle.std.specs.List.{filter_map}
use Rattle.follow_filters.specs.Rules.{keeps_of}
use Rattle.follow_filters.specs.declared.plan.Plan.{Plan}
use Rattle.harvest.specs.Pages.{is_success}
use Rattle.report.specs.Report.{Line, Fate, Asked, Refused}

-- it was requested, and answered with success (RFC 9110, section 15.3)
abbrev pub has_succeeded : Fate → Bool
has_succeeded (Asked x) = is_success x
has_succeeded Refused = false

-- its page is one to keep: it was answered with success, and its file name is one that the plan keeps (GNU Wget manual,
-- Types of Files)
abbrev pub is_to_keep : Plan → Line → Bool
is_to_keep plan line = has_succeeded line.fate && keeps_of plan line.address

-- the addresses of the lines that have a name, in their order
abbrev pub named_pages : List Line → List (List ℕ)
named_pages lines = filter_map (λ line. option_map (λ name. line.address) line.name) lines

-- the names of the lines that have one, in their order
abbrev pub names_in : List Line → List (List ℕ)
names_in lines = filter_map (λ line. line.name) lines
